use Rattle.std.proofs.Common.{◌≡◌, ap, refl, sym, ◌∙◌, subst, arith}
use Rattle.mc_shared.specs.Views.{Both, view_as, acts_of, tally_of, number_of, front_of, done_of}
use Rattle.mc_shared.specs.Steps.{SeatView}
use Rattle.mc_shared.specs.Records.{Opening}
use Rattle.mc_shared.proofs.CutSeats.{joins_as, splits_back_as}
use Rattle.mc_shared.proofs.EachStep.{compares_as}
use Rattle.mc_shared.proofs.SeatViews.{met_is}
use Rattle.mc_shared.proofs.catch_up.catch_on_seats.Goals as goal

pub join-requires-clause-of : goal.join-requires-clause-of
join-requires-clause-of c = (ap (λ (o : Opening). o.table) c.requires.of.0, ap (λ (o : Opening). o.table) c.requires.of.1)

pub join-requires-clause-empty : goal.join-requires-clause-empty
join-requires-clause-empty c = ap (λ (m : SeatView). m.1) c.requires.reads

pub join-requires-clause-allowed : goal.join-requires-clause-allowed
join-requires-clause-allowed c = joins_as _ _ refl _ _ _ _ (ap (λ (m : SeatView). m.0) c.requires.writes) (ap (λ (m : SeatView). m.0) c.requires.reads)

pub load-word-requires-clause-of : goal.load-word-requires-clause-of
load-word-requires-clause-of c = c.join.ensures.of.0 ∙ ap (λ (o : Opening). o.table) c.requires.of.0

pub load-word-requires-clause-allowed : goal.load-word-requires-clause-allowed
load-word-requires-clause-allowed c = compares_as _ _ refl _ _ _ (met_is c.args.ruled.now.layout c.args.seat.now.me c.join.new.seat.me c.args.other.me.0 c.requires.writes c.join.ensures.joined) 0 (omega arith)

pub split-parted-requires-clause-of : goal.split-parted-requires-clause-of
split-parted-requires-clause-of c = c.load-word.ensures.of.0 ∙ (c.join.ensures.of.0 ∙ ap (λ (o : Opening). o.table) c.requires.of.0)

pub split-parted-requires-clause-allowed : goal.split-parted-requires-clause-allowed
split-parted-requires-clause-allowed c =
    let joined = ap (λ (m : SeatView). m.0) (met_is c.args.ruled.now.layout c.args.seat.now.me c.join.new.seat.me c.args.other.me.0 c.requires.writes c.join.ensures.joined) in
    splits_back_as _ _ refl _ _ (subst (λ (m : SeatView). m.0 ≡ view_as c.args.ruled.now.layout (Both (acts_of m.0) (tally_of m.0) (number_of m.0) (front_of m.0) (done_of m.0))) (sym c.load-word.ensures.told.0) joined)
