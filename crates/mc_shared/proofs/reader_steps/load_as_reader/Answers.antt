use Rattle.std.proofs.Common.{◌≡◌, ap, refl, ◌∙◌, Some}
use Rattle.mc_theory.specs.Writes.{place_read}
use Rattle.mc_shared.specs.Records.{Opening}
use Rattle.mc_shared.proofs.EachStep.{reads_as}
use Rattle.mc_shared.proofs.SeatViews.{read_seat, read_one}
use Rattle.mc_shared.proofs.reader_steps.load_as_reader.Goals as goal

pub load-requires-clause-of : goal.load-requires-clause-of
load-requires-clause-of g c = ap (λ (o : Opening). o.table) c.requires.of

pub load-requires-clause-allowed : goal.load-requires-clause-allowed
load-requires-clause-allowed g c =
    let l = c.args.ruled.now.layout in
    let at : place_read l.width l.shape g.J.NamesAccess.access ≡ Some c.args.place = ap (place_read l.width l.shape) c.requires.access ∙ c.requires.place in
    reads_as _ _ refl _ _ _ c.requires.seat g.J.NamesAccess.access _ at c.requires.range

pub returns-clause-seat : goal.returns-clause-seat
returns-clause-seat g c = read_seat c.args.ruled.now.layout c.args.seat.now.me c.load.new.seat.me c.requires.seat c.load.ensures.told.1

pub returns-clause-one : goal.returns-clause-one
returns-clause-one g c = read_one c.args.ruled.now.layout c.args.seat.now.me c.load.new.seat.me g.J.NamesAccess.access c.args.access c.load.result c.requires.access c.requires.seat c.load.ensures.told.2
