use Rattle.std.proofs.Common.{ap, refl}
use Rattle.mc_shared.specs.Steps.{SeatView}
use Rattle.mc_shared.specs.Records.{Opening}
use Rattle.mc_shared.proofs.CutSeats.{splits_new_as}
use Rattle.mc_shared.proofs.SeatViews.{new_reader}
use Rattle.mc_shared.proofs.opening.seat_reader.Goals as goal

pub split-other-requires-clause-of : goal.split-other-requires-clause-of
split-other-requires-clause-of c = ap (λ (o : Opening). o.table) c.requires.of

pub split-other-requires-clause-allowed : goal.split-other-requires-clause-allowed
split-other-requires-clause-allowed c = splits_new_as _ _ refl _ _ _ (ap (λ (m : SeatView). m.0) c.requires.seat)

pub invariant_of-result : goal.invariant_of-result
invariant_of-result c = new_reader c.args.seat.now.me.0.layout _ _ c.split-other.result.me.0 c.into_badge.ensures.2 (ap (λ (m : SeatView). m.0) c.split-other.ensures.new)
