use Rattle.std.proofs.Common.{ap, refl}
use Rattle.mc_shared.specs.Records.{Opening}
use Rattle.mc_shared.proofs.EachStep.{looks_as}
use Rattle.mc_shared.proofs.writer_steps.load_as_writer.Goals as goal

pub load-requires-clause-of : goal.load-requires-clause-of
load-requires-clause-of c = ap (λ (o : Opening). o.table) c.requires.of

pub load-requires-clause-allowed : goal.load-requires-clause-allowed
load-requires-clause-allowed c = looks_as _ _ refl _ _ _ c.requires.seat _ c.requires.place

pub returns-clause-seat : goal.returns-clause-seat
returns-clause-seat c = (c.load.ensures.of.0, c.load.ensures.of.1, c.load.ensures.told.0)
