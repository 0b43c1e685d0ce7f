use Rattle.std.proofs.Common.{arith}
use Rattle.mc_plan.specs.Clerks.{acts_left}
use Rattle.mc_plan.proofs.clerk.Clerk.put_kept.Goals as goal

pub returns-clause-left : goal.returns-clause-left
unfolding acts_left
returns-clause-left g c = omega (arith, c.start_put_kept-answer.ensures.fits)
