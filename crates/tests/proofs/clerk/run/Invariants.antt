use Rattle.mc_words.specs.Checks.{shape_of}
use Rattle.mc_plan.specs.Clerks.{acts_left}
use Rattle.tests.specs.Drivers.{IsMaking}
use Rattle.tests.proofs.clerk.run.Given as goal

abbrev pub invariant-acts : goal.invariant-acts
invariant-acts l = IsMaking l.clerk (shape_of l.driver.checked) l.driver.words.items l.driver.key

abbrev pub decreases-acts : goal.decreases-acts
decreases-acts l = acts_left l.clerk
