use Rattle.mc_words.specs.Checks.{shape_of}
use Rattle.tests.specs.Drivers.{IsBeside}
use Rattle.tests.proofs.clerk_rows.check_rows_of.Given as goal

abbrev pub invariant-loop-n : goal.invariant-loop-n
invariant-loop-n l = IsBeside l.clerk (shape_of l.driver.checked) l.driver.words.items
