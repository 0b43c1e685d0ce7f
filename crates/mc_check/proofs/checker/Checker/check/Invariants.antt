use Rattle.std.proofs.Common.{◌≤◌, take}
use Rattle.mc_check.specs.Wrong.{AreWrong}
use Rattle.mc_check.proofs.checker.Checker.check.Given as goal

abbrev pub invariant-loop-n : goal.invariant-loop-n
invariant-loop-n g l = record {
  wrong : AreWrong l.fn.self (take l.n l.fn.records) l.wrong;
  few : l.wrong ≤ l.n;
}
