use Rattle.std.proofs.Common.{◌≡◌, ◌++◌, take, string_bytes}
use Rattle.mc_replay.specs.Texts.{left_lines}
use Rattle.mc_replay.proofs.reopening.tell_all.Given as goal

abbrev pub invariant-loop-at : goal.invariant-loop-at
invariant-loop-at g l = string_bytes l.text ≡ string_bytes l.fn.text ++ left_lines l.fn.entries (take l.at l.fn.left)
