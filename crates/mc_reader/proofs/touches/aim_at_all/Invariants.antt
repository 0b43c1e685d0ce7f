use Rattle.std.specs.Prelude.{All}
use Rattle.mc_words.specs.Checks.{shape_of}
use Rattle.mc_reader.specs.Aims.{IsAimIn}
use Rattle.mc_reader.proofs.touches.aim_at_all.Given as goal

abbrev pub invariant-loop-i : goal.invariant-loop-i
invariant-loop-i g l = All (IsAimIn g.row.V (shape_of l.checked)) l.aims
