use Rattle.std.proofs.Common.{ℕ, ◌+◌, ◌*◌, ◌<◌}
use Rattle.mc_words.specs.Standing.{Stands}
use Rattle.mc_core.specs.Inside.Tables.{shape_of_table, words_of_table}
use Rattle.mc_core.proofs.table.Table.find_in.Given as goal

abbrev pub invariant-loop-slot : goal.invariant-loop-slot
invariant-loop-slot g l = (j i : ℕ) → j < l.slot → Stands g.row.V (shape_of_table l.self) (words_of_table l.self) l.key (4 * l.bucket + j) i → ⊥
