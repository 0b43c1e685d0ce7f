use Rattle.std.proofs.Common.{◌≡◌, ℕ, ◌%◌, ◌<◌}
use Rattle.mc_words.specs.Places.{version}
use Rattle.mc_theory.specs.Lists.{state_of}
use Rattle.mc_shared.proofs.writer_calls.running_deed.Given as goal

-- the versions that were read are even
abbrev pub invariant-loop-stripe : goal.invariant-loop-stripe
invariant-loop-stripe g l = (l.writer ≡ l.fn.writer) × ((t : ℕ) → t < l.stripe → version (state_of g.row.V l.fn.cells.layout.shape l.fn.writer.acts).words t % 2 ≡ 0)
