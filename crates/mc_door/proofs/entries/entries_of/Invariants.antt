use Rattle.std.specs.Prelude.{ℕ, ◌≡◌, ◌+◌, ◌*◌, ◌++◌, drop}
use Rattle.mc_door.specs.Loading.{entries_in}
use Rattle.mc_door.proofs.entries.entries_of.Given as goal

abbrev pub invariant-loop-index : goal.invariant-loop-index
invariant-loop-index g l =
    (rest : ℕ) → l.index + rest ≡ l.count → l.entries.items ++ entries_in g.row.V rest (drop (l.index * (1 + g.row.V)) l.words) ≡ entries_in g.row.V l.count l.words
