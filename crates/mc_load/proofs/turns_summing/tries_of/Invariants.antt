use Rattle.std.proofs.Common.{◌≡◌, ◌+◌, ◌*◌, ◌≤◌, length, take}
use Rattle.std.specs.Prelude.{sum_by}
use Rattle.mc_load.specs.Turns.{Tries}
use Rattle.mc_load.specs.Inside.Sums.{all_tries}
use Rattle.mc_load.proofs.turns_summing.tries_of.Given as goal

abbrev pub invariant-loop-n : goal.invariant-loop-n
invariant-loop-n g l = record {
  sum : l.turns.held + l.turns.answered ≡ l.n * l.fn.load.writes;
  few : l.changes ≤ 2 * l.turns.answered;
  held : l.turns.held ≡ sum_by (λ (t : Tries g.row.V). t.turns.held) (all_tries (take l.n l.fn.turn_threads));
  answered : l.turns.answered ≡ sum_by (λ (t : Tries g.row.V). t.turns.answered) (all_tries (take l.n l.fn.turn_threads));
  changes : l.changes ≡ sum_by (λ (t : Tries g.row.V). length t.journal) (all_tries (take l.n l.fn.turn_threads));
}
