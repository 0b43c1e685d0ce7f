use Rattle.std.proofs.Common.{ℕ, ◌≤◌, ◌^◌}
use Rattle.mc_replay.specs.Replay.{Scene, first_replay, first_scene}
use Rattle.mc_words.specs.Readers.{HasReaders}
use Rattle.mc_replay.specs.Inside.Players.{shape_of_player, most_before, Fits, FitsScene}
use Rattle.mc_replay.specs.Inside.Steps.{KnownSoFar}
use Rattle.mc_replay.proofs.engine.play_lines.Given as goal

-- the lines so far were played, whatever the number of readers is
abbrev pub invariant-lines : goal.invariant-lines
invariant-lines g l =
    ((readers : ℕ) → HasReaders readers → Fits g.row.V l.fn.player 0 (first_replay g.row.V (shape_of_player {V = g.row.V} l.fn.player) readers) →
    (s : Scene g.row.V) × FitsScene g.row.V l.player (most_before l.before) s ×
    KnownSoFar g.row.V (first_scene g.row.V (shape_of_player {V = g.row.V} l.fn.player) readers) (g.R.Read.remaining l.fn.input) (g.R.Read.remaining l.input) (g.W.Write.contents l.fn.output) (g.W.Write.contents l.output) l.before s) ×
    (l.before ≤ 2 ^ 40)
