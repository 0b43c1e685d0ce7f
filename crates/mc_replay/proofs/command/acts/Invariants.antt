use Rattle.std.proofs.Common.{◌≡◌, ℕ, None, string_bytes}
use Rattle.mc_replay.specs.Replay.{Replay, ActsDo}
use Rattle.mc_replay.specs.Inside.Players.{shape_of_player, HasRoom, Fits, ActsSoFar}
use Rattle.mc_replay.proofs.command.acts.Given as goal

-- this many acts were made, whatever replay the player was
abbrev pub invariant-acts : goal.invariant-acts
invariant-acts g l =
    (most : ℕ) (s : Replay g.row.V) → HasRoom most → Fits g.row.V l.fn.player most s →
    (m : Replay g.row.V) × ActsDo (shape_of_player {V = g.row.V} l.fn.player) l.counter s (string_bytes l.text) None m × ActsSoFar g.row.V l.player most l.counter m × (shape_of_player {V = g.row.V} l.player ≡ shape_of_player {V = g.row.V} l.fn.player)
