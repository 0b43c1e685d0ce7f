use Rattle.std.proofs.Common.{ℕ, ◌+◌, ◌-◌, ◌^◌, ◌<◌}
use Rattle.mc_theory.specs.Traces.{Trace}
use Rattle.mc_plan.specs.Clerks.{acts_left, next_act}
use Rattle.std.specs.Prelude.{IsSome}
use Rattle.mc_replay.specs.Replay.{Pending}
use Rattle.mc_replay.specs.Inside.Players.{IsInCall}
use Rattle.mc_replay.proofs.WriterCalls.{MakesSome}
use Rattle.mc_replay.proofs.player.Player.finish.Given as goal

abbrev pub decreases-acts : goal.decreases-acts
decreases-acts g l = acts_left l.self.clerk

abbrev pub invariant-acts : goal.invariant-acts
invariant-acts g l =
    IsSome (next_act l.self.clerk) × ((most : ℕ) (p : Pending g.row.V) (w : Trace g.row.V) → IsInCall g.row.V l.fn.self most p w → IsSome (next_act l.fn.self.clerk) → most + acts_left l.fn.self.clerk < 2 ^ 64 - 1 → MakesSome g.row.V l.fn.self l.self most p w)
