use Rattle.std.proofs.Common.{take}
use Rattle.mc_theory.specs.Traces.{Trace}
use Rattle.mc_replay.specs.Inside.Players.{IsIdle}
use Rattle.mc_replay.specs.Inside.Reopenings.{HasLoaded}
use Rattle.mc_replay.proofs.reopening.load.Given as goal

-- the first entries were put, whatever trace the world showed
abbrev pub invariant-loop-index : goal.invariant-loop-index
invariant-loop-index g l = (w : Trace g.row.V) → IsIdle g.row.V l.fn.player 0 w → HasLoaded g.row.V l.fn.player l.player w (take l.index l.fn.entries) l.left.items
