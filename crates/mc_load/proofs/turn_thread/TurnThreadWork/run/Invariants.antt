use Rattle.std.proofs.Common.{◌≡◌, ◌*◌, ◌≤◌, None, vec_capacity}
use Rattle.mc_load.specs.Turns.{HasTriedDrawn}
use Rattle.mc_load.specs.Inside.Handles.{place_of}
use Rattle.mc_load.specs.Inside.Tries.{HasTriedTimes, IsTrying, tries_of}
use Rattle.mc_load.proofs.turn_thread.TurnThreadWork.run.Given as goal

abbrev pub invariant-loop-n : goal.invariant-loop-n
invariant-loop-n g l = record {
  trying : IsTrying g.row.V (place_of l.fn.self.handle) l.fn.load l.fn.self.number l.self;
  tried : HasTriedTimes g.row.V l.fn.load l.n l.self;
  made : HasTriedDrawn g.row.V (place_of l.fn.self.handle) l.fn.load l.fn.self.number l.n (tries_of l.self);
  refused : l.self.refused ≡ None;
  room : 2 * l.fn.load.writes ≤ vec_capacity l.self.journal;
}
