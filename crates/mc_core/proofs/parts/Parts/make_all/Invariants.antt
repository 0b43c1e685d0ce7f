use Rattle.std.proofs.Common.{◌+◌, ◌≤◌, vec_len, vec_capacity, length, take}
use Rattle.mc_core.specs.Inside.Parts.{MakesEvents}
use Rattle.mc_core.specs.Inside.Writers.{room_of}
use Rattle.mc_core.proofs.parts.Parts.make_all.Given as goal

abbrev pub invariant-loop-i : goal.invariant-loop-i
invariant-loop-i g l = record {
  made : MakesEvents {V = g.row.V} l.initial.self l.self (take l.i l.events) l.initial.done.items l.done.items;
  room : length l.events ≤ room_of {V = g.row.V} l.self.writer + l.i;
  spare : vec_len l.done + length l.events ≤ vec_capacity l.done + l.i;
}
