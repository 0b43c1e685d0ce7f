use Rattle.std.proofs.Common.{◌≡◌, ◌-◌, ◌≤◌, None, length, vec_capacity}
use Rattle.mc_load.specs.Inside.Handles.{AreAllTold, cache_of, place_of, records_of}
use Rattle.mc_load.specs.Inside.Workers.{HasLookedFrom, HasLookedUpDrawn}
use Rattle.mc_load.proofs.reader_thread.ReaderThreadWork.run.Given as goal

abbrev pub invariant-loop-asked : goal.invariant-loop-asked
invariant-loop-asked g l = record {
  told : AreAllTold g.row.V l.self.handle l.self.records.items;
  cache : cache_of l.self.handle ≡ cache_of l.fn.self.handle;
  place : place_of l.self.handle ≡ place_of l.fn.self.handle;
  looked : HasLookedFrom g.row.V (place_of l.fn.self.handle) (records_of l.fn.self.handle) l.self;
  drawn : HasLookedUpDrawn g.row.V l.fn.load l.self;
  len : length l.self.records.items ≤ l.fn.load.lookups;
  room : l.fn.load.lookups ≤ vec_capacity l.self.records;
  number : l.self.number ≡ l.fn.self.number;
  refused : l.self.refused ≡ None;
}

abbrev pub decreases-loop-asked : goal.decreases-loop-asked
decreases-loop-asked g l = l.fn.load.lookups - length l.self.records.items
