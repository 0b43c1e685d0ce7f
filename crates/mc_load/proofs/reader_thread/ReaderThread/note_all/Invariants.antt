use Rattle.std.proofs.Common.{◌≡◌, ◌+◌, ◌≤◌, ◌++◌, length, take, vec_capacity}
use Rattle.mc_load.specs.Inside.Handles.{AreAllTold, AreTold}
use Rattle.mc_load.specs.Inside.Workers.{AreNextOf, HasNotedDrawn}
use Rattle.mc_load.specs.Lookups.{keys_in, replies_in}
use Rattle.mc_load.specs.declared.asked.Load.{Load}
use Rattle.mc_load.proofs.reader_thread.ReaderThread.note_all.Given as goal

abbrev pub invariant-loop-n : goal.invariant-loop-n
invariant-loop-n g l = record {
  told : AreAllTold g.row.V l.fn.self.handle l.fn.self.records.items → AreTold g.row.V l.fn.self.handle l.fn.keys l.fn.replies → AreAllTold g.row.V l.self.handle l.self.records.items;
  drawn : (load : Load) → HasNotedDrawn g.row.V load l.fn.self → AreNextOf g.row.V load l.fn.self l.fn.keys → HasNotedDrawn g.row.V load l.self;
  keys : keys_in l.self.records.items ≡ keys_in l.fn.self.records.items ++ take l.n l.fn.keys;
  replies : replies_in l.self.records.items ≡ replies_in l.fn.self.records.items ++ take l.n l.fn.replies;
  len : length l.self.records.items ≡ length l.fn.self.records.items + l.n;
  capacity : vec_capacity l.fn.self.records ≤ vec_capacity l.self.records;
  number : l.self.number ≡ l.fn.self.number;
  refused : l.self.refused ≡ l.fn.self.refused;
  handle : l.self.handle ≡ l.fn.self.handle;
  draws : l.self.draws ≡ l.fn.self.draws;
}
