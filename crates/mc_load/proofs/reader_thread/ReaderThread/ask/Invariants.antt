use Rattle.std.proofs.Common.{ℕ, ◌≡◌, ◌+◌, length, take}
use Rattle.mc_load.specs.Drawn.{HasDrawn}
use Rattle.mc_load.specs.Inside.Drawn.{AreNext}
use Rattle.mc_load.specs.declared.asked.Load.{Load}
use Rattle.mc_load.proofs.reader_thread.ReaderThread.ask.Given as goal

abbrev pub invariant-loop-n : goal.invariant-loop-n
invariant-loop-n g l = record {
  drawn : (load : Load) (who n : ℕ) → HasDrawn load who n l.fn.self.draws → HasDrawn load who (n + l.n) l.self.draws;
  keys : (load : Load) (who n : ℕ) → HasDrawn load who n l.fn.self.draws → AreNext load who n (take l.n l.keys);
  len : length l.keys ≡ length l.fn.keys;
  handle : l.self.handle ≡ l.fn.self.handle;
  records : l.self.records ≡ l.fn.self.records;
  number : l.self.number ≡ l.fn.self.number;
  refused : l.self.refused ≡ l.fn.self.refused;
}
