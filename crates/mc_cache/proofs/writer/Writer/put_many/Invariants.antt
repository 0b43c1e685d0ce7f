use Rattle.std.proofs.Common.{◌≡◌, take}
use Rattle.mc_cache.specs.Batches.{HavePut, PutsMean}
use Rattle.mc_cache.specs.Plain.{history}
use Rattle.mc_cache.proofs.writer.Writer.put_many.Given as goal

abbrev pub invariant-loop-index : goal.invariant-loop-index
invariant-loop-index g l = record {
  of : l.self.of ≡ l.fn.self.of;
  put : HavePut g.row.V l.fn.cache.layout.shape (take l.index l.fn.entries) l.fn.self l.self (take l.index l.answers);
  plain : PutsMean g.row.V (history g.row.V l.fn.self) (history g.row.V l.self) (take l.index l.fn.entries) (take l.index l.answers);
}
