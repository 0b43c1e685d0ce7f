use Rattle.std.proofs.Common.{◌≡◌, ◌+◌, ◌*◌, ◌-◌, ◌≤◌, None, vec_capacity, vec_len}
use Rattle.mc_load.specs.Inside.Workers.{HasWritten, IsWriting}
use Rattle.mc_load.proofs.writer_thread.WriterThreadWork.run.Given as goal

abbrev pub invariant-loop-n : goal.invariant-loop-n
invariant-loop-n g l = record {
  refused : l.self.refused ≡ None;
  cache : l.self.cache ≡ l.fn.self.cache;
  writing : IsWriting g.row.V l.self.cache.now l.self;
  written : HasWritten g.row.V l.fn.load l.n l.self;
  len : vec_len l.self.journal ≤ 2 * l.n;
  room : vec_len l.self.journal + 2 * (l.fn.load.writes - l.n) ≤ vec_capacity l.self.journal;
}
