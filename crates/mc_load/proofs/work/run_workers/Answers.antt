use Rattle.std.proofs.Common.{ℕ, List, Option, ◌≡◌, ◌<◌, ◌≤◌, ap, arith, inl, length, refl, subst, sym, vec_len, ◌∙◌}
use Rattle.std.specs.Prelude.{IfNone, IfSome}
use Rattle.mc_shared.specs.Records.{Opening}
use Rattle.mc_load.specs.Inside.Workers.{AreReadersOf, AreWhole, HasWritten, HaveAllGot}
use Rattle.mc_load.specs.declared.reader_thread.ReaderThread.{ReaderThread}
use Rattle.mc_load.specs.Lookups.{one_shard}
use Rattle.mc_load.proofs.Looked.{all_got}
use Rattle.mc_load.proofs.OneShard.{cache_places}
use Rattle.mc_load.proofs.Readers.{all_noted}
use Rattle.mc_load.proofs.Works.{all_ended, still_readers, writer_ended}
use denote.Param.Send.{sendable}
use Rattle.std.proofs.Crossing.{crosses}
use Rattle.mc_cache.proofs.Sent.{desk_sync}
use Rattle.mc_cache.proofs.cache.Cache.TheSendSync.{the_sync as cache_sync}
use Rattle.mc_cache.proofs.reader.Reader.TheSendSync.{the_send as reader_send}
use Rattle.mc_shards.proofs.Sent.{pass_send, shards_sync}
use Rattle.mc_load.proofs.work.run_workers.Goals as goal

pub run_all-requires-send-B : goal.run_all-requires-send-B
run_all-requires-send-B g c κs within = search (sendable, crosses, desk_sync, shards_sync, cache_sync, reader_send, pass_send) depth 40

pub returns-in-Some-refused : goal.returns-in-Some-refused
returns-in-Some-refused g c =
    let may : ℕ → ℕ → Type 0 = g.G.Gate.may_refuse c.args.gate.now in
    let load = c.args.load in
    let one : length c.in-Ok.writer_threads.items ≡ 1 = omega (arith, c.in-Ok.ensures.one, c.in-Ok.writer_threads.ok.0) in
    let end = writer_ended may load c.in-Ok.writer_threads.items c.run_all.new.writers.items c.pop.new.self.items c.in-Some.writer_thread one c.in-Some.ensures.items c.run_all.ensures.written in
    let told = subst (λ (o : Option ℕ). IfSome o (λ call. (1 ≤ call) × (call ≤ load.writes) × may 0 call)) c.in-Some-refused.is end.refused in
    (c.requires.keys, c.requires.asked.0, c.requires.asked.1, (told.0, inl (refl, told.1)), told.2)

pub report_of-requires : goal.report_of-requires
report_of-requires g c =
    let V = g.row.V in
    let may : ℕ → ℕ → Type 0 = g.G.Gate.may_refuse c.args.gate.now in
    let load = c.args.load in
    let before = c.in-Ok.writer_threads.items in
    let x = c.in-Some.writer_thread in
    let one : length before ≡ 1 = omega (arith, c.in-Ok.ensures.one, c.in-Ok.writer_threads.ok.0) in
    let end = writer_ended may load before c.run_all.new.writers.items c.pop.new.self.items x one c.in-Some.ensures.items c.run_all.ensures.written in
    let low : 0 < length before = omega (arith, one) in
    let cache = ap (λ q. q.now) end.cache ∙ c.in-Ok.ensures.of 0 x low in
    let written : HasWritten V load load.writes x = subst (λ (o : Option ℕ). IfNone o (HasWritten V load load.writes x)) c.in_default-refused.is end.written in
    let ls = c.run_all.new.readers.items in
    let looked = c.in-Ok-reader_threads_of.reader_threads in
    let read = c.run_all.ensures.read in
    let same = read.0 in
    let len : vec_len c.run_all.new.readers ≡ load.readers = omega (arith, same, c.in-Ok-reader_threads_of.ensures.len, looked.ok.0, c.run_all.new.readers.ok.0) in
    let most = c.requires.asked.1.1 in
    let ended = all_ended may load looked.items ls c.in-Ok-reader_threads_of.ensures.ready read in
    let whole : AreWhole ls = subst (λ (z : List (ReaderThread V)). AreWhole z) c.as_slice.ensures.value c.in-None.ensures.none in
    let places = c.in-Ok-reader_threads_of.ensures.place (one_shard c.args.cache.now) (cache_places c.args.handles.items c.args.cache.now c.requires.of) in
    let got = subst (λ (o : Opening). HaveAllGot (one_shard o) ls) (sym cache) (all_got may load (one_shard c.args.cache.now) looked.items ls places read) in
    let of = still_readers may load c.args.cache.now looked.items ls (c.in-Ok-reader_threads_of.ensures.of c.args.cache.now c.requires.of) read in (
      omega arith,
      (
        omega arith,
        (
          c.requires.width,
          (
            (c.requires.asked.0, ap (λ (o : Opening). o.layout.shape) cache ∙ c.requires.asked.2),
            (
              end.writing,
              (
                written,
                (
                  end.few,
                  (
                    len,
                    (omega (arith, len, most), (subst (λ (o : Opening). AreReadersOf o ls) (sym cache) of, (ended, (all_noted load ls ended whole, got)))),
                  ),
                ),
              ),
            ),
          ),
        ),
      ),
    )
