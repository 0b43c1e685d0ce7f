use Rattle.std.proofs.Common.{◌≡◌, ◌∙◌, ap, arith, get_or, length, sym}
use Rattle.std.proofs.lemmas.List.{length-map}
use Rattle.mc_shared.specs.Records.{ReaderRecord, WriterRecord}
use Rattle.mc_shards.proofs.LoadedShards.{met_all, met_more, same_writers, still_readers}
use Rattle.mc_shards.proofs.loading.meet.Goals as goal

pub loop-n-preserved : goal.loop-n-preserved
loop-n-preserved g c =
    let was = c.loop-n.invariant in
    let n = c.loop-n.n in
    let rs = c.loop-n.pass-inside.readers.items in
    let start = c.args.writers.now.items in
    let ws = c.loop-n.writers.items in
    let r = c.index_mut-reader.result.now in
    let w = c.index_mut-writer.result.now in
    let caught = c.catch_up-moment.ensures.reader in
    let long : length rs ≡ length c.args.caches.now.items = sym (length-map rs (λ (x : ReaderRecord). x.of)) ∙ ap length was.pass in
    let as_long : length start ≡ length c.args.caches.now.items = sym (length-map start (λ (x : WriterRecord). x.of)) ∙ ap length c.requires.writers in
    record {
      writers = same_writers ws n w c.catch_up-moment.new.writer c.index_mut-writer.ensures.value c.catch_up-moment.ensures.writer ∙ was.writers;
      pass = still_readers c.args.caches.now.items rs n r c.catch_up-moment.new.self was.pass c.index_mut-reader.ensures.value (ap (λ (x : ReaderRecord). x.of) caught);
      room = was.room;
      met = met_more rs start n c.catch_up-moment.new.self w (omega (arith, c.loop-n-test.true, long, c.len-n-end.ensures)) (omega (arith, c.loop-n-test.true, as_long, c.len-n-end.ensures))
          (c.index_mut-writer.ensures.value ∙ ap (λ xs. get_or xs n w) was.writers) (ap (λ (x : ReaderRecord). x.front) caught) was.met;
    }

pub returns-clause-met : goal.returns-clause-met
returns-clause-met g c =
    met_all c.args.caches.now.items c.loop-n.pass-inside.readers.items c.args.writers.now.items c.loop-n.n c.loop-n.invariant.pass c.requires.writers (omega (arith, c.loop-n-test.false, c.len-n-end.ensures)) c.loop-n.invariant.met

pub invariant_of-pass : goal.invariant_of-pass
invariant_of-pass g c = c.loop-n.invariant.room
