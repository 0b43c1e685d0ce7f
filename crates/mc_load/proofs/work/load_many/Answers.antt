use Rattle.std.proofs.Common.{rules, ◌≡◌, [], ap, arith, length, vec_len}
use Rattle.mc_words.specs.Readers.{HasReaders}
use Rattle.mc_words.specs.Shapes.{IsShape}
use Rattle.mc_shared.specs.Records.{WriterRecord}
use Rattle.mc_shared.specs.declared.layout.Layout.{Layout}
use Rattle.mc_load.specs.Loads.{HasKeys}
use Rattle.mc_load.proofs.Works.{new_length}
use Rattle.mc_load.proofs.work.load_many.Goals as goal

pub run_workers-requires-after_bounds : goal.run_workers-requires-after_bounds
run_workers-requires-after_bounds g c = λ κs lives.
    let o = c.in-Ok.opened.0 in
    let keys : HasKeys c.args.load.keys = search rules in
    let shape : o.layout.shape ≡ c.args.load.shape = ap (λ (l : Layout). l.shape) c.in-Ok.ensures.cache in
    let asked : IsShape c.args.load.shape × HasReaders c.args.load.readers × (o.layout.shape ≡ c.args.load.shape) = (c.in-Ok.ensures.asked.0, c.in-Ok.ensures.asked.1, shape) in
    let writer : (c.in-Ok.opened.1.of ≡ o) × (c.in-Ok.opened.1.acts ≡ []) = (ap (λ (w : WriterRecord). w.of) c.in-Ok.ensures.writer, ap (λ (w : WriterRecord). w.acts) c.in-Ok.ensures.writer) in
    let len : vec_len c.in-Ok-cache_handles.handles ≡ c.args.load.readers = omega (arith, c.in-Ok-cache_handles.ensures.len, ap length c.in-Ok.ensures.readers, new_length o c.args.load.readers, c.in-Ok.opened.2.ok.0) in
    (omega arith, (omega arith, (omega arith, (c.requires.width, (keys, (c.requires.many, (asked, (writer, (len, c.in-Ok-cache_handles.ensures.of)))))))))
