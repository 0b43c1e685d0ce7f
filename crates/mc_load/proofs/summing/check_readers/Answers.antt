use Rattle.std.proofs.Common.{rules, Some, ◌≡◌, ap, arith, length, subst, sym, ◌∙◌}
use Rattle.mc_shared.specs.Records.{WriterRecord}
use Rattle.mc_load.specs.Loads.{AreTrue, history_after}
use Rattle.mc_load.specs.Inside.Handles.{AreAllTold, cache_of}
use Rattle.mc_load.specs.declared.reader_thread.ReaderThread.{ReaderThread}
use Rattle.mc_load.proofs.Each.{each_front, each_last}
use Rattle.mc_load.proofs.Readers.{first_less, rest_more}
use Rattle.mc_load.proofs.summing.check_readers.Goals as goal

pub check_reader-wrong-requires : goal.check_reader-wrong-requires
check_reader-wrong-requires g c =
    let V = g.row.V in
    let was = c.loop-thread.invariant in
    let xs = c.loop-thread.reader_threads.items in
    let rest = c.pop.new.self.items in
    let x = c.in-Some.thread in
    let e = c.in-Some.ensures.items in
    let of = each_last (λ k (y : ReaderThread V). cache_of y.handle ≡ Some c.args.writer.now.of) xs rest x e was.readers ∙ ap (λ (w : WriterRecord). Some w.of) (sym was.writer) in
    let told = each_last (λ k (y : ReaderThread V). AreAllTold V y.handle y.records.items) xs rest x e was.all in
    let history = c.requires.history ∙ ap (λ (w : WriterRecord). history_after V w.of.layout.shape w.acts) (sym was.writer) in (omega arith, (omega arith, (omega arith, (of, (told, history)))))

pub loop-thread-preserved : goal.loop-thread-preserved
loop-thread-preserved g c =
    let V = g.row.V in
    let was = c.loop-thread.invariant in
    let xs = c.loop-thread.reader_threads.items in
    let rest = c.pop.new.self.items in
    let x = c.in-Some.thread in
    let e = c.in-Some.ensures.items in
    let w = c.args.writer.now in
    let here : AreTrue (history_after V w.of.layout.shape w.acts) x.records.items = subst (λ (z : WriterRecord). AreTrue (history_after V z.of.layout.shape z.acts) x.records.items) was.writer c.check_reader-wrong.ensures.told in
    record {
      writer = c.check_reader-wrong.ensures.writer ∙ was.writer;
      readers = each_front (λ k (y : ReaderThread V). cache_of y.handle ≡ Some w.of) xs rest x e was.readers;
      all = each_front (λ k (y : ReaderThread V). AreAllTold V y.handle y.records.items) xs rest x e was.all;
      wrong = search rules;
      front = first_less c.args.reader_threads.items xs rest x e was.front;
      told = rest_more (λ (k : ReaderThread V). AreTrue (history_after V w.of.layout.shape w.acts) k.records.items) c.args.reader_threads.items xs rest x e was.front here was.told;
    }

pub returns-clause-told : goal.returns-clause-told
returns-clause-told g c = λ n d low.
    let none : length c.loop-thread.reader_threads.items ≡ 0 = search rules in
    c.loop-thread.invariant.told n d (omega (arith, none)) low
