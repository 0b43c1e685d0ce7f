use Rattle.std.proofs.Common.{rules, ℕ, List, get_or, ◌<◌, ◌*◌, length, ◌≡◌, ap, subst, sym, ◌∙◌, arith}
use Rattle.std.proofs.lemmas.List.{get_or-map, length-map}
use Rattle.mc_words.specs.declared.shape.Shape.{Shape}
use Rattle.mc_theory.specs.Lists.{IsLawful}
use Rattle.mc_theory.proofs.Lists.Fronts.{state_holds}
use Rattle.mc_shared.specs.Records.{Opening, WriterRecord}
use Rattle.mc_load.specs.Loads.{AreTrue, HasLookedUp, HasMade, history_after, is_absent, is_busy, is_found, total_of}
use Rattle.mc_load.specs.Inside.Workers.{AreReadersOf, HaveAllGot, answers_of}
use Rattle.mc_load.specs.declared.reader_thread.ReaderThread.{ReaderThread}
use Rattle.mc_load.specs.Lookups.{one_shard}
use Rattle.mc_load.proofs.Looked.{got_answers}
use Rattle.mc_load.proofs.Readers.{some_element}
use Rattle.mc_load.proofs.summing.report_of.Goals as goal

pub check_readers-requires : goal.check_readers-requires
check_readers-requires g c =
    let V = g.row.V in
    let w : WriterRecord = c.args.writer_thread.writer in
    let of = subst (λ (o : Opening). AreReadersOf o c.args.reader_threads.items) (sym c.requires.writing.of) c.requires.of in
    let history = c.sorted-checker.ensures ∙ (c.as_slice.ensures.value ∙ (c.requires.writing.kept ∙ ap (λ (o : Opening). history_after V o.layout.shape w.acts) (sym c.requires.writing.of))) in
    (omega arith, (omega arith, (omega arith, (of, ((λ n d low. (c.requires.ended n d low).told), history)))))

pub returns : goal.returns
returns g c =
    let V = g.row.V in
    let load = c.args.load in
    let sh = load.shape in
    let w : WriterRecord = c.args.writer_thread.writer in
    let ls = c.args.reader_threads.items in
    let same = c.requires.shape.1 in
    let shape : w.of.layout.shape ≡ sh = ap (λ (o : Opening). o.layout.shape) c.requires.writing.of ∙ same in
    let h = history_after V sh w.acts in
    let kept : c.args.writer_thread.journal.items ≡ h = c.requires.writing.kept ∙ ap (λ (s : Shape). history_after V s w.acts) same in
    let read : c.as_slice-2.result.now ≡ ls = c.as_slice-2.ensures.value in
    let many : length (answers_of ls) ≡ length ls = length-map ls (λ (l : ReaderThread V). l.records.items) in
    let readers : length c.as_slice-2.result.now ≡ load.readers = c.as_slice-2.ensures.len ∙ c.requires.len in
    let writes : c.from.result ≡ load.writes = search rules in
    record {
      writer = w;
      shape = shape;
      made = subst (λ (n : ℕ). HasMade V load n w) (sym writes) c.requires.written.made;
      writes = writes;
      changes = search rules;
      legal = (state_holds V sh w.acts c.requires.shape.0 (subst (λ (s : Shape). IsLawful V s w.acts) same c.requires.writing.lawful)).legal;
      few = search rules;
      answers = answers_of ls;
      readers = omega (arith, many, c.requires.len);
      looked = λ r e low.
          let under : r < length ls = omega (arith, low, many) in
          let d = some_element ls r under in
          subst (HasLookedUp load h r) (sym (get_or-map (λ (l : ReaderThread V). l.records.items) ls r d e under))
          (record {
            many = (c.requires.noted r d under).many;
            drawn = (c.requires.noted r d under).drawn;
            told = subst (λ (s : Shape). AreTrue (history_after V s w.acts) (get_or ls r d).records.items) shape (c.check_readers.ensures.told r d under);
          });
      got = got_answers (one_shard w.of) ls (subst (λ (o : Opening). HaveAllGot (one_shard o) ls) (sym c.requires.writing.of) c.requires.got);
      found = c.answers_of-report.ensures.found ∙ ap (λ (z : List (ReaderThread V)). total_of is_found (answers_of z)) read;
      absent = c.answers_of-report.ensures.absent ∙ ap (λ (z : List (ReaderThread V)). total_of is_absent (answers_of z)) read;
      busy = c.answers_of-report.ensures.busy ∙ ap (λ (z : List (ReaderThread V)). total_of is_busy (answers_of z)) read;
      lookups = c.answers_of-report.ensures.lookups ∙ ap (λ (k : ℕ). k * load.lookups) readers;
      sum = c.answers_of-report.ensures.sum;
      wrong = c.check_readers.ensures.wrong;
    }
