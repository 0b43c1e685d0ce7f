use Rattle.std.proofs.Common.{List, ◌≡◌, ◌<◌, ◌++◌, ap, arith, length, subst, sym, ◌∙◌}
use Rattle.std.specs.List.Sorted.{IsPermutation}
use Rattle.std.proofs.lemmas.List.{get_or-map, length-map}
use Rattle.mc_words.specs.declared.history.Change.{Change}
use Rattle.mc_check.specs.declared.record.Record.{Record}
use Rattle.mc_load.specs.Loads.{AreTrue}
use Rattle.mc_load.proofs.Readers.{some_element}
use Rattle.mc_load.specs.Dates.{AreMoments, changes_of}
use Rattle.mc_load.specs.ShardLoads.{answers_in}
use Rattle.mc_load.specs.Turns.{journals_in}
use Rattle.mc_load.specs.Inside.Sums.{AreTrueIn, all_tries}
use Rattle.mc_load.specs.declared.reader_thread.ReaderThread.{ReaderThread}
use Rattle.mc_load.specs.declared.dated.Dated.{Dated}
use Rattle.mc_load.proofs.checking.check_shard.Goals as goal

pub returns-clause-right : goal.returns-clause-right
returns-clause-right g c = λ none.
    let V = g.row.V in
    let mix = c.args.share.mix in
    let many = c.args.share.shards in
    let shard = c.args.share.shard in
    let ts = c.args.turn_threads.now in
    let ls = c.args.reader_threads.now in
    let sorted = c.sort_unstable_by_key.new.self.items in
    let history = c.write_history.new.history.items in
    let misplaced : c.misplaced-misplaced.result ≡ 0 = omega (arith, none, c.saturating_add.ensures) in
    let wrong : c.wrong_answers-wrong.result ≡ 0 = omega (arith, none, c.saturating_add.ensures) in
    let gathered : c.gather.new.all.items ≡ journals_in mix many shard (all_tries ts) =
    c.gather.ensures.items ∙ ap (λ (z : List (Dated V)). z ++ journals_in mix many shard (all_tries ts)) c.clear.ensures.items in
    let written : history ≡ changes_of sorted =
    c.write_history.ensures.items ∙ (ap (λ (z : List (Change V)). z ++ changes_of c.as_slice-2.result.now) c.clear-2.ensures.items ∙ ap changes_of c.as_slice-2.ensures.value) in
    let true_all : AreTrueIn mix many shard history ls = subst (λ (h : List (Change V)). AreTrueIn mix many shard h ls) (c.sorted-checker.ensures ∙ c.as_slice-3.ensures.value) (c.wrong_answers-wrong.ensures.right wrong) in
    record {
      history = history;
      one = record {
        ordered = sorted;
        those = subst (λ (z : List (Dated V)). IsPermutation z sorted) gathered c.sort_unstable_by_key.ensures.permutation;
        moments = subst (λ (z : List (Dated V)). AreMoments z) c.as_slice.ensures.value (c.misplaced-misplaced.ensures.right misplaced).0;
        changes = written;
      };
      whole = ap length written ∙ (length-map sorted (λ (d : Dated V). d.change) ∙ (ap length (sym c.as_slice.ensures.value) ∙ sym (c.misplaced-misplaced.ensures.right misplaced).1));
      told = λ r e low.
          let under : r < length ls = omega (arith, low, length-map ls (λ (l : ReaderThread V). l.records.items)) in
          let d = some_element ls r under in
          subst (λ (rs : List (Record V)). AreTrue history (answers_in mix many shard rs)) (sym (get_or-map (λ (l : ReaderThread V). l.records.items) ls r d e under)) (true_all r d under);
    }
