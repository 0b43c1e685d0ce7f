use Rattle.std.proofs.Common.{ℕ, List, below_more, ◌≡◌, ◌++◌, ap, arith, get_or, subst, ◌∙◌}
use Rattle.std.proofs.lemmas.List.{get_or_default}
use Rattle.mc_check.specs.declared.record.Record.{Record}
use Rattle.mc_load.specs.Loads.{AreTrue}
use Rattle.mc_load.proofs.Totals.{all_true}
use Rattle.mc_load.specs.ShardLoads.{answers_in}
use Rattle.mc_load.specs.declared.reader_thread.ReaderThread.{ReaderThread}
use Rattle.mc_load.proofs.checking.wrong_answers.Goals as goal

pub loop-n-preserved : goal.loop-n-preserved
loop-n-preserved g c =
    let V = g.row.V in
    let n = c.loop-n.n in
    let ls = c.args.reader_threads.now in
    let h = c.args.checker.now in
    let x = c.index-reader_threads-n.result in
    let own : List (Record V) → List (Record V) = λ (rs : List (Record V)). answers_in c.args.share.mix c.args.share.shards c.args.share.shard rs in
    let added : c.append_answers.new.told.items ≡ own c.as_slice.result.now =
    c.append_answers.ensures.items ∙ ap (λ (z : List (Record V)). z ++ own c.as_slice.result.now) c.clear.ensures.items in
    let read : c.as_slice-in-loop-n.result.now ≡ own (get_or ls n x).records.items = c.as_slice-in-loop-n.ensures.value ∙ (added ∙ ap own c.as_slice.ensures.value) in
    record {
      capacity = c.append_answers.ensures.capacity ∙ (c.clear.ensures.capacity ∙ c.loop-n.invariant.capacity);
      right = λ none k d low.
          let before : c.loop-n.wrong ≡ 0 = omega (arith, none, c.saturating_add-wrong.ensures) in
          let right_now : c.check.result ≡ 0 = omega (arith, none, c.saturating_add-wrong.ensures) in
          let told : AreTrue h (own (get_or ls n x).records.items) = subst (λ (rs : List (Record V)). AreTrue h rs) read (all_true h c.as_slice-in-loop-n.result.now c.check.result right_now c.check.ensures) in
          below_more (λ (i : ℕ). (e : ReaderThread V) → AreTrue h (own (get_or ls i e).records.items)) n
          (λ i under e. c.loop-n.invariant.right before i e under)
          (λ e. subst (λ (a : ReaderThread V). AreTrue h (own a.records.items)) (get_or_default ls n x e c.loop-n-test.true) told)
          k low d;
    }
