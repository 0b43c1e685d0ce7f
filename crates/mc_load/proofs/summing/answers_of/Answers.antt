use Rattle.std.proofs.Common.{List, ◌≡◌, ap, arith, get_or, ◌∙◌}
use Rattle.mc_check.specs.declared.record.Record.{Record}
use Rattle.mc_load.specs.Loads.{is_absent, is_busy, is_found}
use Rattle.mc_load.proofs.Totals.{count_of, kinds_add, total_more}
use Rattle.mc_load.proofs.summing.answers_of.Goals as goal

pub loop-n-preserved : goal.loop-n-preserved
loop-n-preserved g c =
    let V = g.row.V in
    let n = c.loop-n.n in
    let k = c.args.load.lookups in
    let ls = c.args.reader_threads.now in
    let low = c.loop-n-test.true in
    let x = c.index-reader_threads-n.result in
    let read = c.as_slice.ensures.value in
    let here : c.as_slice.result.now ≡ (get_or ls n x).records.items = read in
    let found = c.of.ensures.found ∙ ap (λ (rs : List (Record V)). count_of is_found rs) here in
    let absent = c.of.ensures.absent ∙ ap (λ (rs : List (Record V)). count_of is_absent rs) here in
    let busy = c.of.ensures.busy ∙ ap (λ (rs : List (Record V)). count_of is_busy rs) here in
    let told = kinds_add _ _ _ k (get_or ls n x).records.items found absent busy (c.requires.noted n x low).many in
    record {
      lookups = omega (arith, c.add.ensures.lookups, told, c.loop-n.invariant.lookups);
      sum = c.add.ensures.answers;
      wrong = omega (arith, c.add.ensures.wrong, c.loop-n.invariant.wrong);
      found = omega (arith, c.add.ensures.kinds, found, total_more is_found ls n x low, c.loop-n.invariant.found);
      absent = omega (arith, c.add.ensures.kinds, absent, total_more is_absent ls n x low, c.loop-n.invariant.absent);
      busy = omega (arith, c.add.ensures.kinds, busy, total_more is_busy ls n x low, c.loop-n.invariant.busy);
    }
