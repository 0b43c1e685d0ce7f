use Rattle.std.proofs.Common.{ℕ, ◌^◌, ◌<◌, ◌≤◌, List, length, get_or, take, ap, sym, ◌∙◌, subst, arith}
use Rattle.std.proofs.lemmas.List.{take_all, take_more, take_more_set}
use Rattle.std.proofs.lemmas.List.Elements.{All-from_get_or}
use Rattle.mc_words.specs.Checks.{policy_of}
use Rattle.mc_words.specs.Shapes.{IsShape}
use Rattle.mc_words.specs.declared.history.Reply.{Reply}
use Rattle.mc_shared.specs.Records.{Opening}
use Rattle.mc_shared.specs.TableRule.{IsRecord}
use Rattle.mc_shared.specs.Views.{AreLawful, layout_with}
use Rattle.mc_shared.specs.declared.layout.Layout.{Layout}
use Rattle.mc_shared.proofs.ReaderRecords.{front_self}
use Rattle.mc_reader.specs.Records.{HaveLooked}
use Rattle.mc_reader.proofs.ManyLookups.{looked_more, all_true}
use Rattle.mc_reader.proofs.many_lookups.get_many.Goals as goal

pub loop-i-preserved : goal.loop-i-preserved
loop-i-preserved g c =
    let V = g.row.V in
    let sh = c.args.cells.now.layout.shape in
    let i = c.loop-i.i in
    let keys = c.args.keys.now in
    let below : i < length keys = omega (arith, c.loop-i-test.true) in
    let key = take_more keys i 0 below in
    let reply = take_more_set c.loop-i.replies i c.get.result (omega arith) in
    record {
      looked = subst (λ (y : List ℕ × List (Reply V)). HaveLooked V sh y.0 c.args.seat.now c.get.new.seat y.1) (λ j. (sym key j, sym reply j))
          (looked_more V sh (take i keys) (get_or keys i 0) c.args.seat.now c.loop-i.seat c.get.new.seat (take i c.loop-i.replies) c.get.result c.loop-i.invariant.looked c.get.ensures.looked);
      of = c.get.ensures.looked.of ∙ c.loop-i.invariant.of;
    }

pub returns-clause-truth : goal.returns-clause-truth
returns-clause-truth g c =
    let V = g.row.V in
    let sh = c.args.cells.now.layout.shape in
    let i = c.loop-i.i in
    let keys = c.args.keys.now in
    let ends : length keys ≤ i = omega (arith, c.loop-i-test.false) in
    let looked = subst (λ (y : List ℕ × List (Reply V)). HaveLooked V sh y.0 c.args.seat.now c.loop-i.seat y.1)
    (λ j. (take_all i keys ends j, take_all i c.loop-i.replies (omega arith) j)) c.loop-i.invariant.looked in
    let e = ap (λ (l : Layout). l.shape) c.checked-checked.ensures.layout in
    let layout = ap (λ (o : Opening). o.layout) (c.loop-i.invariant.of ∙ c.requires.of) ∙ (c.checked-checked.ensures.layout ∙ ap (layout_with V (policy_of c.checked-checked.result.now)) (sym e)) in
    let shape : IsShape sh = subst IsShape (sym e) c.checked-checked.result.now.sound in
    let lawful = subst (λ (l : Layout). AreLawful l c.loop-i.seat.front) layout c.known.ensures.lawful in
    let recorded = subst (λ (l : Layout). IsRecord l c.loop-i.seat.front c.loop-i.seat.done) layout c.known.ensures.recorded in
    all_true V sh c.args.seat.now c.loop-i.seat shape lawful recorded keys c.args.seat.now c.loop-i.replies (All-from_get_or (λ (k : ℕ). k < 2 ^ 64) keys 0 (λ n low. omega (arith, c.type_inv.keys n))) (front_self c.args.seat.now.front) looked
