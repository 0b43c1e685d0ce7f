-- The lookups of a reader that meets the writer.
use Rattle.std.proofs.Common.{◌≡◌, ℕ, List, ap, sym, ◌∙◌, subst}
use Rattle.mc_words.specs.declared.policy.Policy.{Policy}
use Rattle.mc_words.specs.declared.shape.Shape.{Shape}
use Rattle.mc_theory.specs.Readings.{Reading}
use Rattle.mc_shared.specs.ExactFronts.{IsExact, InOneOrder}
use Rattle.mc_shared.specs.Records.{Opening, WriterRecord, ReaderRecord, reader_record}
use Rattle.mc_shared.specs.SeatFacts.{IsRun}
use Rattle.mc_shared.specs.TableRule.{IsRecord}
use Rattle.mc_shared.specs.Views.{layout_with}
use Rattle.mc_shared.specs.declared.layout.Layout.{Layout}
use Rattle.mc_shared.proofs.OrderedLookups.{lookups_stand_in_order}
use Rattle.mc_cache.specs.Orders.{HasAnsweredInOrder}

pub answered_in_order : (V : ℕ) {policy : Policy} (o : Opening) (sh : Shape) (w : WriterRecord) (r : ReaderRecord) (number : ℕ) (done : List Reading) → o.layout ≡ layout_with V policy sh → w.of ≡ o → r ≡ reader_record o number w.acts done → IsRun w.of.layout w.acts → IsRecord r.of.layout r.front r.done → InOneOrder w.acts w.notes number done
    → HasAnsweredInOrder V o.layout.shape w number done
answered_in_order V {policy} o sh w r number done is of now' run recorded order =
    let at : w.of.layout ≡ layout_with V policy sh = ap (λ (p : Opening). p.layout) of ∙ is in
    let run' : IsRun (layout_with V policy sh) w.acts = subst (λ (l : Layout). IsRun l w.acts) at run in
    let mine : IsRecord o.layout w.acts done = subst (λ (x : ReaderRecord). IsRecord x.of.layout x.front x.done) now' recorded in
    let mine' : IsRecord (layout_with V policy sh) w.acts done = subst (λ (l : Layout). IsRecord l w.acts done) is mine in
    subst (λ (z : Shape). HasAnsweredInOrder V z w number done) (sym (ap (λ (l : Layout). l.shape) is)) (record {
      order = order;
      lookups = λ before rs after k reply small parts looked.
          lookups_stand_in_order V policy sh w.acts number w.notes before rs after k sh.tries reply run'.shape run'.lawful small order.paired
          (subst (IsRecord (layout_with V policy sh) w.acts) parts mine') (subst (IsExact number w.notes) parts order.exact) looked;
    })
