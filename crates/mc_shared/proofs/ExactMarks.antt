-- The rule leaves no choice: whatever step enters a mark in a reader's record leaves the recency bits as an `or` with the item's bit does.
use Rattle.std.proofs.Common.{◌≡◌, Bool, ℕ, ◌+◌, ◌<◌, eqb, eq-eqb, ne_eqb, List, [], ◌∷◌, ◌++◌, set, refl, ap, sym, ◌∙◌, subst, arith}
use Rattle.std.specs.Prelude.{if◌then◌else◌}
use mathlib.Core.Logic.{dite}
use native.Mathlib.Decide.{ℕ_discrete}
use Rattle.atomic_table.specs.Table as table
use Rattle.mc_theory.specs.Lists.{Made}
use Rattle.mc_theory.specs.Readings.{Reading}
use Rattle.mc_theory.specs.declared.access.Access.TheVariants as access
use Rattle.mc_shared.specs.declared.layout.Layout.{Layout}
use Rattle.mc_shared.specs.ExactLaws.{AddsEntry, MarksAreExact, MarksAreEntries}
use Rattle.mc_shared.specs.RecencyTrace.{Trace, trace_of, marks_in, is_mark_of, Coherent}
use Rattle.mc_shared.specs.Steps.{SeatView}
use Rattle.mc_shared.specs.TableRule.{marks_of, bit_in}
use Rattle.mc_shared.specs.Views.{View, reader_view, done_of}
use Rattle.mc_shared.proofs.Coherence.{marks_in-push, total_set, bit_stays, marked_is_set}
use Rattle.mc_shared.proofs.ExactReadings.{log_after, tally_after}

-- the bit of one item, before the step and after it
exact_bit : (l : Layout) (s t : table.State (Unit {0}) View) (acts : List Made) (e : Reading) (i k : ℕ) → AddsEntry l s t acts e → e.access ≡ access.Mark i → k < l.shape.items → bit_in l t.words k ≡ (if eqb i k then 1 else bit_in l s.words k)
exact_bit l s t acts e i k h is below =
    let r = h.before in
    let v : View = reader_view l h.number h.old h.done in
    let w : View = reader_view l h.number' h.new (h.done ++ e ∷ []) in
    let trace : Trace = trace_of k r.log r.tally.notes in
    let bit : ℕ = bit_in l s.words k in
    let bit' : ℕ = bit_in l t.words k in
    let log : h.after.log ≡ r.log = log_after l s t acts e h ∙ sym h.made in
    let tally : h.after.tally ≡ r.tally = tally_after l s t acts e h in
    let before : Coherent trace (marks_of k s.views) bit = r.bits k below in
    let traced : Coherent trace (marks_of k t.views) bit' = subst (λ (z : Trace). Coherent z (marks_of k t.views) bit') (λ j. trace_of k (log j) (tally j).notes) (h.after.bits k below) in
    let after : Coherent trace (marks_of k (set s.views h.seat w)) bit' = subst (λ (vs : List View). Coherent trace (marks_of k vs) bit') h.step traced in
    let all = total_set (λ (u : View). marks_in k (done_of u)) s.views h.seat v w h.reads in
    let more = marks_in-push k e h.done in
    let which : is_mark_of k e.access ≡ (if eqb i k then 1 else 0) = ap (is_mark_of k) is in
    dite (ℕ_discrete i k)
    (λ same. let hit : ◌≡◌ {A = ℕ} (if eqb i k then 1 else 0) 1 = ap (λ (b : Bool). if◌then◌else◌ {A = ℕ} b 1 0) (eq-eqb i k same) in
    let count : marks_of k (set s.views h.seat w) ≡ marks_of k s.views + 1 = omega arith in
    marked_is_set trace (marks_of k s.views) bit bit' before (subst (λ (y : ℕ). Coherent trace y bit') count after) ∙ sym (ap (λ (b : Bool). if◌then◌else◌ {A = ℕ} b 1 bit) (eq-eqb i k same)))
    (λ other. let miss : ◌≡◌ {A = ℕ} (if eqb i k then 1 else 0) 0 = ap (λ (b : Bool). if◌then◌else◌ {A = ℕ} b 1 0) (ne_eqb i k other) in
    let count : marks_of k (set s.views h.seat w) ≡ marks_of k s.views = omega arith in
    bit_stays trace (marks_of k s.views) bit bit' before (subst (λ (y : ℕ). Coherent trace y bit') count after) ∙ sym (ap (λ (b : Bool). if◌then◌else◌ {A = ℕ} b 1 bit) (ne_eqb i k other)))

pub marks_are_exact : MarksAreExact
marks_are_exact l s t acts e i h is = (
  λ k below. exact_bit l s t acts e i k h is below,
  λ same below. ap (λ (ws : List ℕ). bit_in l ws i) (sym same) ∙ (exact_bit l s t acts e i i h is below ∙ ap (λ (b : Bool). if◌then◌else◌ {A = ℕ} b 1 (bit_in l s.words i)) (eq-eqb i i refl)),
)

-- a running mark is a step that enters it, as a running read is
pub marks_are_entries : MarksAreEntries
marks_are_entries = record {
  set = λ l s seat slots place number old done held i st leaves allows rule fits mine small.
      let next = allows s rule fits mine small in record {
        before = rule;
        after = next.3;
        made = refl;
        seat = seat;
        number = number;
        number' = number;
        old = old;
        new = old;
        done = done;
        reads = mine;
        step = ap (λ (me : SeatView). set s.views seat me.0) next.4;
      };
  seen = λ l s seat slots place number old done held i st allows rule fits mine small one.
      let next = allows s rule fits mine small in record {
        before = rule;
        after = next.3;
        made = refl;
        seat = seat;
        number = number;
        number' = number;
        old = old;
        new = old;
        done = done;
        reads = mine;
        step = ap (λ (me : SeatView). set s.views seat me.0) (next.4.0 one);
      };
}
