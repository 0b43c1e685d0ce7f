-- The rule of the hand: whatever step adds its act to the writer's record reports the bit that it clears.
use Rattle.std.proofs.Common.{◌≡◌, Bool, ℕ, ◌-◌, ◌^◌, ◌<◌, get_or, eqb, eq-eqb, ne_eqb, List, [], ◌∷◌, ◌++◌, length, set, refl, ap, sym, ◌∙◌, subst, arith}
use Rattle.std.specs.Prelude.{if◌then◌else◌}
use Rattle.std.specs.Int.{bit_at}
use lib.Bits.{bit_and}
use Rattle.mc_words.specs.Places.{recency_place}
use Rattle.mc_words.specs.Recency.{recency_bit}
use Rattle.mc_shared.proofs.PackedBits.{bit_low, and_here, recency_below, bit_there}
use mathlib.Core.Option.{some}
use lib.ListN.{get_elem?}
use Rattle.atomic_table.specs.Table as table
use Rattle.atomic_table.proofs.Lists.{set_here}
use Rattle.mc_theory.specs.Lists.{Made}
use Rattle.mc_theory.specs.declared.act.Act.TheVariants.{Hand}
use Rattle.mc_shared.specs.declared.layout.Layout.{Layout}
use Rattle.mc_shared.specs.ExactLaws.{AddsTurn, HandsAreExact, HandsAreEntries}
use Rattle.mc_shared.specs.RecencyTrace.{Trace, trace_swept, trace_of, new_trace, Coherent}
use Rattle.mc_shared.specs.Steps.{SeatView}
use Rattle.mc_shared.specs.TableRule.{Fits, Ruled, marks_of, bit_in}
use Rattle.mc_shared.specs.Views.{Tally, View, writer_view, with_bit, with_note}
use Rattle.mc_shared.proofs.Coherence.{trace-push, swept_is_told, bit_stays}
use Rattle.mc_shared.proofs.EachStep.{same_marks, got_below}

-- the traces of an item before and after a turn of the hand, both coherent with the same number of marks
both_ways : (l : Layout) (s t : table.State (Unit {0}) View) (acts : List Made) (i bit k : ℕ) (h : AddsTurn l s t acts i bit) → k < l.shape.items →
    let trace = trace_of k acts h.tally.notes in
    Coherent trace (marks_of k s.views) (bit_in l s.words k) × Coherent (if eqb i k then trace_swept trace bit h.note.marks else trace) (marks_of k s.views) (bit_in l t.words k)
both_ways l s t acts i bit k h below =
    let r = h.before in
    let v : View = writer_view l acts h.tally in
    let m : Made = with_bit (Hand i) bit in
    let w : View = writer_view l (acts ++ m ∷ []) (with_note h.tally h.note) in
    let mine : Fits l r.log r.tally r.at h.seat v = r.views h.seat v h.knows in
    let here : get_elem? t.views h.seat ≡ some w = ap (λ (vs : List View). get_elem? vs h.seat) h.step ∙ set_here s.views h.seat w (got_below s.views h.seat v h.knows) in
    let yours : Fits l h.after.log h.after.tally h.after.at h.seat w = h.after.views h.seat w here in
    let paired : length h.tally.notes ≡ length acts = subst (λ (z : Tally × List Made). length z.0.notes ≡ length z.1) (λ j. (sym mine.3 j, sym mine.2 j)) r.paired in
    let marks : marks_of k t.views ≡ marks_of k s.views = ap (marks_of k) h.step ∙ same_marks k h.seat s.views v w h.knows refl in
    let trace : Trace = trace_of k acts h.tally.notes in
    let before : Coherent trace (marks_of k s.views) (bit_in l s.words k) =
    subst (λ (z : List Made × Tally). Coherent (trace_of k z.0 z.1.notes) (marks_of k s.views) (bit_in l s.words k)) (λ j. (sym mine.2 j, sym mine.3 j)) (r.bits k below) in
    let logged : Coherent (trace_of k (acts ++ m ∷ []) (with_note h.tally h.note).notes) (marks_of k t.views) (bit_in l t.words k) =
    subst (λ (z : List Made × Tally). Coherent (trace_of k z.0 z.1.notes) (marks_of k t.views) (bit_in l t.words k)) (λ j. (sym yours.2 j, sym yours.3 j)) (h.after.bits k below) in
    (before, subst (λ (z : Trace × ℕ). Coherent z.0 z.1 (bit_in l t.words k)) (λ j. (trace-push k new_trace acts h.tally.notes m h.note paired j, marks j)) logged)

-- at the hand's own item
own : (l : Layout) (s t : table.State (Unit {0}) View) (acts : List Made) (i bit : ℕ) (h : AddsTurn l s t acts i bit) → i < l.shape.items →
    let trace = trace_of i acts h.tally.notes in
    Coherent trace (marks_of i s.views) (bit_in l s.words i) × Coherent (trace_swept trace bit h.note.marks) (marks_of i s.views) (bit_in l t.words i)
own l s t acts i bit h below =
    let c = both_ways l s t acts i bit i h below in
    let trace : Trace = trace_of i acts h.tally.notes in
    (c.0, subst (λ (b : Bool). Coherent (if b then trace_swept trace bit h.note.marks else trace) (marks_of i s.views) (bit_in l t.words i)) (eq-eqb i i refl) c.1)

-- a clear bit was not marked, so the hand can't have found it set, and nothing has set it meanwhile
clear_stays : (t : Trace) (marks n told bit' : ℕ) → Coherent t marks 0 → Coherent (trace_swept t told n) marks bit' → (told ≡ 0) × (bit' ≡ 0)
clear_stays t marks n told bit' c d =
    let a = c.is in let b = c.seen in let e = c.right in let x = d.is in let y = d.seen in let z = d.right in
    (omega arith, omega arith)

pub hands_are_exact : HandsAreExact
hands_are_exact = record {
  others = λ l s t acts i bit k h below other.
      let c = both_ways l s t acts i bit k h below in
      let trace : Trace = trace_of k acts h.tally.notes in
      bit_stays trace (marks_of k s.views) (bit_in l s.words k) (bit_in l t.words k) c.0
      (subst (λ (b : Bool). Coherent (if b then trace_swept trace bit h.note.marks else trace) (marks_of k s.views) (bit_in l t.words k)) (ne_eqb i k other) c.1);
  clear = λ l s t acts i bit h below zero.
      let c = own l s t acts i bit h below in
      let trace : Trace = trace_of i acts h.tally.notes in
      clear_stays trace (marks_of i s.views) h.note.marks bit (bit_in l t.words i) (subst (λ (b : ℕ). Coherent trace (marks_of i s.views) b) zero c.0) c.1;
  cleared = λ l s t acts i bit h below zero.
      let c = own l s t acts i bit h below in
      let trace : Trace = trace_of i acts h.tally.notes in
      (swept_is_told trace (marks_of i s.views) h.note.marks (bit_in l s.words i) bit c.0 (subst (λ (b : ℕ). Coherent (trace_swept trace bit h.note.marks) (marks_of i s.views) b) zero c.1)).0;
}

-- an `and` with all bits but the item's leaves the item's clear
cleared_by : (l : Layout) (s : table.State (Unit {0}) View) (r : Ruled l s) (i keeps : ℕ) → i < l.shape.items → keeps ≡ 2 ^ 64 - 1 - 2 ^ recency_bit i →
    let place = recency_place l.width l.shape i in
    bit_in l (set s.words place (bit_and (get_or s.words place 0) keeps)) i ≡ 0
cleared_by l s r i keeps below is =
    let place : ℕ = recency_place l.width l.shape i in
    let w : ℕ = get_or s.words place 0 in
    let inside = recency_below l.width l.shape i below in
    bit_there l s.words i (bit_and w keeps) (omega (arith, inside, r.wide))
    ∙ (ap (λ (k : ℕ). bit_at (bit_and w k) (recency_bit i)) is ∙ and_here (recency_bit i) w (bit_low i))

pub hands_are_entries : HandsAreEntries
hands_are_entries = record {
  turned = λ l s seat slots acts tally held i keeps allows rule fits mine small.
      let next = allows s rule fits mine small in (
        record {
          before = rule;
          after = next.3;
          seat = seat;
          tally = tally;
          note = next.4.2.0;
          knows = mine;
          step = ap (λ (me : SeatView). set s.views seat me.0) next.4.2.1;
        },
        λ below. cleared_by l s rule i keeps below next.4.1,
      );
  seen = λ l s seat slots acts tally held i st allows rule fits mine small zero.
      let next = allows s rule fits mine small in
      let made = next.4.1 zero in record {
        before = rule;
        after = next.3;
        seat = seat;
        tally = tally;
        note = made.0;
        knows = mine;
        step = ap (λ (me : SeatView). set s.views seat me.0) made.1;
      };
}
