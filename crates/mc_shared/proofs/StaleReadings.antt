-- There is a table in which an act was made that a reader has not seen. There a reading that looks at nothing is refused outright.
use Rattle.std.proofs.Common.{◌≡◌, ℕ, ◌^◌, ◌<◌, ◌≤◌, List, [], ◌∷◌, ◌++◌, length, get_or, set, refl, ap, sym, ◌∙◌, subst, arith, get_or-set_other}
use mathlib.Core.Option.{Option, none, some, some-ne-none}
use Rattle.atomic_table.specs.Table as table
use Rattle.atomic_table.specs.Table.{Step, step, stepped, Act, keeps, takes, gives, chain, homes_after, carried_after, Valid, Allows}
use Rattle.std.specs.Int.RustNames.{bit_or}
use Rattle.mc_words.specs.Places.{word_count, all_words, recency_place}
use Rattle.mc_words.specs.Recency.{recency_bit}
use Rattle.mc_words.specs.Shapes.{IsShape}
use Rattle.mc_words.specs.declared.shape.Shape.{Shape}
use Rattle.mc_theory.specs.Acts.{IsAllowed}
use Rattle.mc_theory.specs.States as states
use Rattle.mc_theory.specs.States.{State}
use Rattle.mc_theory.specs.declared.act.Act.TheVariants.{Mark}
use Rattle.mc_theory.proofs.Invariant.EachState.{zeros}
use Rattle.mc_theory.proofs.Lists.Fronts.{lawful_none, state_none}
use Rattle.mc_shared.specs.declared.layout.Layout.{Layout}
use Rattle.mc_shared.specs.Views.{tally_for, View, writer_view, reader_view, with_note, with_bit}
use Rattle.mc_shared.specs.Steps.{SeatView, reading}
use Rattle.mc_shared.specs.Inside.Seats.{MayMake}
use Rattle.mc_shared.specs.Inside.Steps.{only}
use Rattle.mc_shared.proofs.PackedBits.{bit_low, or_spares}
use Rattle.mc_shared.proofs.WrittenPlaces.{act_names_in}
use Rattle.mc_shared.proofs.RecencySteps.{spared_past, touch_bits}
use Rattle.mc_shared.proofs.EachStep.{makes}
use Rattle.mc_shared.proofs.FirstTable.{Stands, new_words, new_table, stands_new}
use Rattle.mc_shared.proofs.ExactReadings.{no_stale_reading}
use Rattle.mc_shared.specs.ExactLaws.{StaleReadingsAreRefused}

-- a table with no slots has none after any step
no_slots : (a : Act (Unit {0})) → Valid [] [] a → (homes_after [] [] a ≡ []) × (carried_after [] a ≡ [])
no_slots keeps v = (refl, refl)
no_slots (takes k y) v = absurd (some-ne-none _ (sym v))
no_slots gives v = (refl, refl)
no_slots (chain a b) v =
    let x = no_slots a v.0 in
    let y = no_slots b (subst (λ (z : List (Option (Unit {0})) × List (ℕ × Unit {0})). Valid z.0 z.1 b) (λ i. (x.0 i, x.1 i)) v.1) in
    ((λ i. homes_after (x.0 i) (x.1 i) b) ∙ y.0, (λ i. carried_after (x.1 i) b) ∙ y.1)

-- an item may be marked in a new table
marks_first : (V : ℕ) (sh : Shape) → 0 < sh.items → IsAllowed sh (states.opening V sh) (Mark 0)
unfolding states.opening
marks_first V sh some' = some'

-- and a new table has room for version steps
few_first : (V : ℕ) (sh : Shape) → (states.opening V sh).version_steps ≤ 2 ^ 62
unfolding states.opening
few_first V sh = omega arith

module _ (l : Layout) (shape : IsShape l.shape) where
  may_mark : MayMake l [] (Mark 0)
  may_mark = record {
    shape = shape;
    lawful = lawful_none l.width l.shape;
    allowed = subst (λ (s : State l.width). IsAllowed l.shape s (Mark 0)) (sym (state_none l.width l.shape)) (marks_first l.width l.shape (omega (arith, shape.items)));
    few = subst (λ (s : State l.width). s.version_steps ≤ 2 ^ 62) (sym (state_none l.width l.shape)) (few_first l.width l.shape);
  }

  -- the writer has marked item 0, and the reader has seen nothing
  stands_acted : (n : ℕ) → n < word_count l.width l.shape → (s : table.State (Unit {0}) View) × (h : Stands l 1 0 [] 0 [] [] s n) × (length h.acts ≡ 1)
  unfolding new_table new_words
  stands_acted n low =
      let p : ℕ = recency_place l.width l.shape 0 in
      let s : table.State (Unit {0}) View = new_table l in
      let new = stands_new l p in
      let w : ℕ = bit_or (get_or s.words p 0) (only 0) in
      let m = makes l 0 0 [] [] (tally_for 1) (Mark 0) p (only 0) (λ z. bit_or z (only 0)) (λ z. z) (step 0 p 0 0 none) may_mark (refl, refl) (λ here. absurd (omega arith)) (touch_bits l 0) (spared_past l 0 (λ z. bit_or z (only 0)) (act_names_in l [] (Mark 0) may_mark) (or_spares (recency_bit 0) (bit_low 0))) s new.ruled refl refl (omega (arith, zeros (all_words l.width l.shape) p)) in
      let view : m.0 ≡ writer_view l ([] ++ with_bit (Mark 0) 0 ∷ []) (with_note (tally_for 1) m.4.0) = ap (λ (x : SeatView). x.0) m.4.1 in
      let same : get_or (set s.words p w) n 0 ≡ 0 = get_or-set_other s.words p n w 0 (λ e. omega (arith, e, low)) ∙ zeros (all_words l.width l.shape) n in (
        stepped s p w 0 [] m.0 m.1,
        record {
          ruled = m.3;
          long = ap length (no_slots m.1 m.2).0;
          mine = refl;
          fits = omega (arith, same);
          writer = 0;
          other = λ e. omega (arith, e);
          acts = [] ++ with_bit (Mark 0) 0 ∷ [];
          tally = with_note (tally_for 1) m.4.0;
          writes = ap some view;
        },
        refl,
      )

pub stale_readings_are_refused : StaleReadingsAreRefused
stale_readings_are_refused l a n leaves enters shape load low allows =
    let s = stands_acted l shape n low in
    no_stale_reading l 1 0 [] 0 [] [] n leaves (λ found me. me ≡ (reader_view l 0 [] (reading a (enters found) [] ∷ []), [])) s.0 s.1 (λ me t. ([], reading a (enters (get_or s.0.words n 0)) [], load, omega (arith, s.2), (0, λ i. (t i).0))) allows
