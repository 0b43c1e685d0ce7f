-- Executions with two readers that are written out: each scene says what the words and all seats are by then.
use Rattle.std.proofs.Common.{◌≡◌, ℕ, suc, ◌<◌, ◌^◌, List, [], ◌∷◌, ◌++◌, length, get_or, set, refl, ap, sym, ◌∙◌, subst, arith}
use Rattle.std.specs.Int.{bit_at}
use mathlib.Core.Option.{none}
use lib.ListN.{get_elem?}
use lib.Seq.{set-get_or}
use Rattle.atomic_table.specs.Table.{Allows, Step, carried_after, step, stepped}
use Rattle.mc_words.specs.Places.{recency_place, word_count}
use Rattle.mc_words.specs.Recency.{recency_bit}
use Rattle.std.proofs.lemmas.Nat.Bits.{bit_at-zero}
use Rattle.mc_theory.specs.Lists.{Made}
use Rattle.mc_theory.specs.declared.act.Act.{Act}
use Rattle.mc_theory.specs.declared.act.Act.TheVariants.{Hand}
use Rattle.mc_shared.specs.Inside.Seats.{MayMake}
use Rattle.mc_shared.specs.Inside.Steps.{IsOffBits, WritesAt}
use Rattle.mc_shared.specs.SeatPlays.{SeatPlay, says, makes, turns_if_clear, compares, parts}
use Rattle.mc_shared.specs.Steps.{SeatView, AddsAct, bit_of, joined_view}
use Rattle.mc_shared.specs.TableRule.{Ruled}
use Rattle.mc_shared.specs.Views.{Tally, View, acts_of, tally_of, writer_view, reader_view, spent_view, with_bit, with_note}
use Rattle.mc_shared.specs.declared.layout.Layout.{Layout}
use Rattle.mc_shared.proofs.CutSeats.{joins_as, splits_back_as}
use Rattle.mc_shared.proofs.EachStep.{compares_as, passes_as, stores_as}
use Rattle.mc_shared.proofs.RecencySteps.{store_bits, store_past}
use Rattle.mc_shared.proofs.SeatSteps.{off_stored, stored_bit}
use Rattle.mc_executions.specs.Executions.{TableState, IsExecution, IsStep}
use Rattle.mc_executions.specs.GrownExecutions.{grown}
use Rattle.mc_executions.proofs.GrownExecutions.{executions_grow}
use Rattle.mc_executions.proofs.RunningSteps.{each_is_a_step}
use Rattle.mc_executions.proofs.Stages.{still_none}

-- an execution that has come to state n, in which these are the words and the seats
pub record Scene (l : Layout) (n : ℕ) (ws : List ℕ) (views : List View) : Type 0 where
  pub states : ℕ → TableState
  pub run : IsExecution l states
  pub words : (states n).words ≡ ws
  pub homes : (states n).homes ≡ []
  pub views_are : (states n).views ≡ views

-- the writer is on seat 0, has made these acts, and two readers have read nothing
pub record Written (l : Layout) (n : ℕ) (ws : List ℕ) (acts : List Made) : Type 0 where
  pub tally : Tally
  pub scene : Scene l n ws (writer_view l acts tally ∷ reader_view l 0 [] [] ∷ reader_view l 1 [] [] ∷ [])

module _ (l : Layout) (n : ℕ) (ws : List ℕ) (views : List View) (g : Scene l n ws views) where
  pub goes_on : (t : TableState) → IsStep (g.states n) t → Ruled l t → (ws' : List ℕ) (views' : List View) → t.words ≡ ws' → t.homes ≡ [] → t.views ≡ views' → Scene l (suc n) ws' views'
  goes_on t is rule ws' views' words homes seats =
      let e = (executions_grow l).grow g.states n t g.run is rule in
      let now : grown g.states n t (suc n) ≡ t = e.2 (suc n) (omega arith) in
      record {
        states = grown g.states n t;
        run = e.0;
        words = ap (λ (z : TableState). z.words) now ∙ words;
        homes = ap (λ (z : TableState). z.homes) now ∙ homes;
        views_are = ap (λ (z : TableState). z.views) now ∙ seats;
      }

  -- the seat of the writer, which is the first, plays
  pub first_plays : (v : View) (rest : List View) → views ≡ v ∷ rest → (p : SeatPlay) (place x : ℕ) (st : Step (Unit {0})) (leaves : ℕ → ℕ) → st.word ≡ place → Allows (Ruled l) 0 0 (v, []) place leaves (says p st (v, [])) →
      get_or ws place 0 < 2 ^ 64 → leaves (get_or ws place 0) ≡ x → (w : View) × (c : List (ℕ × Unit {0})) × says p st (v, []) (get_or ws place 0) (w, c) × Scene l (suc n) (set ws place x) (w ∷ rest)
  first_plays v rest are p place x st leaves at allows small becomes =
      let s : TableState = g.states n in
      let rule = g.run.ruled n in
      let seats : s.views ≡ v ∷ rest = g.views_are ∙ are in
      let mine = ap (λ (z : List View). get_elem? z 0) seats in
      let low : get_or s.words place 0 < 18446744073709551616 = subst (λ (z : List ℕ). get_or z place 0 < 18446744073709551616) (sym g.words) small in
      let fits = ap length g.homes in
      let next = allows s rule fits mine low in
      let t : TableState = stepped s place (leaves (get_or s.words place 0)) 0 [] next.0 next.1 in
      let y = (each_is_a_step l).plays p s 0 0 place v [] st leaves at allows rule fits mine low in (
        next.0,
        carried_after [] next.1,
        subst (λ (z : List ℕ). says p st (v, []) (get_or z place 0) (next.0, carried_after [] next.1)) g.words next.4,
        goes_on t y.0 y.1 (set ws place x) (next.0 ∷ rest) ((λ i. set (g.words i) place (leaves (get_or (g.words i) place 0))) ∙ ap (set ws place) becomes) (still_none s.homes next.1 g.homes next.2) (ap (λ (z : List View). set z 0 next.0) seats),
      )

-- the view after an act
acted : (v w : View) (c : List (ℕ × Unit {0})) (l : Layout) (acts : List Made) (tally : Tally) (a : Act) (x b : ℕ) (st : Step (Unit {0})) → v ≡ writer_view l acts tally → bit_of a x ≡ b → AddsAct a st (v, []) x (w, c) →
    (tally' : Tally) × (w ≡ writer_view l (acts ++ with_bit a b ∷ []) tally')
acted v w c l acts tally a x b st is bit told =
    (with_note tally told.0, ap (λ (z : SeatView). z.0) told.1 ∙ ((λ i. writer_view (ap (λ (z : View). z.layout) is i) (acts_of (is i) ++ with_bit a (bit i) ∷ []) (with_note (tally_of (is i)) told.0))))

module _ (l : Layout) (n : ℕ) (ws : List ℕ) (acts : List Made) (g : Written l n ws acts) where
  abbrev first : View
  first = writer_view l acts g.tally

  abbrev readers : List View
  readers = reader_view l 0 [] [] ∷ reader_view l 1 [] [] ∷ []

  -- the writer stores the word of an act
  pub writes : (a : Act) (place x : ℕ) → IsOffBits a → MayMake l acts a → WritesAt l acts a place x → get_or ws place 0 < 2 ^ 64 → Written l (suc n) (set ws place x) (acts ++ with_bit a 0 ∷ [])
  writes a place x off may at small =
      let allows = stores_as l l refl 0 0 (first, []) refl a place x (λ z. x) (λ z. z) (step 0 place x 0 none) (off_stored a off) may at (λ z. refl) (store_bits l acts a place x (λ z. z) off may at) (store_past l acts a place x off may at) in
      let y = first_plays l n ws (first ∷ readers) g.scene first readers refl (makes a) place x (step 0 place x 0 none) (λ z. x) refl allows small refl in
      let after = acted first y.0 y.1 l acts g.tally a (get_or ws place 0) 0 (step 0 place x 0 none) refl (stored_bit a (get_or ws place 0) off) y.2.1 in
      record { tally = after.0; scene = subst (λ (w : View). Scene l (suc n) (set ws place x) (w ∷ readers)) after.1 y.3 }

  -- the hand finds the bit of an item clear
  pub looks : (i : ℕ) → MayMake l acts (Hand i) → get_or ws (recency_place l.width l.shape i) 0 ≡ 0 → Written l (suc n) ws (acts ++ with_bit (Hand i) 0 ∷ [])
  looks i may clear =
      let place : ℕ = recency_place l.width l.shape i in
      let st = step 0 place 0 0 none in
      let allows = passes_as l l refl 0 0 (first, []) refl (Hand i) i place st refl may refl refl in
      let y = first_plays l n ws (first ∷ readers) g.scene first readers refl (turns_if_clear (Hand i)) place (get_or ws place 0) st (λ z. z) refl allows (omega (arith, clear)) refl in
      let zero : bit_at (get_or ws place 0) (recency_bit i) ≡ 0 = ap (λ (z : ℕ). bit_at z (recency_bit i)) clear ∙ bit_at-zero (recency_bit i) in
      let after = acted first y.0 y.1 l acts g.tally (Hand i) (get_or ws place 0) 0 st refl zero (y.2.1 zero) in
      record { tally = after.0; scene = subst (λ (z : View × List ℕ). Scene l (suc n) z.1 (z.0 ∷ readers)) (λ k. (after.1 k, set-get_or ws place 0 k)) y.3 }

  -- the second reader meets the writer: it is joined to it, compares the moment, and is split off again
  pub meets : get_or ws 0 0 < 2 ^ 64 → 0 < word_count l.width l.shape → Scene l (suc (suc (suc n))) ws (first ∷ reader_view l 0 [] [] ∷ spent_view ∷ reader_view l 1 acts [] ∷ [])
  meets small inside =
      let s : TableState = g.scene.states n in
      let other : View = reader_view l 1 [] [] in
      let both : View = joined_view first other in
      let mine = ap (λ (z : List View). get_elem? z 0) g.scene.views_are in
      let theirs = ap (λ (z : List View). get_elem? (set z 0 both) 2) g.scene.views_are in
      let x = (each_is_a_step l).joins s 0 2 first other (λ e. absurd (cc)) (joins_as l l refl 0 2 first other refl refl) (g.scene.run.ruled n) mine (λ e. absurd (omega (arith, e))) theirs in
      let met = goes_on l n ws (first ∷ readers) g.scene (record { words = s.words; homes = s.homes; views = set (set s.views 0 both) 2 spent_view }) x.0 x.1 ws (both ∷ reader_view l 0 [] [] ∷ spent_view ∷ []) g.scene.words g.scene.homes (ap (λ (z : List View). set (set z 0 both) 2 spent_view) g.scene.views_are) in
      let rest : List View = reader_view l 0 [] [] ∷ spent_view ∷ [] in
      let y = first_plays l (suc n) ws (both ∷ rest) met both rest refl compares 0 (get_or ws 0 0) (step 0 0 0 0 none) (λ z. z) refl (compares_as l l refl 0 0 (both, []) refl 0 inside) small refl in
      let compared : Scene l (suc (suc n)) ws (both ∷ rest) = subst (λ (z : View × List ℕ). Scene l (suc (suc n)) z.1 (z.0 ∷ rest)) (λ k. (ap (λ (m : SeatView). m.0) y.2.0 k, set-get_or ws 0 0 k)) y.3 in
      let t : TableState = compared.states (suc (suc n)) in
      let here = ap (λ (z : List View). get_elem? z 0) compared.views_are in
      let z = (each_is_a_step l).cuts parts t 0 both (splits_back_as l l refl 0 both refl) (compared.run.ruled (suc (suc n))) here in
      goes_on l (suc (suc n)) ws (both ∷ rest) compared (record { words = t.words; homes = t.homes; views = set t.views 0 first ++ reader_view l 1 acts [] ∷ [] }) z.0 z.1 ws (first ∷ reader_view l 0 [] [] ∷ spent_view ∷ reader_view l 1 acts [] ∷ [])
      compared.words compared.homes (ap (λ (u : List View). set u 0 first ++ reader_view l 1 acts [] ∷ []) compared.views_are)
