-- A lawful act of the writer may come next.
use Rattle.std.proofs.Common.{◌≡◌, ℕ, suc, ◌<◌, ◌≤◌, ◌^◌, List, [], ◌∷◌, ◌++◌, length, get_or, refl, ap, sym, ◌∙◌, subst, arith}
use Rattle.std.proofs.lemmas.Option.{none-some}
use Rattle.std.specs.Prelude.{Some}
use Rattle.std.specs.Int.RustNames.{bit_or}
use lib.Bits.{bit_and}
use lib.ListN.{get_elem?}
use mathlib.Core.Option.{some, none}
use Rattle.atomic_table.specs.Table.{Allows, Step, carried_after, step, stepped}
use Rattle.atomic_table.proofs.Lists.{set_here}
use Rattle.mc_words.specs.Places.{recency_place}
use Rattle.mc_words.specs.Shapes.{IsShape}
use Rattle.mc_theory.specs.Acts.{IsAllowed}
use Rattle.mc_theory.specs.declared.act.Act.{Act}
use Rattle.mc_theory.specs.declared.act.Act.TheVariants.{Open, Slot, Item, Moment, Close, Hand, Mark}
use Rattle.mc_theory.specs.Lists.{Made}
use Rattle.mc_theory.specs.Writes.{write_of}
use Rattle.mc_shared.specs.Inside.Seats.{MayMake}
use Rattle.mc_shared.specs.Inside.Steps.{IsOffBits, WritesAt, only, all_but}
use Rattle.mc_shared.specs.declared.layout.Layout.{Layout}
use Rattle.mc_shared.specs.SeatPlays.{SeatPlay, says, makes, turns}
use Rattle.mc_shared.specs.Steps.{SeatView, AddsAct, bit_of}
use Rattle.mc_shared.specs.TableRule.{Ruled}
use Rattle.mc_shared.specs.Views.{AreLawful, Tally, View, layout_state, writer_view, with_bit, with_note}
use Rattle.mc_shared.proofs.EachStep.{got_below, stores_as, touches_as, hands_as}
use Rattle.mc_shared.proofs.RecencySteps.{store_bits, store_past}
use Rattle.mc_shared.proofs.SeatSteps.{off_stored, stored_bit}
use Rattle.mc_executions.specs.Executions.{TableState, IsExecution, HasActs}
use Rattle.mc_executions.specs.GrownExecutions.{grown, ActsNext, AllWritersMayAct}
use Rattle.mc_executions.proofs.GrownExecutions.{executions_grow}
use Rattle.mc_executions.proofs.RunningSteps.{each_is_a_step}

-- an act that writes a word before the recency words is on no bit, and this is where it writes
off_bits : (l : Layout) (acts : List Made) (a : Act) (n x : ℕ) → write_of l.width l.shape (layout_state l acts).words (layout_state l acts).phase a ≡ Some (n, x) → IsOffBits a × WritesAt l acts a n x
off_bits l acts (Hand i) n x e = absurd (none-some (n, x) e)
off_bits l acts (Mark i) n x e = absurd (none-some (n, x) e)
off_bits l acts (Open k d) n x e = (tt, e)
off_bits l acts (Slot p y) n x e = (tt, e)
off_bits l acts (Item i j y) n x e = (tt, e)
off_bits l acts Moment n x e = (tt, e)
off_bits l acts Close n x e = (tt, e)

-- the next step is a play that adds the act
module _ (l : Layout) (states : ℕ → TableState) (n seat place : ℕ) (acts : List Made) (tally : Tally) (a : Act) (run : IsExecution l states) (mine : get_elem? (states n).views seat ≡ some (writer_view l acts tally)) (small : get_or (states n).words place 0 < 18446744073709551616) where
  abbrev v : View
  v = writer_view l acts tally

  acts_next : (p : SeatPlay) (st : Step (Unit {0})) (leaves : ℕ → ℕ) → st.word ≡ place → Allows (Ruled l) (length (states n).homes) seat (v, []) place leaves (says p st (v, [])) →
      ((found : ℕ) (me' : SeatView) → says p st (v, []) found me' → AddsAct a st (v, []) found me') → ActsNext l states n acts (with_bit a (bit_of a (get_or (states n).words place 0)))
  acts_next p st leaves at allows adds =
      let s : TableState = states n in
      let next = allows s (run.ruled n) refl mine small in
      let t : TableState = stepped s place (leaves (get_or s.words place 0)) seat [] next.0 next.1 in
      let y = (each_is_a_step l).plays p s seat (length s.homes) place v [] st leaves at allows (run.ruled n) refl mine small in
      let g = (executions_grow l).grow states n t run y.0 y.1 in
      let m : Made = with_bit a (bit_of a (get_or s.words place 0)) in
      let told = adds (get_or s.words place 0) (next.0, carried_after [] next.1) next.4 in
      let has : HasActs t (acts ++ m ∷ []) = record {
        seat = seat;
        view = writer_view l (acts ++ m ∷ []) (with_note tally told.0);
        mine = set_here s.views seat next.0 (got_below s.views seat v mine) ∙ ap (λ (z : SeatView). some z.0) told.1;
        writer = tt;
        is = refl;
      } in
      (grown states n t, g.0, g.1, subst (λ (z : TableState). HasActs z (acts ++ m ∷ [])) (sym (g.2 (suc n) (omega arith))) has)

-- what is known where the writer may make the act
may_now : (l : Layout) (states : ℕ → TableState) (n seat : ℕ) (acts : List Made) (tally : Tally) (a : Act) → IsExecution l states → get_elem? (states n).views seat ≡ some (writer_view l acts tally) →
    IsShape l.shape → IsAllowed l.shape (layout_state l acts) a → (layout_state l acts).version_steps ≤ 2 ^ 62 → MayMake l acts a
may_now l states n seat acts tally a run mine shape allowed few =
    let fits = (run.ruled n).views seat (writer_view l acts tally) mine in
    record { shape = shape; lawful = subst (AreLawful l) (sym fits.2) (run.ruled n).lawful; allowed = allowed; few = few }

pub writers_may_act : AllWritersMayAct
writers_may_act l = record {
  acts = λ states n seat place x acts tally a run mine shape allowed few written small.
      let may = may_now l states n seat acts tally a run mine shape allowed few in
      let at = off_bits l acts a place x written in
      let st = step (length (states n).homes) place x 0 none in
      let allows = stores_as l l refl seat (length (states n).homes) (writer_view l acts tally, []) refl a place x (λ z. x) (λ z. z) st (off_stored a at.0) may at.1 (λ z. refl) (store_bits l acts a place x (λ z. z) at.0 may at.1) (store_past l acts a place x at.0 may at.1) in
      subst (λ (b : ℕ). ActsNext l states n acts (with_bit a b)) (stored_bit a (get_or (states n).words place 0) at.0)
      (acts_next l states n seat place acts tally a run mine small (makes a) st (λ z. x) refl allows (λ found me' told. told.1));
  marks = λ states n seat i acts tally run mine shape allowed few small.
      let may = may_now l states n seat acts tally (Mark i) run mine shape allowed few in
      let place : ℕ = recency_place l.width l.shape i in
      let allows = touches_as l l refl seat (length (states n).homes) (writer_view l acts tally, []) refl (Mark i) i place (only i) refl may refl refl in
      acts_next l states n seat place acts tally (Mark i) run mine small (makes (Mark i)) (step (length (states n).homes) place (only i) 0 none) (λ w. bit_or w (only i)) refl allows (λ found me' told. told.1);
  hands = λ states n seat i acts tally run mine shape allowed few small.
      let may = may_now l states n seat acts tally (Hand i) run mine shape allowed few in
      let place : ℕ = recency_place l.width l.shape i in
      let allows = hands_as l l refl seat (length (states n).homes) (writer_view l acts tally, []) refl (Hand i) i place (all_but i) refl may refl refl in
      acts_next l states n seat place acts tally (Hand i) run mine small (turns (Hand i)) (step (length (states n).homes) place (all_but i) 0 none) (λ w. bit_and w (all_but i)) refl allows (λ found me' told. told.2);
}
