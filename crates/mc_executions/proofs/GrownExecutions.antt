-- Executions begin with a new table, and grow by steps.
use Rattle.std.proofs.Common.{◌≡◌, ℕ, zero, suc, ◌<◌, ◌≤◌, refl, sym, ◌∙◌, subst, arith}
use Rattle.std.proofs.Common.{◌+◌, List, [], ◌∷◌, ◌++◌, length, get_or, set, ap}
use mathlib.Core.Option.{some, none}
use lib.ListN.{get_elem?}
use Rattle.atomic_table.specs.Table.{step, stepped}
use Rattle.atomic_table.proofs.Lists.{set_here, at_last}
use Rattle.mc_theory.specs.Readings.{Reading}
use Rattle.mc_shared.specs.SeatPlays.{reads, seats}
use Rattle.mc_shared.specs.Steps.{SeatView, reading}
use Rattle.mc_shared.specs.Views.{tally_for, View, writer_view, reader_view, front_of}
use Rattle.mc_shared.proofs.CutSeats.{splits_new}
use Rattle.mc_executions.proofs.ExecutionSteps.{hit}
use Rattle.mc_executions.proofs.RunningSteps.{each_is_a_step}
use Rattle.mc_shared.proofs.EachStep.{begins, got_below, reads_one}
use Rattle.mc_shared.specs.TableRule.{Ruled}
use Rattle.mc_shared.specs.declared.layout.Layout.{Layout}
use Rattle.mc_executions.specs.Executions.{TableState, IsStep, touches, HasRecord}
use Rattle.mc_executions.specs.GrownExecutions.{grown, AllExecutionsGrow, AllReadersMayCome}

first_stays : (states : ℕ → TableState) (n : ℕ) (t : TableState) → grown states n t 0 ≡ states 0
first_stays states zero t = refl
first_stays states (suc n) t = refl

old_stay : (n : ℕ) (states : ℕ → TableState) (t : TableState) (k : ℕ) → k ≤ n → grown states n t k ≡ states k
old_stay zero states t zero le = refl
old_stay zero states t (suc k) le = absurd (omega (arith, le))
old_stay (suc n) states t zero le = refl
old_stay (suc n) states t (suc k) le = old_stay n (λ m. states (suc m)) t k (omega (arith, le))

new_stay : (n : ℕ) (states : ℕ → TableState) (t : TableState) (k : ℕ) → n < k → grown states n t k ≡ t
new_stay zero states t zero lt = absurd (omega (arith, lt))
new_stay zero states t (suc k) lt = refl
new_stay (suc n) states t zero lt = absurd (omega (arith, lt))
new_stay (suc n) states t (suc k) lt = new_stay n (λ m. states (suc m)) t k (omega (arith, lt))

grown_ruled : (l : Layout) (n : ℕ) (states : ℕ → TableState) (t : TableState) → ((k : ℕ) → Ruled l (states k)) → Ruled l t → (k : ℕ) → Ruled l (grown states n t k)
grown_ruled l zero states t ruled new zero = ruled 0
grown_ruled l zero states t ruled new (suc k) = new
grown_ruled l (suc n) states t ruled new zero = ruled 0
grown_ruled l (suc n) states t ruled new (suc k) = grown_ruled l n (λ m. states (suc m)) t (λ m. ruled (suc m)) new k

grown_steps : (l : Layout) (n : ℕ) (states : ℕ → TableState) (t : TableState) → ((k : ℕ) → IsStep (states k) (states (suc k))) → IsStep (states n) t → (k : ℕ) → IsStep (grown states n t k) (grown states n t (suc k))
grown_steps l zero states t steps new zero = new
grown_steps l zero states t steps new (suc k) = touches refl
grown_steps l (suc n) states t steps new zero = subst (IsStep (states 0)) (sym (first_stays (λ m. states (suc m)) n t)) (steps 0)
grown_steps l (suc n) states t steps new (suc k) = grown_steps l n (λ m. states (suc m)) t (λ m. steps (suc m)) new k

pub executions_grow : AllExecutionsGrow
executions_grow l = record {
  begin = λ words zeros. record { opened = refl; ruled = λ n. begins l words zeros; steps = λ n. touches refl };
  grow = λ states n t run step rule. (
    record {
      opened = subst (λ (s : TableState). s.views ≡ (states 0).views) (sym (first_stays states n t)) refl ∙ run.opened;
      ruled = grown_ruled l n states t run.ruled rule;
      steps = grown_steps l n states t run.steps step;
    },
    old_stay n states t,
    new_stay n states t,
  );
}

-- ---- readers
pub readers_may_come : AllReadersMayCome
readers_may_come l = record {
  seated = λ states n seat readers run mine.
      let v : View = writer_view l [] (tally_for readers) in
      let left : View = writer_view l [] (tally_for (readers + 1)) in
      let new : View = reader_view l readers [] [] in
      let views : List View = set (states n).views seat left ++ new ∷ [] in
      let t : TableState = record { words = (states n).words; homes = (states n).homes; views = views } in
      let x = (each_is_a_step l).cuts seats (states n) seat v (splits_new l seat readers) (run.ruled n) mine in
      let g = (executions_grow l).grow states n t run x.0 x.1 in (
        grown states n t,
        g.0,
        g.1,
        subst (λ (s : TableState). HasRecord readers s []) (sym (g.2 (suc n) (omega arith)))
            (record { seat = length (set (states n).views seat left); view = new; mine = at_last (set (states n).views seat left) new (length (set (states n).views seat left)) refl; reader = hit readers; is = refl }),
      );
  read = λ states n seat number place front done a run mine where_is below small.
      let s : TableState = states n in
      let v : View = reader_view l number front done in
      let st = step (length s.homes) place 0 0 none in
      let allows = reads_one l seat (length s.homes) [] number front done a place st where_is refl below in
      let next = allows s (run.ruled n) refl mine small in
      let t : TableState = stepped s place (get_or s.words place 0) seat [] next.0 next.1 in
      let x = (each_is_a_step l).plays (reads a) s seat (length s.homes) place v [] st (λ w. w) refl allows (run.ruled n) refl mine small in
      let g = (executions_grow l).grow states n t run x.0 x.1 in
      let e : Reading = reading a (get_or s.words place 0) (front_of next.0) in
      let w : View = reader_view l number (front_of next.0) (done ++ e ∷ []) in
      let told = next.4 in
      let is : next.0 ≡ w = ap (λ (z : SeatView). z.0) told.1 ∙ ap (λ (z : List Reading). reader_view l number (front_of next.0) z) told.2.adds in
      let here : get_elem? (set s.views seat next.0) seat ≡ some w = set_here s.views seat next.0 (got_below s.views seat v mine) ∙ ap some is in
      let has : HasRecord number t (done ++ e ∷ []) = record { seat = seat; view = w; mine = here; reader = hit number; is = refl } in (
        grown states n t,
        e,
        g.0,
        g.1,
        subst (λ (z : TableState). HasRecord number z (done ++ e ∷ [])) (sym (g.2 (suc n) (omega arith))) has,
        refl,
        refl,
      );
}
