-- What each step of an execution does to the list of acts and to the records.
use mathlib.Core.Logic.{dite}
use native.Mathlib.Decide.{ℕ_discrete}
use Rattle.std.proofs.Common.{◌≡◌, List, [], ◌∷◌, ◌++◌, set, ap, sym, ◌∙◌, subst, ℕ, arith}
use mathlib.Core.Option.{some-injective}
use lib.ListN.{get_elem?}
use Rattle.atomic_table.proofs.Lists.{set_else}
use Rattle.mc_theory.specs.Readings.{Reading}
use Rattle.mc_shared.specs.ExactLaws.{AddsEntry}
use Rattle.mc_shared.specs.SeatPlays.{says, seats, parts}
use Rattle.mc_shared.specs.TableRule.{Ruled}
use Rattle.mc_shared.specs.Views.{Tally, View, done_of, seated_in, spent_view}
use Rattle.mc_shared.specs.declared.layout.Layout.{Layout}
use Rattle.mc_shared.proofs.Coherence.{total_set}
use Rattle.mc_shared.proofs.ExactSteps.{seat_counts}
use Rattle.mc_executions.specs.Executions.{TableState, Says, IsPlayed, IsStep, touches, plays, cuts, joins, HasRecord}
use Rattle.mc_executions.specs.TimeOrder.{RecordIsOne}
use Rattle.mc_executions.proofs.ExecutionSteps.{Turn, LogStep, rests, grows, OneMove, nothing, one_act, one_entry, is_reader, log_is, one_turn, turn_of}
use Rattle.mc_executions.proofs.SeatMoves.{moves_seated, moves_parted, moves_joined}

module _ (l : Layout) (s t : TableState) (r : Ruled l s) (r' : Ruled l t) where
  moves_touched : t ≡ s → OneMove l s t r r'
  moves_touched e =
      let w = r.writer in
      let x = log_is l s r r.at w.0 w.1 w.2 in
      let y = log_is l t r' r.at w.0 (ap (λ (z : TableState). get_elem? z.views r.at) e ∙ w.1) w.2 in
      let same : r'.tally.readers ≡ r.tally.readers = ap (λ (z : Tally). z.readers) (sym y.1 ∙ x.1) in
      nothing (omega (arith, same)) (sym y.0 ∙ x.0) (λ a over under. absurd (omega (arith, same, over, under))) (λ a done h. subst (λ (z : TableState). HasRecord a z done) (sym e) h)

  moves_by : (play : Says) (p : IsPlayed play s t) → Turn l s p.v p.w → OneMove l s t r r'
  moves_by play p = one_turn l s t r r' p.seat p.v p.w p.mine (ap (λ (z : TableState). z.views) p.next)

  pub moves : IsStep s t → OneMove l s t r r'
  moves (touches e) = moves_touched e
  moves (plays p x) = moves_by (says p) x (turn_of l s t r' p x)
  moves (cuts seats x) = moves_seated l s t r r' x
  moves (cuts parts x) = moves_parted l s t r r' x
  moves (joins x) = moves_joined l s t r r' x

-- a reader has one record
pub record_is_one : RecordIsOne
record_is_one l s a d e r h h' = dite (ℕ_discrete h'.seat h.seat)
    (λ y. let same : h'.view ≡ h.view = some-injective _ _ (sym h'.mine ∙ (ap (λ (n : ℕ). get_elem? s.views n) y ∙ h.mine)) in sym h.is ∙ (ap done_of (sym same) ∙ h'.is))
    (λ n.
    let one = r.single a (is_reader l s r h.seat a h.view h.mine h.reader) in
    let c = total_set (λ (u : View). seated_in a u.role) s.views h.seat h.view spent_view h.mine in
    let more = seat_counts a (set s.views h.seat spent_view) h'.seat h'.view (set_else s.views h.seat h'.seat spent_view n ∙ h'.mine) in
    absurd (omega (arith, one, c, more, h.reader, h'.reader)))

-- ---- what a step does to the list of acts, and to one record
pub log_step : {l : Layout} {s t : TableState} {r : Ruled l s} {r' : Ruled l t} → OneMove l s t r r' → LogStep l s t r r'
log_step (nothing more e new kept) = rests e
log_step (one_act m seat note knows step e honest same kept) = grows m seat note knows step e honest
log_step (one_entry a done x entry is number h h' e same others) = rests e

-- the record stays, or has one entry more
pub data RecordStep (l : Layout) (s t : TableState) (r : Ruled l s) (a : ℕ) (done : List Reading) : Type 0 where
  keeps : HasRecord a t done → RecordStep l s t r a done
  adds : (e : Reading) (x : AddsEntry l s t r.log e) → x.done ≡ done → x.number ≡ a → HasRecord a t (done ++ e ∷ []) → RecordStep l s t r a done

pub record_step : {l : Layout} {s t : TableState} {r : Ruled l s} {r' : Ruled l t} (a : ℕ) (done : List Reading) → OneMove l s t r r' → HasRecord a s done → RecordStep l s t r a done
record_step a done (nothing more e new kept) h = keeps (kept a done h)
record_step a done (one_act m seat note knows step e honest same kept) h = keeps (kept a done h)
record_step {l} {s} {t} {r} a done (one_entry b d x entry is number mine mine' e same others) h = dite (ℕ_discrete a b)
    (λ y.
    let one : d ≡ done = record_is_one l s a d done r (subst (λ (n : ℕ). HasRecord n s d) (sym y) mine) h in
    adds x entry (is ∙ one) (number ∙ sym y) (subst (λ (z : List Reading). HasRecord a t (z ++ x ∷ [])) one (subst (λ (n : ℕ). HasRecord n t (d ++ x ∷ [])) (sym y) mine')))
    (λ n. keeps (others a done n h))
