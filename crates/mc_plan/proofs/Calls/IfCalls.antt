-- A put on a condition: what is known of the key's stamp, and what the answer means.
use Rattle.std.proofs.Common.{ℕ, ◌≡◌, ◌≢◌, ◌+◌, ◌∙◌, ◌≤◌, List, [], ◌∷◌, ◌++◌, Option, Some, None, Ok, Err, ap, refl, sym, arith, length}
use Rattle.mc_words.specs.Answers.{RenewalIsSpent}
use Rattle.mc_words.specs.Checks.{shape_of}
use Rattle.mc_words.specs.History.{IsWord, map_value, value_of}
use Rattle.mc_words.specs.Places.{item, moment, payload}
use Rattle.mc_words.specs.Shapes.{IsShape}
use Rattle.mc_words.specs.Standing.{Stands, IsAbsent, AgreesAt}
use Rattle.mc_words.specs.declared.shape.Shape.{Shape}
use Rattle.mc_words.proofs.Payload.{payload_is, value_length, whole_payload}
use Rattle.mc_theory.specs.States.{State}
use Rattle.mc_theory.specs.declared.act.Act.TheVariants.{Mark}
use Rattle.mc_plan.specs.declared.answer.Answer.TheVariants as answer
use Rattle.mc_plan.specs.declared.answer.IfError.TheVariants as why
use Rattle.mc_plan.specs.declared.books.Books.{Books}
use Rattle.mc_plan.specs.Books.{AreBooksOf, IsPlanned}
use Rattle.mc_plan.specs.Laws.{IsValue}
use Rattle.mc_plan.specs.Making.{IsQuiet}
use Rattle.mc_plan.specs.Plans.{renew_acts}
use Rattle.mc_plan.specs.WholeCalls.{PutIfCall, quiet_of}
use Rattle.mc_plan.proofs.Calls.AfterPlan.{idle_planned, renewal_made}
use Rattle.mc_plan.proofs.Deeds.QuietStates.{absent_held, agrees_quiet, keys_quiet}

-- a value with this stamp
pub record HasStamp (V : ℕ) (o : Option (List ℕ)) (n : ℕ) : Type 0 where
  pub value : List ℕ
  pub held : o ≡ Some (value ++ n ∷ [])
  pub size : length value ≡ V

-- the words of a key include its stamp
stamp_on : (V : ℕ) (sh : Shape) (w : List ℕ) (k q i n : ℕ) (o : Option (List ℕ)) → AgreesAt V sh w k o → Stands V sh w k q i → item V sh w i (payload V) ≡ n → HasStamp V o n
stamp_on V sh w k q i n None a stands is = absurd (a q i stands)
stamp_on V sh w k q i n (Some xs) a stands is =
    let has = a.3 in
    let whole = has.0 in
    let last : item V sh w a.1 (V + 1) ≡ n = ap (λ (j : ℕ). item V sh w a.1 j) (sym (payload_is V)) ∙ ap (λ (g : ℕ). item V sh w g (payload V)) (sym (a.2.once q i stands).1) ∙ is in
    record {
      value = value_of V xs;
      held = ap (λ (ys : List ℕ). Some ys) (sym (whole_payload V n xs whole (sym (has.1 V (omega (arith, whole, payload_is V))) ∙ last)));
      size = value_length V xs whole;
    }

pub stamp_held : (V : ℕ) (sh : Shape) (s : State V) (k q i n : ℕ) → IsQuiet V sh s → Stands V sh s.words k q i → item V sh s.words i (payload V) ≡ n → HasStamp V (map_value s.history k) n
stamp_held V sh s k q i n quiet stands is = stamp_on V sh s.words k q i n (map_value s.history k) (keys_quiet V sh s quiet k) stands is

-- ---- the answers
module _ (V : ℕ) (b : Books) (k since : ℕ) (v : List ℕ) (s : State V) (old : AreBooksOf V b s) where
  pub spent_planned : RenewalIsSpent (shape_of b.checked) (quiet_of s) → IsPlanned V b [] (PutIfCall k since v) s s (answer.PutIf (Err why.Spent))
  spent_planned spent = idle_planned V b (PutIfCall k since v) s (answer.PutIf (Err why.Spent)) old (spent, refl) tt

  pub absent_planned : (at : ℕ) → (RenewalIsSpent (shape_of b.checked) (quiet_of s) → ⊥) → IsAbsent V (shape_of b.checked) s.words k → at ≡ moment s.words → IsPlanned V b [] (PutIfCall k since v) s s (answer.PutIf (Err (why.NotThere at)))
  absent_planned at unspent absent is =
      let sh = shape_of b.checked in
      idle_planned V b (PutIfCall k since v) s (answer.PutIf (Err (why.NotThere at))) old
      (record { unspent = unspent; absent = absent_held V sh s k old.quiet absent; unchanged = refl; moment = is ∙ (agrees_quiet V sh s old.quiet).at_moment })
      tt

  pub changed_planned : (q i stands : ℕ) → (RenewalIsSpent (shape_of b.checked) (quiet_of s) → ⊥) → Stands V (shape_of b.checked) s.words k q i → item V (shape_of b.checked) s.words i (payload V) ≡ stands → stands ≢ since
      → IsPlanned V b [] (PutIfCall k since v) s s (answer.PutIf (Err (why.Changed stands)))
  changed_planned q i stands unspent there is other =
      let has = stamp_held V (shape_of b.checked) s k q i stands old.quiet there is in
      idle_planned V b (PutIfCall k since v) s (answer.PutIf (Err (why.Changed stands))) old
      (record { unspent = unspent; value = has.value; held = has.held; size = has.size; other = other; unchanged = refl })
      tt

  pub if_renewal_planned : (q i at : ℕ) → IsShape (shape_of b.checked) → IsWord k → IsValue V v → (RenewalIsSpent (shape_of b.checked) (quiet_of s) → ⊥) → Stands V (shape_of b.checked) s.words k q i → item V (shape_of b.checked) s.words i (payload V) ≡ since → at ≡ moment s.words + 1
      → IsPlanned V (record b { version_steps = b.version_steps + 2 }) (renew_acts k v at i ++ Mark i ∷ []) (PutIfCall k since v) s s (answer.PutIf (Ok at))
  if_renewal_planned q i at shape key value unspent there is next =
      let has = stamp_held V (shape_of b.checked) s k q i since old.quiet there is in
      let limit : s.version_steps + 2 ≤ (shape_of b.checked).limit = omega (arith, unspent) in
      renewal_made V b k v i at s q (PutIfCall k since v) (answer.PutIf (Ok at)) shape key value old there limit next
      (λ t grows hand now. record { unspent = unspent; value = has.value; held = has.held; size = has.size; grows = grows; hand = hand; moment = now })
      (λ w acts m. m)
