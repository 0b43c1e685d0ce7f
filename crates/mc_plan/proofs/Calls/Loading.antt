-- Entries that are put one after the other: one more, and the history that they make.
use Rattle.std.proofs.Common.{ℕ, ◌≡◌, ◌+◌, ◌∙◌, List, [], ◌∷◌, ◌++◌, length, Result, Ok, Err, Some, None, ap, refl, sym, subst, arith, append_assoc, append-nil}
use Rattle.mc_words.specs.declared.policy.Policy.{Policy}
use Rattle.mc_words.specs.Answers.{Quiet}
use Rattle.mc_words.specs.declared.history.Change.{Change}
use Rattle.mc_words.specs.declared.shape.Shape.{Shape}
use Rattle.mc_theory.specs.Lists.{Made, after_all}
use Rattle.mc_theory.specs.States.{State}
use Rattle.mc_theory.proofs.Lists.Fronts.{after_all-append}
use Rattle.mc_plan.specs.declared.answer.Answer.TheVariants as answer
use Rattle.mc_plan.specs.declared.answer.Put.{Put}
use Rattle.mc_plan.specs.declared.answer.Put.TheVariants.{Stored, Renewed}
use Rattle.mc_plan.specs.declared.answer.Why.{Why}
use Rattle.mc_plan.specs.declared.answer.Why.TheVariants.{NoPath, NoItem, Spent}
use Rattle.mc_plan.specs.Loads.{LoadsBy, changes_by, left_by}
use Rattle.mc_plan.specs.WholeCalls.{AnsweredBy, KeptCall, Means}

-- one entry more
pub loads_more : (V : ℕ) (policy : Policy) (sh : Shape) (s : State V) (n m : ℕ) (es : List (ℕ × List ℕ)) (k : ℕ) (v : List ℕ) (acts more : List Made) (changes : List (Change V)) (left : List (ℕ × Why)) (told : Result Put Why) → LoadsBy V sh policy s n es acts changes left → m ≡ n + length es
    → AnsweredBy V sh policy (KeptCall k v) (after_all sh s acts) more (answer.Kept told) → LoadsBy V sh policy s n (es ++ (k, v) ∷ []) (acts ++ more) (changes ++ changes_by k v told) (left ++ left_by m told)
loads_more V policy sh s n m [] k v acts more changes left told l index a =
    let at : m ≡ n = omega (arith, index) in (
      told,
      more,
      [],
      [],
      [],
      ap (λ (xs : List Made). xs ++ more) l.0 ∙ sym (append-nil more),
      ap (λ (xs : List (Change V)). xs ++ changes_by k v told) l.1 ∙ sym (append-nil (changes_by k v told)),
      ap (λ (xs : List (ℕ × Why)). xs ++ left_by m told) l.2 ∙ (ap (λ (j : ℕ). left_by j told) at ∙ sym (append-nil (left_by n told))),
      subst (λ (xs : List Made). AnsweredBy V sh policy (KeptCall k v) (after_all sh s xs) more (answer.Kept told)) l.0 a,
      (refl, refl, refl),
    )
loads_more V policy sh s n m (e ∷ es) k v acts more changes left told l index a =
    let first = l.1 in
    let rest = l.2 in
    let later = l.3 in
    let others = l.4 in
    let now : after_all sh s acts ≡ after_all sh (after_all sh s first) rest = ap (λ (xs : List Made). after_all sh s xs) l.5 ∙ after_all-append sh s first rest in (
      l.0,
      first,
      rest ++ more,
      later ++ changes_by k v told,
      others ++ left_by m told,
      ap (λ (xs : List Made). xs ++ more) l.5 ∙ append_assoc first rest more,
      ap (λ (xs : List (Change V)). xs ++ changes_by k v told) l.6 ∙ append_assoc (changes_by e.0 e.1 l.0) later (changes_by k v told),
      ap (λ (xs : List (ℕ × Why)). xs ++ left_by m told) l.7 ∙ append_assoc (left_by n l.0) others (left_by m told),
      l.8,
      loads_more V policy sh (after_all sh s first) (n + 1) m es k v rest more later others told l.9 (omega (arith, index)) (subst (λ (t : State V). AnsweredBy V sh policy (KeptCall k v) t more (answer.Kept told)) now a),
    )

-- what the call for one entry makes of the history
kept_grows : (V : ℕ) (sh : Shape) (k : ℕ) (v : List ℕ) (s t : State V) (told : Result Put Why) → Means sh (KeptCall k v) (answer.Kept told) s t → t.history ≡ s.history ++ changes_by k v told
kept_grows V sh k v s t (Ok (Stored at moves None)) a = a.grows.history
kept_grows V sh k v s t (Ok (Stored at moves (Some evicted))) a = absurd a
kept_grows V sh k v s t (Ok (Renewed at)) a = a.grows.history
kept_grows V sh k v s t (Err NoPath) a = ap (λ (q : Quiet V). q.history) a.unchanged ∙ sym (append-nil s.history)
kept_grows V sh k v s t (Err NoItem) a = ap (λ (q : Quiet V). q.history) a.unchanged ∙ sym (append-nil s.history)
kept_grows V sh k v s t (Err Spent) a = ap (λ (q : Quiet V). q.history) a.1 ∙ sym (append-nil s.history)

-- the history grows by the changes
pub loads_history : (V : ℕ) (policy : Policy) (sh : Shape) (s : State V) (n : ℕ) (es : List (ℕ × List ℕ)) (acts : List Made) (changes : List (Change V)) (left : List (ℕ × Why)) → LoadsBy V sh policy s n es acts changes left → (after_all sh s acts).history ≡ s.history ++ changes
loads_history V policy sh s n [] acts changes left l =
    ap (λ (xs : List Made). (after_all sh s xs).history) l.0 ∙ (sym (append-nil s.history) ∙ ap (λ (xs : List (Change V)). s.history ++ xs) (sym l.1))
loads_history V policy sh s n (e ∷ es) acts changes left l =
    let m = after_all sh s l.1 in
    let made = changes_by e.0 e.1 l.0 in
    ap (λ (xs : List Made). (after_all sh s xs).history) l.5 ∙ ap (λ (t : State V). t.history) (after_all-append sh s l.1 l.2) ∙ loads_history V policy sh m (n + 1) es l.2 l.3 l.4 l.9
    ∙ ap (λ (h : List (Change V)). h ++ l.3) (kept_grows V sh e.0 e.1 s m l.0 l.8.means) ∙ append_assoc s.history made l.3 ∙ ap (λ (xs : List (Change V)). s.history ++ xs) (sym l.6)
