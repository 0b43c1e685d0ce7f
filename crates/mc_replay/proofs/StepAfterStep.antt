-- Steps of a call or of a lookup, one after the other.
use Rattle.std.proofs.Common.{◌≡◌, ℕ, zero, suc, ◌+◌, ◌-◌, ◌<◌, List, [], ◌++◌, Some, None, refl, sym, ap, ◌∙◌, subst, inl, inr, append_assoc, append-nil, arith}
use Rattle.std.specs.Prelude.{slice_get}
use Rattle.mc_words.specs.declared.shape.Shape.{Shape}
use Rattle.mc_replay.specs.declared.fault.Fault.TheVariants.{NothingToStep}
use Rattle.mc_replay.specs.Replay.{Replay, Pending, ActDoes, ActsDo, AccessDoes, AccessesDo}

-- one more of a count
pub one_more : (n : ℕ) → suc n ≡ n + 1
one_more n = omega arith

-- what is left of a count
pub left_over : (n many : ℕ) → n < many → (more : ℕ) × (n + suc more ≡ many)
left_over n many lt = (many - n - 1, omega (arith, lt))

-- acts that were made, and one more
pub acts_push : {V : ℕ} (sh : Shape) (n : ℕ) (s m t : Replay V) (p : Pending V) (text own : List ℕ) → ActsDo sh n s text None m → m.running ≡ Some p → ActDoes sh m p own t → ActsDo sh (suc n) s (text ++ own) None t
acts_push sh zero s m t p text own done runs does =
    let here : s ≡ m = sym done.2 in
    inr (p, t, own, [], subst (λ (x : Replay _). x.running ≡ Some p) (sym here) runs, subst (λ (x : Replay _). ActDoes sh x p own t) (sym here) does, (refl, refl, refl), ap (λ (x : List ℕ). x ++ own) done.0 ∙ sym (append-nil own))
acts_push sh (suc n) s m t p text own (inl idle) runs does = absurd (cc (idle.2))
acts_push sh (suc n) s m t p text own (inr step) runs does =
    inr (step.0, step.1, step.2, step.3 ++ own, step.4, step.5, acts_push sh n step.1 m t p step.3 own step.6 runs does, ap (λ (x : List ℕ). x ++ own) step.7 ∙ append_assoc step.2 step.3 own)

-- acts that were made, and then none is left
pub acts_stop : {V : ℕ} (sh : Shape) (n more : ℕ) (s m : Replay V) (text : List ℕ) → ActsDo sh n s text None m → m.running ≡ None → ActsDo sh (n + suc more) s text (Some NothingToStep) m
acts_stop sh zero more s m text done idle =
    subst (λ (k : ℕ). ActsDo sh k s text (Some NothingToStep) m) (same more) (inl (subst (λ (x : Replay _). x.running ≡ None) done.2 idle, done.0, refl, done.2))
  where
    same : (k : ℕ) → suc k ≡ 0 + suc k
    same k = omega arith
acts_stop sh (suc n) more s m text (inl none) idle = absurd (cc (none.2))
acts_stop sh (suc n) more s m text (inr step) idle =
    subst (λ (k : ℕ). ActsDo sh k s text (Some NothingToStep) m) (same n more) (inr (step.0, step.1, step.2, step.3, step.4, step.5, acts_stop sh n more step.1 m step.3 step.6 idle, step.7))
  where
    same : (a b : ℕ) → suc (a + suc b) ≡ suc a + suc b
    same a b = omega arith

-- accesses that were made, and one more
pub accesses_push : {V : ℕ} (sh : Shape) (n : ℕ) (s m t : Replay V) (r : ℕ) (text own : List ℕ) → AccessesDo sh n s r text None m → AccessDoes V sh m r own t → AccessesDo sh (suc n) s r (text ++ own) None t
accesses_push {V} sh zero s m t r text own done does =
    inr (t, own, [], subst (λ (x : Replay V). AccessDoes V sh x r own t) done.2 does, (refl, refl, refl), ap (λ (x : List ℕ). x ++ own) done.0 ∙ sym (append-nil own))
accesses_push sh (suc n) s m t r text own (inl idle) does = absurd (cc (idle.2))
accesses_push sh (suc n) s m t r text own (inr step) does =
    inr (step.0, step.1, step.2 ++ own, step.3, accesses_push sh n step.0 m t r step.2 own step.4 does, ap (λ (x : List ℕ). x ++ own) step.5 ∙ append_assoc step.1 step.2 own)

-- accesses that were made, and then none is left
pub accesses_stop : {V : ℕ} (sh : Shape) (n more : ℕ) (s m : Replay V) (r : ℕ) (text : List ℕ) → AccessesDo sh n s r text None m → slice_get m.world.readers r ≡ Some None → AccessesDo sh (n + suc more) s r text (Some NothingToStep) m
accesses_stop {V} sh zero more s m r text done idle =
    subst (λ (k : ℕ). AccessesDo sh k s r text (Some NothingToStep) m) (same more) (inl (subst (λ (x : Replay V). slice_get x.world.readers r ≡ Some None) done.2 idle, done.0, refl, done.2))
  where
    same : (k : ℕ) → suc k ≡ 0 + suc k
    same k = omega arith
accesses_stop sh (suc n) more s m r text (inl none) idle = absurd (cc (none.2))
accesses_stop sh (suc n) more s m r text (inr step) idle =
    subst (λ (k : ℕ). AccessesDo sh k s r text (Some NothingToStep) m) (same n more) (inr (step.0, step.1, step.2, step.3, accesses_stop sh n more step.0 m r step.2 step.4 idle, step.5))
  where
    same : (a b : ℕ) → suc (a + suc b) ≡ suc a + suc b
    same a b = omega arith
