-- The change of a deed, when its progress is known.
use Rattle.std.proofs.Common.{ℕ, ◌≡◌, List, [], ◌∷◌, length, take, refl, sym, ◌∙◌, ap, subst}
use Rattle.mc_words.specs.History.{value_of}
use Rattle.mc_words.specs.Places.{payload}
use Rattle.mc_words.specs.declared.history.Change.TheVariants.{Put}
use Rattle.mc_theory.specs.Effects.{change_of, phase_after}
use Rattle.mc_theory.specs.Phases.{Closing}
use Rattle.mc_core.specs.Inside.Writers.{payload_in, phase_at}
use Rattle.mc_theory.specs.declared.act.Act.TheVariants.{Moment}
use Rattle.mc_core.specs.declared.progress.Progress.{Progress}
use Rattle.mc_core.specs.declared.written.Written.{Written}
use Rattle.mc_core.specs.declared.progress.Progress.TheVariants as progress
use Rattle.mc_core.proofs.WrittenWords.{whole_written}

-- a fill puts the value in the words that were written
pub change_placed : (V : ℕ) (xs : Written V) (p : Progress) (k i : ℕ) (v : List ℕ) → p ≡ progress.Placed k i → v ≡ value_of V (payload_in {V = V} xs) → change_of {V = V} (phase_at {V = V} xs p) ≡ Put k v ∷ []
change_placed V xs p k i v e value =
    subst (λ (y : Progress). change_of {V = V} (phase_at {V = V} xs y) ≡ Put k v ∷ []) (sym e) (ap (λ (ys : List ℕ). Put k ys ∷ []) (sym value))

-- so does a renewal
pub change_renewing : (V : ℕ) (xs : Written V) (p : Progress) (k n : ℕ) (v : List ℕ) → p ≡ progress.Renewing k n → length (take n (payload_in {V = V} xs)) ≡ payload V → v ≡ value_of V (payload_in {V = V} xs) → change_of {V = V} (phase_at {V = V} xs p) ≡ Put k v ∷ []
change_renewing V xs p k n v e all value =
    subst (λ (y : Progress). change_of {V = V} (phase_at {V = V} xs y) ≡ Put k v ∷ []) (sym e)
    (ap (λ (ys : List ℕ). Put k (value_of V ys) ∷ []) (sym (whole_written V n xs all)) ∙ ap (λ (ys : List ℕ). Put k ys ∷ []) (sym value))

-- and then only the close is left
pub closing_placed : (V : ℕ) (xs : Written V) (p : Progress) (k i : ℕ) → p ≡ progress.Placed k i → phase_after (phase_at {V = V} xs p) Moment ≡ Closing k
closing_placed V xs p k i e = subst (λ (y : Progress). phase_after (phase_at {V = V} xs y) Moment ≡ Closing k) (sym e) refl

-- counting the moment of a renewal makes it close
pub closing_renewing : (V : ℕ) (xs : Written V) (p : Progress) (k n : ℕ) → p ≡ progress.Renewing k n → phase_after (phase_at {V = V} xs p) Moment ≡ Closing k
closing_renewing V xs p k n e = subst (λ (y : Progress). phase_after (phase_at {V = V} xs y) Moment ≡ Closing k) (sym e) refl
