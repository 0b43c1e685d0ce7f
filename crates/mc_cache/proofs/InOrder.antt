-- Steps that are made in order: one more.
use Rattle.std.proofs.Common.{List, [], ◌∷◌, ◌++◌, refl, subst}
use Rattle.mc_cache.specs.Batches.{InOrder}

pub one_more : {A B S : Type 0} (Step : A → S → S → B → Type 0) (xs : List A) (a : A) (s mid s' : S) (bs : List B) (b : B) → InOrder Step xs s mid bs → Step a mid s' b → InOrder Step (xs ++ a ∷ []) s s' (bs ++ b ∷ [])
one_more Step [] a s mid s' [] b done one = (s', subst (λ start. Step a start s' b) done one, refl)
one_more Step (x ∷ xs) a s mid s' (y ∷ ys) b done one = (done.0, done.1, one_more Step xs a done.0 mid s' ys b done.2 one)
one_more Step [] a s mid s' (y ∷ ys) b done one = absurd done
one_more Step (x ∷ xs) a s mid s' [] b done one = absurd done
