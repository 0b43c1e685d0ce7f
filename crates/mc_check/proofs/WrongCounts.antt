-- How many of a list of records are wrong.
use Rattle.std.proofs.Common.{ℕ, suc, ◌≡◌, ◌+◌, List, [], ◌∷◌, ◌++◌, refl, sym, subst, inl, inr, arith}
use Rattle.std.specs.Prelude.{All}
use Rattle.mc_words.specs.History.{IsTrueAnswer}
use Rattle.mc_words.specs.declared.history.Change.{Change}
use Rattle.mc_check.specs.declared.record.Record.{Record}
use Rattle.mc_check.specs.Wrong.{AreWrong}

-- a true record more
pub true_more : {V : ℕ} (h : List (Change V)) (rs : List (Record V)) (r : Record V) (n : ℕ) → IsTrueAnswer h r.key r.reply → AreWrong h rs n → AreWrong h (rs ++ r ∷ []) n
true_more h [] r n t w = inl (t, w)
true_more h (x ∷ rs) r n t (inl w) = inl (w.0, true_more h rs r n t w.1)
true_more h (x ∷ rs) r n t (inr w) = inr (w.0, (w.1.0, w.1.1, true_more h rs r w.1.0 t w.1.2))

-- a wrong record more
pub wrong_more : {V : ℕ} (h : List (Change V)) (rs : List (Record V)) (r : Record V) (n : ℕ) → (IsTrueAnswer h r.key r.reply → ⊥) → AreWrong h rs n → AreWrong h (rs ++ r ∷ []) (n + 1)
wrong_more h [] r n f w = inr (f, (n, refl, w))
wrong_more h (x ∷ rs) r n f (inl w) = inl (w.0, wrong_more h rs r n f w.1)
wrong_more h (x ∷ rs) r n f (inr w) = inr (w.0, (n, refl, subst (AreWrong h (rs ++ r ∷ [])) (sym w.1.1) (wrong_more h rs r w.1.0 f w.1.2)))

-- if all are true, none is wrong
pub none_wrong : {V : ℕ} (h : List (Change V)) (rs : List (Record V)) (n : ℕ) → All (λ (r : Record V). IsTrueAnswer h r.key r.reply) rs → AreWrong h rs n → n ≡ 0
none_wrong h [] n all w = w
none_wrong h (r ∷ rs) n all (inl w) = none_wrong h rs n (λ k d low. all (suc k) d (omega (arith, low))) w.1
none_wrong h (r ∷ rs) n all (inr w) = absurd (w.0 (all 0 r (omega arith)))
