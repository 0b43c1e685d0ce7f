-- The laws of histories.
use Rattle.std.proofs.Common.{ℕ, ◌≡◌, ◌≢◌, ◌≤◌, ◌∙◌, ◌⊎◌, List, [], ◌∷◌, ◌++◌, length, take, Option, Some, None, ap, arith, inl, inr, refl, subst, sym}
use Rattle.std.proofs.lemmas.List.{append-nil, length-append, same_from_push, take-append-le}
use Rattle.std.proofs.Math.Seq.{take-length}
use Rattle.mc_words.proofs.Maps.{held-evict, held-none, held-other, held-put, held-remove}
use Rattle.mc_words.specs.History.{IsTrueAnswer, map_value}
use Rattle.mc_words.specs.declared.history.Change.{Change}
use Rattle.mc_words.specs.declared.history.Change.TheVariants.{Put, Remove, Evict}
use Rattle.mc_words.specs.declared.history.Reply.{Reply}
use Rattle.mc_words.specs.declared.history.Reply.TheVariants.{Found, Absent, Busy}
use Rattle.mc_theory.specs.Plain.{IsBetween}
use Rattle.mc_cache.specs.Plain.{Begins, TellsNow}
use Rattle.mc_cache.specs.PlainLaws.{HistoryLaws, key_of}

others_stay : {V : ℕ} (h : List (Change V)) (c : Change V) (k : ℕ) → k ≢ key_of c → map_value (h ++ c ∷ []) k ≡ map_value h k
others_stay h (Put j v) k ne = held-other h (Put j v) k ne
others_stay h (Remove j) k ne = held-other h (Remove j) k ne
others_stay h (Evict j) k ne = held-other h (Evict j) k ne

-- the map after the first changes of a history stays as it is when the history grows
still_true : {V : ℕ} (h more : List (Change V)) (k : ℕ) (reply : Reply V) → IsTrueAnswer h k reply → IsTrueAnswer (h ++ more) k reply
still_true {V} h more k (Found v at since) t = (omega (arith, t.0, length-append h more), ap (λ (z : List (Change V)). map_value z k) (take-append-le at h more t.0) ∙ t.1)
still_true {V} h more k (Absent at) t = (omega (arith, t.0, length-append h more), ap (λ (z : List (Change V)). map_value z k) (take-append-le at h more t.0) ∙ t.1)
still_true h more k Busy t = t

stays_true : {V : ℕ} (h h' : List (Change V)) (k : ℕ) (reply : Reply V) → Begins h h' → IsTrueAnswer h k reply → IsTrueAnswer h' k reply
stays_true h h' k reply b t = subst (λ z. IsTrueAnswer z k reply) (sym b.1) (still_true h b.0 k reply t)

-- all changes of a history
whole : {V : ℕ} (h : List (Change V)) (at : ℕ) → length h ≤ at → at ≤ length h → take at h ≡ h
whole h at above below = ap (λ (n : ℕ). take n h) (omega (arith, above, below)) ∙ take-length h

tells_now : {V : ℕ} (h : List (Change V)) (k : ℕ) (reply : Reply V) → IsTrueAnswer h k reply → IsBetween (length h) (length h) reply → (reply ≡ Busy) ⊎ TellsNow h k reply
tells_now {V} h k (Found v at since) t b = inr (sym (ap (λ (z : List (Change V)). map_value z k) (whole h at b.0 b.1)) ∙ t.1, omega (arith, b.0, b.1))
tells_now {V} h k (Absent at) t b = inr (sym (ap (λ (z : List (Change V)). map_value z k) (whole h at b.0 b.1)) ∙ t.1, omega (arith, b.0, b.1))
tells_now h k Busy t b = inl refl

pub some_same : (xs ys : List ℕ) → ◌≡◌ {A = Option (List ℕ)} (Some xs) (Some ys) → xs ≡ ys
some_same xs ys e = cc

-- a key that was absent stays so when another is evicted
pub absent_evicted : {V : ℕ} (h h' : List (Change V)) (k j : ℕ) (xs : List ℕ) → map_value h k ≡ None → map_value h j ≡ Some xs → h' ≡ h ++ Evict j ∷ [] → map_value h' k ≡ None
absent_evicted {V} h h' k j xs none held grew =
    ap (λ (z : List (Change V)). map_value z k) grew ∙ (others_stay h (Evict j) k (λ e. none_some (sym none ∙ (ap (map_value h) e ∙ held))) ∙ none)
  where
    none_some : ◌≡◌ {A = Option (List ℕ)} None (Some xs) → ⊥
    none_some e = absurd (cc)

held_found : {V : ℕ} (h : List (Change V)) (k : ℕ) (v : List ℕ) (since : ℕ) (reply : Reply V) → map_value h k ≡ Some (v ++ since ∷ []) → TellsNow h k reply → reply ≡ Found v (length h) since
held_found {V} h k v since (Found w at stamp) held t =
    let same = same_from_push w v stamp since (some_same (w ++ stamp ∷ []) (v ++ since ∷ []) (sym t.0 ∙ held)) in
    λ i. Found (same.0 i) (t.1 i) (same.1 i)
held_found h k v since (Absent at) held t = absurd (none_some (sym t.0 ∙ held))
  where
    none_some : ◌≡◌ {A = Option (List ℕ)} None (Some (v ++ since ∷ [])) → ⊥
    none_some e = absurd (cc)
held_found h k v since Busy held t = absurd t

none_more : {V : ℕ} (h p q : List (Change V)) → h ≡ (h ++ p) ++ q → p ≡ []
none_more {V} h p q e = empty p (omega (arith, ap length e, length-append (h ++ p) q, length-append h p))
  where
    empty : (z : List (Change V)) → length z ≡ 0 → z ≡ []
    empty [] e = refl
    empty (x ∷ z) e = absurd (omega (arith, e))

same_history : {V : ℕ} (h h' : List (Change V)) → Begins h h' → Begins h' h → h' ≡ h
same_history {V} h h' a b = a.1 ∙ (ap (λ (z : List (Change V)). h ++ z) (none_more h a.0 b.0 (b.1 ∙ ap (λ (z : List (Change V)). z ++ b.0) a.1)) ∙ append-nil h)

pub history_laws : (V : ℕ) → HistoryLaws V
history_laws V = record {
  maps = record { empty = λ k. held-none V k; put = λ h k v. held-put h k v; removed = λ h k. held-remove h k; evicted = λ h k. held-evict h k; others = λ h c k ne. others_stay h c k ne };
  stay = λ h h' k reply b t. stays_true h h' k reply b t;
  last = λ h k reply t b. tells_now h k reply t b;
  found = λ h k v since reply held t. held_found h k v since reply held t;
  same = λ h h' a b. same_history h h' a b;
}
