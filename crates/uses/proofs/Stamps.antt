-- No stamp in a map is larger than the number of its changes.
use Rattle.std.proofs.Common.{ℕ, ◌≡◌, ◌≤◌, ◌∙◌, ◌+◌, List, [], ◌∷◌, ◌++◌, length, Option, None, Some, ap, append-nil, append_assoc, arith, inl, inr, subst, sym}
use Rattle.std.proofs.lemmas.Bool.Decides.{eqb_tells}
use Rattle.std.proofs.lemmas.Grind.{length_at_push}
use Rattle.std.proofs.lemmas.List.{same_from_push}
use Rattle.mc_cache.specs.Change.{Change}
use Rattle.mc_cache.specs.Change.TheVariants as change
use Rattle.mc_cache.specs.Plain.{map_value}
use Rattle.mc_cache.specs.PlainLaws.{HistoryLaws, key_of}

abbrev StampsFit : List (Change 1) → Type 0
StampsFit h = (k : ℕ) (v : List ℕ) (since : ℕ) → map_value h k ≡ Some (v ++ since ∷ []) → since ≤ length h

pub none_some : {A : Type 0} (xs : List ℕ) → ◌≡◌ {A = Option (List ℕ)} None (Some xs) → A
none_some xs e = absurd (cc)

-- payloads that are the same have the same stamp
pub same_stamp : (v w : List ℕ) (m n : ℕ) → ◌≡◌ {A = Option (List ℕ)} (Some (v ++ m ∷ [])) (Some (w ++ n ∷ [])) → m ≡ n
same_stamp v w m n e =
    let same : v ++ m ∷ [] ≡ w ++ n ∷ [] = cc in
    (same_from_push v w m n same).1

module _ (law : HistoryLaws 1) where
  -- a change that puts a key gives it the next stamp
  of_key : (h : List (Change 1)) (c : Change 1) (k : ℕ) (v : List ℕ) (since : ℕ) → k ≡ key_of c → map_value (h ++ c ∷ []) k ≡ Some (v ++ since ∷ []) → since ≤ length h + 1
  of_key h (change.Put j w) k v since same held =
      let put = sym (law.maps.put h j w) ∙ (ap (map_value (h ++ change.Put j w ∷ [])) (sym same) ∙ held) in
      omega (arith, same_stamp w v (length h + 1) since put)
  of_key h (change.Remove j) k v since same held = none_some (v ++ since ∷ []) (sym (law.maps.removed h j) ∙ (ap (map_value (h ++ change.Remove j ∷ [])) (sym same) ∙ held))
  of_key h (change.Evict j) k v since same held = none_some (v ++ since ∷ []) (sym (law.maps.evicted h j) ∙ (ap (map_value (h ++ change.Evict j ∷ [])) (sym same) ∙ held))

  one_more : (h : List (Change 1)) (c : Change 1) → StampsFit h → StampsFit (h ++ c ∷ [])
  one_more h c fit k v since held =
      elim (eqb_tells k (key_of c)) [
        | inl same ↦ omega (arith, of_key h c k v since same.1 held, (length_at_push h c).1)
        | inr differ ↦ omega (arith, fit k v since (sym (law.maps.others h c k differ.1) ∙ held), (length_at_push h c).1)
      ]

  more : (h later : List (Change 1)) → StampsFit h → StampsFit (h ++ later)
  more h [] fit = subst StampsFit (sym (append-nil h)) fit
  more h (c ∷ later) fit = subst StampsFit (append_assoc h (c ∷ []) later) (more (h ++ c ∷ []) later (one_more h c fit))

  pub stamps_fit : (h : List (Change 1)) (k : ℕ) (v : List ℕ) (since : ℕ) → map_value h k ≡ Some (v ++ since ∷ []) → since ≤ length h
  stamps_fit h = more [] h (λ k v since held. none_some (v ++ since ∷ []) (sym (law.maps.empty k) ∙ held))
