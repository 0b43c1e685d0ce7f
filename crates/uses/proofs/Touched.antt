-- What the map holds of a key changes only by a change of the key.
use Rattle.std.proofs.Common.{ℕ, ◌≡◌, ◌≢◌, ◌∙◌, ◌⊎◌, List, [], ◌∷◌, ◌++◌, Some, None, Result, Ok, Err, ap, append-nil, append_assoc, inl, inr, refl, subst, sym}
use Rattle.std.proofs.lemmas.Bool.Decides.{eqb_tells}
use Rattle.mc_cache.specs.Change.{Change}
use Rattle.mc_cache.specs.Entry.{Entry}
use Rattle.mc_cache.specs.IfError.{IfError}
use Rattle.mc_cache.specs.IfError.TheVariants as why
use Rattle.mc_cache.specs.Plain.{Begins, PutIfMeans, TurnMeans, map_value}
use Rattle.mc_cache.specs.PlainLaws.{HistoryLaws, key_of}
use Rattle.mc_cache.specs.declared.desk.DeskError.{DeskError}
use Rattle.mc_cache.specs.declared.desk.DeskError.TheVariants as desk
use Rattle.uses.proofs.Stamps.{none_some, same_stamp}
use Rattle.uses.specs.Owned.{HasEntry}
use Rattle.uses.specs.Touched.{SaysTouched, WasTouched}

module _ (law : HistoryLaws 1) where
  kept_or_touched : (h later : List (Change 1)) (k : ℕ) → (map_value (h ++ later) k ≡ map_value h k) ⊎ WasTouched h (h ++ later) k
  kept_or_touched h [] k = inl (ap (λ (x : List (Change 1)). map_value x k) (append-nil h))
  kept_or_touched h (c ∷ later) k =
      elim (eqb_tells k (key_of c)) [
        | inl same ↦ inr (record { early = h; change = c; late = later; begins = ([], sym (append-nil h)); grew = refl; of = sym same.1 })
        | inr differ ↦ behind (kept_or_touched (h ++ c ∷ []) later k) differ.1
      ]
    where
      behind : (map_value ((h ++ c ∷ []) ++ later) k ≡ map_value (h ++ c ∷ []) k) ⊎ WasTouched (h ++ c ∷ []) ((h ++ c ∷ []) ++ later) k → k ≢ key_of c → (map_value (h ++ c ∷ later) k ≡ map_value h k) ⊎ WasTouched h (h ++ c ∷ later) k
      behind (inl kept) other = inl (ap (λ (x : List (Change 1)). map_value x k) (sym (append_assoc h (c ∷ []) later)) ∙ (kept ∙ law.maps.others h c k other))
      behind (inr t) other = inr (record {
        early = t.early;
        change = t.change;
        late = t.late;
        begins = (c ∷ t.begins.0, t.begins.1 ∙ append_assoc h (c ∷ []) t.begins.0);
        grew = sym (append_assoc h (c ∷ []) later) ∙ t.grew;
        of = t.of;
      })

  touched : (h h' : List (Change 1)) (k : ℕ) → Begins h h' → map_value h' k ≢ map_value h k → WasTouched h h' k
  touched h h' k b other = subst (λ (x : List (Change 1)). WasTouched h x k) (sym b.1) (of (kept_or_touched h b.0 k))
    where
      of : (map_value (h ++ b.0) k ≡ map_value h k) ⊎ WasTouched h (h ++ b.0) k → WasTouched h (h ++ b.0) k
      of (inl kept) = absurd (other (ap (λ (x : List (Change 1)). map_value x k) b.1 ∙ kept))
      of (inr t) = t

  pub says_touched : (h h' : List (Change 1)) (entry : Entry 1) (v : List ℕ) (told : Result ℕ (DeskError IfError)) → HasEntry h entry
      → TurnMeans (λ a b t. PutIfMeans 1 a b entry.key entry.since v t) h h' told → SaysTouched h h' entry.key told
  says_touched h h' entry v (Ok at) has m = tt
  says_touched h h' entry v (Err desk.Held) has m = tt
  says_touched h h' entry v (Err (desk.Call why.Spent)) has m = tt
  says_touched h h' entry v (Err (desk.Call (why.NotThere at))) has m =
      let said = m.2 in
      let none : map_value h' entry.key ≡ None = ap (λ (x : List (Change 1)). map_value x entry.key) said.1 ∙ said.0 in
      touched h h' entry.key (subst (Begins h) (sym said.1) m.1) (λ same. none_some (entry.value ++ entry.since ∷ []) (sym none ∙ (same ∙ has)))
  says_touched h h' entry v (Err (desk.Call (why.Changed stands))) has m =
      let said = m.2 in
      let other : map_value h' entry.key ≡ Some (said.0.0 ++ stands ∷ []) = ap (λ (x : List (Change 1)). map_value x entry.key) said.2 ∙ said.0.1 in
      touched h h' entry.key (subst (Begins h) (sym said.2) m.1) (λ same. said.1 (same_stamp said.0.0 entry.value stands entry.since (sym other ∙ (same ∙ has))))
