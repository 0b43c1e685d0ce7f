-- Of the entries of a map only the one that is returned gives way.
use Rattle.std.proofs.Common.{ℕ, ◌≡◌, ◌≢◌, ◌∙◌, ◌+◌, List, [], ◌∷◌, ◌++◌, length, Option, Some, None, IfSome, ap, append_assoc, arith, inl, inr, subst, sym}
use Rattle.std.proofs.lemmas.Bool.Decides.{eqb_tells}
use Rattle.mc_cache.specs.Change.{Change}
use Rattle.mc_cache.specs.Change.TheVariants as change
use Rattle.mc_cache.specs.Entry.{Entry}
use Rattle.mc_cache.specs.Plain.{HasPut, WasThere, map_value, put_changes}
use Rattle.mc_cache.specs.PlainLaws.{HistoryLaws}
use Rattle.mc_cache.specs.Put.{Put}
use Rattle.mc_cache.specs.Put.TheVariants.{Stored, Renewed}
use Rattle.mc_cache.specs.Taking.{Holds, giving_way}
use Rattle.uses.specs.Owned.{HasEntry, IsEntryOf, LosesNone}
use Rattle.uses.proofs.Stamps.{none_some, same_stamp, stamps_fit}

-- what the map held of the key that gave way is what was returned
entry_of : (h : List (Change 1)) (k : ℕ) (held : List ℕ) (old : Option (Entry 1)) → Holds h k old → map_value h k ≡ Some held → IsEntryOf k held old
entry_of h k held (Some entry) holds is = (holds.0, cc)
entry_of h k held None holds is = absurd (cc)

-- if all keys but one keep what the map held of them, and what it held of that one gives way and is returned, no entry is lost
loses_none : (h h' : List (Change 1)) (k : ℕ) (old : Option (Entry 1)) → Holds h k old → IfSome old (λ entry. ¬ HasEntry h' entry) → ((j : ℕ) (held : List ℕ) → j ≢ k → map_value h j ≡ Some held → map_value h' j ≡ Some held) → LosesNone h h' old
loses_none h h' k old holds gone others =
    record {
      each = λ j held is. elim (eqb_tells j k) [
        | inl same ↦ inr (subst (λ (x : ℕ). IsEntryOf x held old) (sym same.1) (entry_of h k held old holds (ap (map_value h) (sym same.1) ∙ is)))
        | inr differ ↦ inl (others j held differ.1 is)
      ];
      was = was_held old holds;
      gone = gone;
    }
  where
    was_held : (returned : Option (Entry 1)) → Holds h k returned → IfSome returned (HasEntry h)
    was_held (Some entry) is = ap (map_value h) is.0 ∙ is.1
    was_held None is = tt

module _ (law : HistoryLaws 1) where
  -- what an eviction and a put leave of a key that is not the one put
  after_both : (h : List (Change 1)) (k other : ℕ) (v : List ℕ) (j : ℕ) → j ≢ k → map_value (h ++ change.Evict other ∷ change.Put k v ∷ []) j ≡ map_value (h ++ change.Evict other ∷ []) j
  after_both h k other v j unlike =
      ap (λ (x : List (Change 1)). map_value x j) (sym (append_assoc h (change.Evict other ∷ []) (change.Put k v ∷ []))) ∙ law.maps.others (h ++ change.Evict other ∷ []) (change.Put k v) j unlike

  -- a key that is there is another than one that is not
  unlike_absent : (h : List (Change 1)) (j k : ℕ) (held : List ℕ) → map_value h j ≡ Some held → map_value h k ≡ None → j ≢ k
  unlike_absent h j k held is absent = λ same. none_some held (sym absent ∙ (ap (map_value h) (sym same) ∙ is))

  -- a put keeps what the map held of a key, if it gives way neither to the put nor to its eviction
  put_keeps : (h : List (Change 1)) (k : ℕ) (v : List ℕ) (told : Put) (j : ℕ) (held : List ℕ) → WasThere h k told → j ≢ giving_way k told → map_value h j ≡ Some held → map_value (h ++ put_changes k v told) j ≡ Some held
  put_keeps h k v (Stored at moves None) j held was differ is = law.maps.others h (change.Put k v) j differ ∙ is
  put_keeps h k v (Stored at moves (Some other)) j held was differ is = after_both h k other v j (unlike_absent h j k held is was.0) ∙ (law.maps.others h (change.Evict other) j differ ∙ is)
  put_keeps h k v (Renewed at) j held was differ is = law.maps.others h (change.Put k v) j differ ∙ is

  -- and the entry that gives way is gone: it was evicted, or has a stamp older than the new one
  put_ends : (h : List (Change 1)) (k : ℕ) (v : List ℕ) (told : Put) (entry : Entry 1) → WasThere h k told → Holds h (giving_way k told) (Some entry) → ¬ HasEntry (h ++ put_changes k v told) entry
  put_ends h k v (Stored at moves None) entry was holds = λ e. none_some (entry.value ++ entry.since ∷ []) (sym was ∙ holds.1)
  put_ends h k v (Stored at moves (Some other)) entry was holds = λ e.
      let unlike : other ≢ k = unlike_absent h other k (entry.value ++ entry.since ∷ []) holds.1 was.0 in
      let evicted : map_value (h ++ change.Evict other ∷ change.Put k v ∷ []) other ≡ None = after_both h k other v other unlike ∙ law.maps.evicted h other in
      none_some (entry.value ++ entry.since ∷ []) (sym evicted ∙ (ap (map_value (h ++ change.Evict other ∷ change.Put k v ∷ [])) (sym holds.0) ∙ e))
  put_ends h k v (Renewed at) entry was holds = λ e.
      let renewed = sym (law.maps.put h k v) ∙ (ap (map_value (h ++ change.Put k v ∷ [])) (sym holds.0) ∙ e) in
      absurd (omega (arith, same_stamp v entry.value (length h + 1) entry.since renewed, stamps_fit law h k entry.value entry.since holds.1))

  pub put_loses_none : (h h' : List (Change 1)) (k : ℕ) (v : List ℕ) (told : Put) (old : Option (Entry 1)) → HasPut 1 h h' k v told → Holds h (giving_way k told) old → LosesNone h h' old
  put_loses_none h h' k v told old put holds =
      subst (λ (x : List (Change 1)). LosesNone h x old) (sym put.grew) (loses_none h (h ++ put_changes k v told) (giving_way k told) old holds (ends old holds) (λ j held differ is. put_keeps h k v told j held put.was differ is))
    where
      ends : (returned : Option (Entry 1)) → Holds h (giving_way k told) returned → IfSome returned (λ entry. ¬ HasEntry (h ++ put_changes k v told) entry)
      ends (Some entry) is = put_ends h k v told entry put.was is
      ends None is = tt
