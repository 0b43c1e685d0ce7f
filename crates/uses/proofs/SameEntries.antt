-- Entries that are listed and put anew.
use Rattle.std.proofs.Common.{ℕ, suc, ◌≡◌, ◌≢◌, ◌+◌, ◌∙◌, Bool, cond, eqb, List, [], ◌∷◌, ◌++◌, map, reverse, Some, None, All, ap, arith, eq-eqb, inl, inr, ne_eqb, refl, sym}
use Rattle.std.specs.List.{AllPairs}
use Rattle.std.specs.Map.{lookup}
use Rattle.std.proofs.lemmas.Bool.{cases_eq}
use Rattle.std.proofs.lemmas.List.{reverse-append}
use Rattle.std.proofs.lemmas.List.Elements.{All-from_get_or}
use Rattle.mc_words.specs.History.{value_held}
use Rattle.mc_words.specs.declared.history.Change.{Change}
use Rattle.mc_words.specs.declared.history.Change.TheVariants as change
use Rattle.mc_words.specs.declared.mix.Mix.{Mix}
use Rattle.mc_words.specs.declared.shape.Shape.{Shape}
use Rattle.mc_cache.specs.Plain.{TakesOrNames}
use Rattle.mc_shards.specs.Loadings.{HoldEntries, puts_of}
use Rattle.mc_shards.specs.Plain.{AreEntriesOfAll, history_of}
use Rattle.mc_shards.proofs.Entries.{Differ, Entry, append_none, lookup_append, none_in}

-- ---- if no entry is left, all are put
not_none : {A : Type 0} (x : A) (xs : List A) → ◌≡◌ {A = List A} [] (x ∷ xs) → ⊥
not_none x xs e = absurd cc

all_put : (V n : ℕ) (es : List Entry) (changes : List (Change V)) → TakesOrNames n es changes [] → changes ≡ puts_of es
all_put V n [] changes t = t.0
all_put V n (e ∷ es) changes t = elim t [
  | inl taken ↦ taken.1 ∙ ap (λ (cs : List (Change V)). change.Put e.0 e.1 ∷ cs) (all_put V (n + 1) es taken.0 taken.2)
  | inr named ↦ absurd (not_none (n, named.0) named.1 named.2)
]

entry_of : {V : ℕ} → Change V → Entry
entry_of (change.Put k v) = (k, v)
entry_of (change.Remove k) = (k, [])
entry_of (change.Evict k) = (k, [])

entries_back : (V : ℕ) (es : List Entry) → map entry_of (puts_of {V = V} es) ≡ es
unfolding entry_of
entries_back V [] = refl
entries_back V (e ∷ es) = ap (λ (xs : List Entry). e ∷ xs) (entries_back V es)

all_kept : (V : ℕ) (es kept : List Entry) → TakesOrNames {V = V} 0 es (puts_of kept) [] → kept ≡ es
all_kept V es kept t =
    let put : puts_of {V = V} kept ≡ puts_of es = all_put V 0 es (puts_of kept) t in
    sym (entries_back V kept) ∙ (ap (map entry_of) put ∙ entries_back V es)

-- ---- a key that is listed once has one value, from whichever end it is looked up
lookup_back : (k : ℕ) (es : List Entry) → AllPairs Differ es → lookup (λ q. eqb k q) (reverse es) ≡ lookup (λ q. eqb k q) es
lookup_back k [] once = refl
lookup_back k (e ∷ es) once =
    let rest : lookup (λ q. eqb k q) (reverse es) ≡ lookup (λ q. eqb k q) es = lookup_back k es (λ i j d less within. once (suc i) (suc j) d (omega (arith, less)) (omega (arith, within))) in
    let split : lookup (λ q. eqb k q) (reverse (e ∷ es)) ≡ lookup (λ q. eqb k q) (reverse es ++ e ∷ []) = ap (λ (xs : List Entry). lookup (λ q. eqb k q) xs) (reverse-append (e ∷ []) es) in
    elim (cases_eq k e.0) [
      | inl same ↦
          let others : All (λ d. d.0 ≢ k) es = All-from_get_or (λ (d : Entry). d.0 ≢ k) es e (λ i within is. once 0 (suc i) e (omega arith) (omega (arith, within)) (sym (is ∙ same))) in
          split ∙ lookup_append k (reverse es) (e ∷ []) (rest ∙ none_in k es others) ∙ ap (λ (b : Bool). cond b (Some e.1) None) (eq-eqb k e.0 same)
          ∙ ap (λ (b : Bool). cond b (Some e.1) (lookup (λ q. eqb k q) es)) (sym (eq-eqb k e.0 same))
      | inr other ↦
          split ∙ append_none k (reverse es) (e ∷ []) (ap (λ (b : Bool). cond b (Some e.1) None) (ne_eqb k e.0 other)) ∙ rest
          ∙ ap (λ (b : Bool). cond b (Some e.1) (lookup (λ q. eqb k q) es)) (sym (ne_eqb k e.0 other))
    ]

-- the new shards hold what the old ones held
pub same_values : (V : ℕ) (mix : Mix) (sh : Shape) (old new : List (List (Change V))) (es : List Entry) → AreEntriesOfAll V mix old es → HoldEntries V sh es new [] → (k : ℕ) → value_held (history_of sh.mix new k) k ≡ value_held (history_of mix old k) k
same_values V mix sh old new es listed held k =
    held.values k ∙ ap (λ (xs : List Entry). lookup (λ q. eqb k q) (reverse xs)) (all_kept V es held.kept held.each) ∙ lookup_back k es listed.once ∙ listed.values k
