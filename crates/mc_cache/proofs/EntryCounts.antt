-- A list of the entries is as long as there are keys.
use Rattle.std.proofs.Common.{ℕ, suc, ◌≡◌, ◌≢◌, ◌<◌, ◌∙◌, List, [], ◌∷◌, AllPairs, Option, Some, None, eqb, false, get_or, is_some, length, map, ap, refl, sym, arith}
use Rattle.std.specs.Cmp.{nat_eq_equiv}
use Rattle.std.specs.List.{AllByRecursion, IsDistinct}
use Rattle.std.specs.Map.{keys_of}
use Rattle.std.specs.Option.{option_map}
use Rattle.std.proofs.lemmas.Bool.{ne_eqb}
use Rattle.std.proofs.lemmas.List.{length-map}
use Rattle.std.proofs.lemmas.Map.Entries.{length-keys_of}
use Rattle.std.proofs.lemmas.Map.Keys.{IsDistinct-cons}
use Rattle.std.proofs.lemmas.Map.Made.{is_some-lookup, length-from_same_keys}
use Rattle.mc_words.proofs.Maps.{distinct_keys}
use Rattle.mc_words.specs.History.{key_count, map_from, map_value, value_of}
use Rattle.mc_words.specs.declared.history.Change.{Change}
use Rattle.mc_search.specs.Entries.{AreEntriesOf}
use Rattle.mc_writer.specs.declared.entry.Entry.{Entry as Stamped}
use Rattle.mc_cache.specs.Stamped.{AreStampedEntriesOf, pair_of}

abbrev Entry : Type 0
Entry = ℕ × List ℕ

apart : (k : ℕ) (es : List Entry) → ((n : ℕ) (d : Entry) → n < length es → k ≢ (get_or es n d).0) → AllByRecursion (λ y. eqb k y ≡ false) (keys_of es)
apart k [] others = tt
apart k (e ∷ es) others = (ne_eqb k e.0 (others 0 e (omega arith)), apart k es (λ n d l. others (suc n) d (omega arith)))

distinct_entries : (es : List Entry) → AllPairs (λ d e. d.0 ≢ e.0) es → IsDistinct eqb (keys_of es)
unfolding IsDistinct
distinct_entries [] once = tt
distinct_entries (e ∷ es) once =
    IsDistinct-cons eqb e.0 (keys_of es) (apart e.0 es (λ n d l. once 0 (suc n) d (omega arith) (omega arith)))
    (distinct_entries es (λ i j d l m. once (suc i) (suc j) d (omega arith) (omega arith)))

held_if_there : (V : ℕ) (o : Option (List ℕ)) → is_some (option_map (value_of V) o) ≡ is_some o
held_if_there V None = refl
held_if_there V (Some v) = refl

pub entries_many : (V : ℕ) (h : List (Change V)) (es : List Entry) → AreEntriesOf V h es → length es ≡ key_count h
unfolding map_value key_count IsDistinct
entries_many V h es are =
    let m = map_from 1 [] h in
    let same = length-from_same_keys nat_eq_equiv (keys_of es) (keys_of m) (distinct_entries es are.once) (distinct_keys 1 [] h tt) (λ k.
    sym (is_some-lookup (eqb k) es) ∙ ap is_some (are.values k) ∙ held_if_there V (map_value h k) ∙ is_some-lookup (eqb k) m) in
    sym (length-keys_of es) ∙ same ∙ length-keys_of m

-- and so is one with their stamps
pub stamped_many : (V : ℕ) (h : List (Change V)) (es : List (Stamped V)) → AreStampedEntriesOf V h es → length es ≡ key_count h
stamped_many V h es are = sym (length-map es pair_of) ∙ entries_many V h (map pair_of es) are.entries
