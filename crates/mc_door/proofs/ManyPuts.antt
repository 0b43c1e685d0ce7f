-- Puts of many keys: the entries that they put, in groups.
use Rattle.std.proofs.Common.{ℕ, zero, suc, ◌≡◌, ◌+◌, ◌*◌, ◌<◌, List, [], ◌∷◌, ◌++◌, length, get_or, take, drop, refl, ◌∙◌, ap, arith}
use Rattle.std.proofs.lemmas.List.{drop-drop, take_more}
use Rattle.mc_door.specs.Batches.{entries_of}

-- there are as many entries as keys
pub entries_many : (V : ℕ) (keys values : List ℕ) → length (entries_of V keys values) ≡ length keys
entries_many V [] values = refl
entries_many V (key ∷ keys) values = ap suc (entries_many V keys (drop V values))

-- the entry of each
entry_at : (V : ℕ) (keys values : List ℕ) (n : ℕ) (other : ℕ × List ℕ) → n < length keys → get_or (entries_of V keys values) n other ≡ (get_or keys n 0, take V (drop (n * V) values))
entry_at V [] values n other below = absurd (omega (arith, below))
entry_at V (key ∷ keys) values zero other below =
    let none : 0 ≡ 0 * V = omega arith in ap (λ (m : ℕ). (key, take V (drop m values))) none
entry_at V (key ∷ keys) values (suc n) other below =
    entry_at V keys (drop V values) n other (omega (arith, below)) ∙ ap (λ (v : List ℕ). (get_or keys n 0, take V v)) (drop-drop (n * V) V values ∙ ap (λ (m : ℕ). drop m values) (omega arith))

-- one entry more
pub entries_more : (V : ℕ) (keys values : List ℕ) (n key : ℕ) (v : List ℕ) → n < length keys → get_or keys n 0 ≡ key → take V (drop (n * V) values) ≡ v
    → take (n + 1) (entries_of V keys values) ≡ take n (entries_of V keys values) ++ (key, v) ∷ []
entries_more V keys values n key v below is value =
    take_more (entries_of V keys values) n (key, v) (omega (arith, below, entries_many V keys values))
    ∙ ap (λ (e : ℕ × List ℕ). take n (entries_of V keys values) ++ e ∷ []) (entry_at V keys values n (key, v) below ∙ (λ i. (is i, value i)))
