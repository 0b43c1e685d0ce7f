-- Entries are read one after the other.
use Rattle.std.proofs.Common.{ℕ, suc, ◌≡◌, ◌+◌, ◌<◌, List, [], ◌∷◌, ◌++◌, length, get_or, take, drop, refl, sym, ap, ◌∙◌, arith, append_assoc, append-nil, drop-cons, add-one}
use Rattle.std.proofs.lemmas.List.{drop-drop}
use Rattle.mc_door.specs.Loading.{entries_in}

-- one entry more: the others follow it
pub one_more : (V count : ℕ) (words : List ℕ) (entries : List (ℕ × List ℕ)) (index at next : ℕ) (key : ℕ) (value : List ℕ)
    → ((rest : ℕ) → index + rest ≡ count → entries ++ entries_in V rest (drop at words) ≡ entries_in V count words)
    → at < length words → get_or words at 0 ≡ key → take V (drop (at + 1) words) ≡ value → next ≡ at + 1 + V
    → (rest : ℕ) → index + 1 + rest ≡ count → (entries ++ (key, value) ∷ []) ++ entries_in V rest (drop next words) ≡ entries_in V count words
one_more V count words entries index at next key value so lt is behind then rest sum =
    let cut : drop at words ≡ key ∷ drop (at + 1) words = rw (add-one, drop-cons words at 0 lt, is) refl in
    let others : drop V (drop (at + 1) words) ≡ drop next words = drop-drop V (at + 1) words ∙ ap (λ (n : ℕ). drop n words) (sym then) in
    let unfolds : entries_in V (suc rest) (drop at words) ≡ (key, value) ∷ entries_in V rest (drop next words) =
    ap (entries_in V (suc rest)) cut ∙ ap (λ (v : List ℕ). (key, v) ∷ entries_in V rest (drop V (drop (at + 1) words))) behind
    ∙ ap (λ (ws : List ℕ). (key, value) ∷ entries_in V rest ws) others in
    append_assoc entries ((key, value) ∷ []) (entries_in V rest (drop next words)) ∙ ap (λ (es : List (ℕ × List ℕ)). entries ++ es) (sym unfolds) ∙ so (suc rest) (omega (arith, sum))

-- and there are no others
pub no_more : (V count : ℕ) (words : List ℕ) (entries : List (ℕ × List ℕ)) (index at : ℕ)
    → ((rest : ℕ) → index + rest ≡ count → entries ++ entries_in V rest (drop at words) ≡ entries_in V count words) → index ≡ count → entries ≡ entries_in V count words
no_more V count words entries index at so end = sym (append-nil entries) ∙ so 0 (omega (arith, end))
