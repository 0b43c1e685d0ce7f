-- Entries are written one after the other.
use Rattle.std.proofs.Common.{ℕ, ◌≡◌, ◌+◌, ◌<◌, ◌≤◌, List, [], ◌∷◌, ◌++◌, drop, length, length-drop, length-set, get_or, map, set, take, refl, sym, ap, ◌∙◌, arith, append_assoc, append-nil}
use Rattle.std.proofs.lemmas.List.{map-append, take_all, take_more, take_more_set}
use Rattle.std.proofs.lemmas.Slice.{drop-put_mid, take-put_mid}
use borrow.Rule.Slice.PartMut.{put_mid}
use Rattle.mc_writer.specs.declared.entry.Entry.{Entry as Stamped}
use Rattle.mc_door.specs.Listing.{words_of}
use Rattle.mc_door.specs.StampedListing.{row_of}

abbrev Entry : Type 0
Entry = ℕ × List ℕ

words_append : (xs ys : List Entry) → words_of (xs ++ ys) ≡ words_of xs ++ words_of ys
words_append [] ys = refl
words_append (e ∷ es) ys = ap (λ (ws : List ℕ). e.0 ∷ e.1 ++ ws) (words_append es ys) ∙ ap (λ (ws : List ℕ). e.0 ∷ ws) (sym (append_assoc e.1 (words_of es) (words_of ys)))

-- one entry more: its key is written to its place, and its value after that
pub one_written : (es : List Entry) (words words' : List ℕ) (n at next k : ℕ) (e : Entry) → take at words ≡ words_of (take n es) → n < length es
    → get_or es n e ≡ e → at + 1 + k ≤ length words → length e.1 ≡ k → next ≡ at + 1 + k
    → words' ≡ put_mid (at + 1) k (set words at e.0) e.1 → take next words' ≡ words_of (take (n + 1) es)
one_written es words words' n at next k e so lt is room long end put =
    let mid = set words at e.0 in
    let written : take next words' ≡ take (at + 1) mid ++ e.1 =
    ap (take next) put ∙ take-put_mid (at + 1) k mid e.1 next (omega (arith, end, long)) (omega (arith, room, length-set words at e.0)) in
    let key : take (at + 1) mid ≡ take at words ++ e.0 ∷ [] = take_more_set words at e.0 (omega (arith, room)) in
    let others : words_of (take (n + 1) es) ≡ words_of (take n es) ++ words_of (e ∷ []) = ap words_of (take_more es n e lt ∙ ap (λ (x : Entry). take n es ++ x ∷ []) is) ∙ words_append (take n es) (e ∷ []) in
    written ∙ ap (λ (ws : List ℕ). ws ++ e.1) (key ∙ ap (λ (ws : List ℕ). ws ++ e.0 ∷ []) so) ∙ append_assoc (words_of (take n es)) (e.0 ∷ []) e.1
    ∙ ap (λ (ws : List ℕ). words_of (take n es) ++ e.0 ∷ ws) (sym (append-nil e.1)) ∙ sym others

-- and all are written
pub all_written : (es : List Entry) (words : List ℕ) (n at : ℕ) → take at words ≡ words_of (take n es) → length es ≤ n → length words ≤ at → words ≡ words_of es
all_written es words n at so end long = sym (take_all at words long) ∙ so ∙ ap words_of (take_all n es end)

-- ---- with their stamps
-- one entry more: its key and its value are written to their places, and its stamp after them
pub one_stamped_written : {V : ℕ} (es : List (Stamped V)) (words valued words' : List ℕ) (n at next k : ℕ) (e : Stamped V) → take at words ≡ words_of (map row_of (take n es)) → n < length es
    → get_or es n e ≡ e → at + 2 + k ≤ length words → length e.value ≡ k → next ≡ at + 2 + k
    → valued ≡ put_mid (at + 1) k (set words at e.key) e.value → words' ≡ set valued (at + 1 + k) e.since → take next words' ≡ words_of (map row_of (take (n + 1) es))
one_stamped_written {V} es words valued words' n at next k e so lt is room long end put last =
    let before = words_of (map row_of (take n es)) in
    let mid = set words at e.key in
    let value : take (at + 1 + k) valued ≡ take (at + 1) mid ++ e.value =
    ap (take (at + 1 + k)) put ∙ take-put_mid (at + 1) k mid e.value (at + 1 + k) (omega (arith, long)) (omega (arith, room, length-set words at e.key)) in
    let key : take (at + 1) mid ≡ before ++ e.key ∷ [] = take_more_set words at e.key (omega (arith, room)) ∙ ap (λ (ws : List ℕ). ws ++ e.key ∷ []) so in
    let behind : length (drop (at + 1 + k) valued) ≡ length (drop (at + 1 + k) mid) =
    ap (λ (ws : List ℕ). length (drop (at + 1 + k) ws)) put ∙ ap length (drop-put_mid (at + 1) k mid e.value (at + 1 + k) (omega arith) (omega (arith, room, length-set words at e.key)) long) in
    let stamp : take next words' ≡ take (at + 1 + k) valued ++ e.since ∷ [] =
    ap (take next) last ∙ ap (λ (m : ℕ). take m (set valued (at + 1 + k) e.since)) (omega (arith, end)) ∙ take_more_set valued (at + 1 + k) e.since (omega (arith, room, behind, length-drop (at + 1 + k) valued, length-drop (at + 1 + k) mid, length-set words at e.key)) in
    let others : words_of (map row_of (take (n + 1) es)) ≡ before ++ words_of (row_of e ∷ []) =
    ap (λ (xs : List (Stamped V)). words_of (map row_of xs)) (take_more es n e lt ∙ ap (λ (x : Stamped V). take n es ++ x ∷ []) is)
    ∙ ap words_of (map-append row_of (take n es) (e ∷ [])) ∙ words_append (map row_of (take n es)) (row_of e ∷ []) in
    stamp ∙ ap (λ (ws : List ℕ). ws ++ e.since ∷ []) (value ∙ ap (λ (ws : List ℕ). ws ++ e.value) key) ∙ append_assoc (before ++ e.key ∷ []) e.value (e.since ∷ [])
    ∙ append_assoc before (e.key ∷ []) (e.value ++ e.since ∷ []) ∙ ap (λ (ws : List ℕ). before ++ e.key ∷ ws) (sym (append-nil (e.value ++ e.since ∷ []))) ∙ sym others

-- and all are written
pub all_stamped_written : {V : ℕ} (es : List (Stamped V)) (words : List ℕ) (n at : ℕ) → take at words ≡ words_of (map row_of (take n es)) → length es ≤ n → length words ≤ at → words ≡ words_of (map row_of es)
all_stamped_written {V} es words n at so end long = sym (take_all at words long) ∙ so ∙ ap (λ (xs : List (Stamped V)). words_of (map row_of xs)) (take_all n es end)
