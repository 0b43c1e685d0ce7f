-- There are no more keys in the table than items, and as many if no item is free: as many as items are in use.
use Rattle.std.proofs.Common.{ℕ, zero, suc, ◌≡◌, ◌+◌, ◌<◌, ◌≤◌, true, false, eqb, List, [], ◌∷◌, ◌++◌, ◌||◌, length, length-append, Option, Some, None, refl, sym, ◌∙◌, subst, inl, inr, arith}
use Rattle.std.specs.Option.{is_some, IsSome}
use Rattle.std.specs.List.{AllByRecursion, IsDistinct, list_any}
use Rattle.std.specs.Map.{keys_of}
use Rattle.std.specs.Cmp.{nat_eq_equiv}
use Rattle.std.proofs.lemmas.Bool.{cases_Bool, eqb-true, eq-eqb, or_cases, or_left, or_right, false≢true}
use Rattle.std.proofs.lemmas.Map.Keys.{IsDistinct-cons, IsDistinct-head, IsDistinct-tail}
use Rattle.std.proofs.lemmas.Map.Made.{is_some-lookup}
use Rattle.std.proofs.lemmas.Map.Steps.{le-length_from_below, length-le_from_distinct_below, length-le_from_keys}
use Rattle.std.proofs.lemmas.List.Folds.{list_any-append}
use Rattle.std.proofs.lemmas.Map.Entries.{length-keys_of}
use Rattle.mc_words.specs.History.{map_value, key_count, map_from}
use Rattle.mc_words.specs.Places.{item}
use Rattle.mc_words.specs.Standing.{NamesItem, Stands, IsPresent, AgreesAt, HasFree}
use Rattle.mc_words.specs.declared.history.Change.{Change}
use Rattle.mc_words.specs.declared.shape.Shape.{Shape}
use Rattle.mc_words.proofs.Maps.{distinct_keys}

none_any : (i : ℕ) (xs : List ℕ) → (list_any (eqb i) xs ≡ true → ⊥) → AllByRecursion (λ y. eqb i y ≡ false) xs
none_any i [] none = tt
none_any i (x ∷ xs) none =
    elim (cases_Bool (eqb i x)) [
      | inl t ↦ absurd (none (or_left (eqb i x) (list_any (eqb i) xs) t))
      | inr f ↦ (f, none_any i xs (λ t. none (or_right (eqb i x) (list_any (eqb i) xs) t)))
    ]

any_all : (i : ℕ) (xs : List ℕ) → AllByRecursion (λ y. eqb i y ≡ false) xs → list_any (eqb i) xs ≡ true → ⊥
any_all i [] a t = false≢true t
any_all i (x ∷ xs) a t =
    elim (or_cases (eqb i x) (list_any (eqb i) xs) t) [
      | inl e ↦ false≢true (sym a.0 ∙ e)
      | inr e ↦ any_all i xs a.1 e
    ]

-- the items at which these keys stand
record Items (V : ℕ) (sh : Shape) (w : List ℕ) (ks : List ℕ) : Type 0 where
  its : List ℕ
  many : length its ≡ length ks
  distinct : IsDistinct eqb its
  stand : (i : ℕ) → list_any (eqb i) its ≡ true → (k : ℕ) × (list_any (eqb k) ks ≡ true) × ((q : ℕ) × Stands V sh w k q i)
  each : (k : ℕ) → list_any (eqb k) ks ≡ true → (i : ℕ) × (list_any (eqb i) its ≡ true) × ((q : ℕ) × Stands V sh w k q i)

items_of : (V : ℕ) (sh : Shape) (w : List ℕ) (ks : List ℕ) → IsDistinct eqb ks → ((k : ℕ) → list_any (eqb k) ks ≡ true → IsPresent V sh w k) → Items V sh w ks
unfolding IsDistinct
items_of V sh w [] d here = record { its = []; many = refl; distinct = tt; stand = λ i t. absurd (false≢true t); each = λ k t. absurd (false≢true t) }
items_of V sh w (k ∷ ks) d here =
    let rest = items_of V sh w ks (IsDistinct-tail eqb k ks d) (λ f t. here f (or_right (eqb f k) (list_any (eqb f) ks) t)) in
    let mine : IsPresent V sh w k = here k (or_left (eqb k k) (list_any (eqb k) ks) (eq-eqb k k refl)) in
    record {
      its = mine.1 ∷ rest.its;
      many = omega (arith, rest.many);
      distinct = IsDistinct-cons eqb mine.1 rest.its (none_any mine.1 rest.its (λ t.
          let other = rest.stand mine.1 t in
          let same : other.0 ≡ k = sym other.2.1.key ∙ mine.2.key in
          any_all k ks (IsDistinct-head eqb k ks d) (subst (λ (y : ℕ). list_any (eqb y) ks ≡ true) same other.1))) rest.distinct;
      stand = λ i t. elim (or_cases (eqb i mine.1) (list_any (eqb i) rest.its) t) [
        | inl e ↦ (k, or_left (eqb k k) (list_any (eqb k) ks) (eq-eqb k k refl), (mine.0, subst (λ (y : ℕ). Stands V sh w k mine.0 y) (sym (eqb-true i mine.1 e)) mine.2))
        | inr e ↦
            let other = rest.stand i e in
            (other.0, or_right (eqb other.0 k) (list_any (eqb other.0) ks) other.1, other.2)
      ];
      each = λ f t. elim (or_cases (eqb f k) (list_any (eqb f) ks) t) [
        | inl e ↦ (mine.1, or_left (eqb mine.1 mine.1) (list_any (eqb mine.1) rest.its) (eq-eqb mine.1 mine.1 refl), (mine.0, subst (λ (y : ℕ). Stands V sh w y mine.0 mine.1) (sym (eqb-true f k e)) mine.2))
        | inr e ↦
            let other = rest.each f e in
            (other.0, or_right (eqb other.0 mine.1) (list_any (eqb other.0) rest.its) other.1, other.2)
      ];
    }

present_from : (V : ℕ) (sh : Shape) (w : List ℕ) (k : ℕ) (o : Option (List ℕ)) → AgreesAt V sh w k o → is_some o ≡ true → IsPresent V sh w k
present_from V sh w k None a t = absurd (false≢true t)
present_from V sh w k (Some v) a t = (a.0, a.1, a.2.stands)

pub keys_fit : (V : ℕ) (sh : Shape) (w : List ℕ) (h : List (Change V)) → ((k : ℕ) → AgreesAt V sh w k (map_value h k)) → key_count h ≤ sh.items
unfolding map_value key_count IsDistinct
keys_fit V sh w h a =
    let m = map_from 1 [] h in
    let ks = keys_of m in
    let its = items_of V sh w ks (distinct_keys 1 [] h tt) (λ k t. present_from V sh w k (map_value h k) (a k) (is_some-lookup (eqb k) m ∙ t)) in
    let fit : length its.its ≤ sh.items = length-le_from_distinct_below its.its sh.items its.distinct (λ i t. (its.stand i t).2.1.names.in_items) in
    omega (arith, its.many, length-keys_of m)

-- ---- an item is free if fewer keys stand than there are items, and only then
some_from_present : (V : ℕ) (sh : Shape) (w : List ℕ) (k : ℕ) (o : Option (List ℕ)) → AgreesAt V sh w k o → IsPresent V sh w k → IsSome o
some_from_present V sh w k None a here = absurd (a here.0 here.1 here.2)
some_from_present V sh w k (Some v) a here = refl

one_item : (V : ℕ) (sh : Shape) (w : List ℕ) (k : ℕ) (o : Option (List ℕ)) → AgreesAt V sh w k o → (p q i g : ℕ) → Stands V sh w k p i → Stands V sh w k q g → i ≡ g
one_item V sh w k None a p q i g x y = absurd (a p i x)
one_item V sh w k (Some v) a p q i g x y = (a.2.once p i x).1 ∙ sym (a.2.once q g y).1

-- the keys of the first n items
record KeysBelow (V : ℕ) (sh : Shape) (w : List ℕ) (n : ℕ) : Type 0 where
  ks : List ℕ
  many : length ks ≡ n
  distinct : IsDistinct eqb ks
  each : (k : ℕ) → list_any (eqb k) ks ≡ true → (i : ℕ) × (i < n) × (item V sh w i 0 ≡ k)

abbrev AllNamed : Shape → List ℕ → Type 0
AllNamed sh w = (i : ℕ) → i < sh.items → (q : ℕ) × NamesItem sh w q i

keys_below : (V : ℕ) (sh : Shape) (w : List ℕ) (h : List (Change V)) → ((k : ℕ) → AgreesAt V sh w k (map_value h k)) → AllNamed sh w → (n : ℕ) → n ≤ sh.items → KeysBelow V sh w n
unfolding IsDistinct
keys_below V sh w h a named zero l = record { ks = []; many = refl; distinct = tt; each = λ k t. absurd (false≢true t) }
keys_below V sh w h a named (suc n) l =
    let rest = keys_below V sh w h a named n (omega arith) in
    let key = item V sh w n 0 in
    let here = named n (omega arith) in
    record {
      ks = key ∷ rest.ks;
      many = omega (arith, rest.many);
      distinct = IsDistinct-cons eqb key rest.ks (none_any key rest.ks (λ t.
          let other = rest.each key t in
          let there = named other.0 (omega (arith, other.1)) in
          let same = one_item V sh w key (map_value h key) (a key) here.0 there.0 n other.0 (record { names = here.1; key = refl }) (record { names = there.1; key = other.2 }) in
          absurd (omega (arith, same, other.1)))) rest.distinct;
      each = λ k t. elim (or_cases (eqb k key) (list_any (eqb k) rest.ks) t) [
        | inl e ↦ (n, omega arith, sym (eqb-true k key e))
        | inr e ↦ let other = rest.each k e in (other.0, omega (arith, other.1), other.2)
      ];
    }

-- if each item is named, there are as many keys as items
pub full_from_named : (V : ℕ) (sh : Shape) (w : List ℕ) (h : List (Change V)) → ((k : ℕ) → AgreesAt V sh w k (map_value h k)) → AllNamed sh w → key_count h ≡ sh.items
unfolding map_value key_count
full_from_named V sh w h a named =
    let all = keys_below V sh w h a named sh.items (omega arith) in
    let most = keys_fit V sh w h a in
    let least = length-le_from_keys nat_eq_equiv all.ks (map_from 1 [] h) all.distinct (λ k t.
    let i = all.each k t in
    let here = named i.0 i.1 in
    some_from_present V sh w k (map_value h k) (a k) (here.0, i.0, record { names = here.1; key = i.2 })) in
    omega (arith, all.many, most, least)

-- if an item is free, there are fewer keys than items
pub room_from_free : (V : ℕ) (sh : Shape) (w : List ℕ) (h : List (Change V)) → ((k : ℕ) → AgreesAt V sh w k (map_value h k)) → HasFree sh w → key_count h < sh.items
unfolding map_value key_count IsDistinct
room_from_free V sh w h a free =
    let m = map_from 1 [] h in
    let ks = keys_of m in
    let its = items_of V sh w ks (distinct_keys 1 [] h tt) (λ k t. present_from V sh w k (map_value h k) (a k) (is_some-lookup (eqb k) m ∙ t)) in
    let distinct = IsDistinct-cons eqb free.0 its.its (none_any free.0 its.its (λ t. let here = its.stand free.0 t in free.2 here.2.0 here.2.1.names)) its.distinct in
    let fit : length (free.0 ∷ its.its) ≤ sh.items = length-le_from_distinct_below (free.0 ∷ its.its) sh.items distinct (λ i t. elim (or_cases (eqb i free.0) (list_any (eqb i) its.its) t) [
      | inl e ↦ omega (arith, eqb-true i free.0 e, free.1)
      | inr e ↦ (its.stand i e).2.1.names.in_items
    ]) in
    omega (arith, its.many, length-keys_of m, fit)

-- ---- as many keys stand as items are in use
apart_append : (x : ℕ) (xs ys : List ℕ) → AllByRecursion (λ y. eqb x y ≡ false) xs → AllByRecursion (λ y. eqb x y ≡ false) ys → AllByRecursion (λ y. eqb x y ≡ false) (xs ++ ys)
apart_append x [] ys a b = b
apart_append x (z ∷ xs) ys a b = (a.0, apart_append x xs ys a.1 b)

distinct_append : (xs ys : List ℕ) → IsDistinct eqb xs → IsDistinct eqb ys → ((x : ℕ) → list_any (eqb x) xs ≡ true → list_any (eqb x) ys ≡ true → ⊥) → IsDistinct eqb (xs ++ ys)
distinct_append [] ys d e apart = e
distinct_append (x ∷ xs) ys d e apart =
    IsDistinct-cons eqb x (xs ++ ys)
    (apart_append x xs ys (IsDistinct-head eqb x xs d) (none_any x ys (apart x (or_left (eqb x x) (list_any (eqb x) xs) (eq-eqb x x refl)))))
    (distinct_append xs ys (IsDistinct-tail eqb x xs d) e (λ y t. apart y (or_right (eqb y x) (list_any (eqb y) xs) t)))

-- the numbers below n that are not in the list are the items in use
pub record AreUnused (sh : Shape) (w : List ℕ) (n : ℕ) (unused : List ℕ) : Type 0 where
  pub distinct : IsDistinct eqb unused
  pub below : (i : ℕ) → list_any (eqb i) unused ≡ true → i < n
  pub named : (i : ℕ) → i < n → (list_any (eqb i) unused ≡ true → ⊥) → (q : ℕ) × NamesItem sh w q i
  pub used : (q i : ℕ) → NamesItem sh w q i → (i < n) × (list_any (eqb i) unused ≡ true → ⊥)

pub keys_and_unused : (V : ℕ) (sh : Shape) (w : List ℕ) (h : List (Change V)) → ((k : ℕ) → AgreesAt V sh w k (map_value h k)) → (n : ℕ) (unused : List ℕ) → AreUnused sh w n unused → key_count h + length unused ≡ n
unfolding map_value key_count IsDistinct
keys_and_unused V sh w h a n unused u =
    let m = map_from 1 [] h in
    let ks = keys_of m in
    let its = items_of V sh w ks (distinct_keys 1 [] h tt) (λ k t. present_from V sh w k (map_value h k) (a k) (is_some-lookup (eqb k) m ∙ t)) in
    let all : List ℕ = its.its ++ unused in
    let in_all : (i : ℕ) → list_any (eqb i) all ≡ (list_any (eqb i) its.its || list_any (eqb i) unused) = λ i. list_any-append (eqb i) its.its unused in
    let distinct = distinct_append its.its unused its.distinct u.distinct (λ i t. let here = its.stand i t in (u.used here.2.0 i here.2.1.names).1) in
    let most : length all ≤ n = length-le_from_distinct_below all n distinct (λ i t. elim (or_cases (list_any (eqb i) its.its) (list_any (eqb i) unused) (sym (in_all i) ∙ t)) [
      | inl e ↦ let here = its.stand i e in (u.used here.2.0 i here.2.1.names).0
      | inr e ↦ u.below i e
    ]) in
    let least : n ≤ length all = le-length_from_below all n (λ i l. elim (cases_Bool (list_any (eqb i) unused)) [
      | inl t ↦ in_all i ∙ or_right (list_any (eqb i) its.its) (list_any (eqb i) unused) t
      | inr f ↦
          let here = u.named i l (λ t. false≢true (sym f ∙ t)) in
          let key = item V sh w i 0 in
          let stands : Stands V sh w key here.0 i = record { names = here.1; key = refl } in
          let there = its.each key (sym (is_some-lookup (eqb key) m) ∙ some_from_present V sh w key (map_value h key) (a key) (here.0, i, stands)) in
          let same : there.0 ≡ i = one_item V sh w key (map_value h key) (a key) there.2.0 here.0 there.0 i there.2.1 stands in
          in_all i ∙ or_left (list_any (eqb i) its.its) (list_any (eqb i) unused) (subst (λ (y : ℕ). list_any (eqb y) its.its ≡ true) same there.1)
    ]) in
    omega (arith, its.many, length-keys_of m, length-append its.its unused, most, least)
