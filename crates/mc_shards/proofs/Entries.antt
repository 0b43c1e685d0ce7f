-- The entries of all shards are those of the one map.
use Rattle.std.proofs.Common.{ℕ, zero, suc, ◌≡◌, ◌≢◌, ◌+◌, ◌-◌, ◌<◌, ◌≤◌, ◌∙◌, Bool, false, cond, eqb, List, [], ◌∷◌, ◌++◌, length, Option, Some, None, All, ap, arith, eq-eqb, get_or, inl, inr, ne_eqb, ◌⊎◌, refl, subst, sym}
use Rattle.std.specs.List.{AllPairs}
use Rattle.std.specs.Map.{lookup}
use Rattle.std.proofs.lemmas.Bool.{cases_eq}
use Rattle.std.proofs.lemmas.List.{get_or-append_right, get_or_append_left, length-append}
use Rattle.std.proofs.lemmas.List.Elements.{All-append, All-cons, All-get_or, All-head, All-nil, All-tail, All-weaker}
use Rattle.std.proofs.lemmas.List.Kept.{AllPairs-filter}
use Rattle.mc_words.specs.History.{value_held}
use Rattle.mc_words.specs.Keys.{shard_of}
use Rattle.mc_words.specs.declared.history.Change.{Change}
use Rattle.mc_words.specs.declared.mix.Mix.{Mix}
use Rattle.mc_shards.specs.Inside.Listed.{AreListed}
use Rattle.mc_shards.specs.Own.{own_of}
use Rattle.mc_shards.specs.Plain.{AreEntriesOfAll}

abbrev pub Entry : Type 0
Entry = ℕ × List ℕ

abbrev pub Differ : Entry → Entry → Type 0
Differ d e = d.0 ≢ e.0

-- ---- lists of pairs
pairs_append : (xs ys : List Entry) → AllPairs Differ xs → AllPairs Differ ys → ((i j : ℕ) (d : Entry) → i < length xs → j < length ys → Differ (get_or xs i d) (get_or ys j d)) → AllPairs Differ (xs ++ ys)
pairs_append xs ys a b across i j d less within =
    elim (lt_cases j (length xs)) [
      | inl left ↦
          subst (λ (p : Entry × Entry). Differ p.0 p.1) (λ t. (sym (get_or_append_left xs ys d i (omega (arith, less, left))) t, sym (get_or_append_left xs ys d j left) t)) (a i j d less left)
      | inr right ↦ elim (lt_cases i (length xs)) [
        | inl left ↦
            subst (λ (p : Entry × Entry). Differ p.0 p.1) (λ t. (sym (get_or_append_left xs ys d i left) t, sym (get_or-append_right xs ys (length xs) j d refl right) t)) (across i (j - length xs) d left (omega (arith, right, within, length-append xs ys)))
        | inr too ↦
            subst (λ (p : Entry × Entry). Differ p.0 p.1) (λ t. (sym (get_or-append_right xs ys (length xs) i d refl too) t, sym (get_or-append_right xs ys (length xs) j d refl right) t))
            (b (i - length xs) (j - length xs) d (omega (arith, less, too)) (omega (arith, right, within, length-append xs ys)))
      ]
    ]
  where
    lt_cases : (m n : ℕ) → (m < n) ⊎ (n ≤ m)
    lt_cases m zero = inr (omega arith)
    lt_cases zero (suc n) = inl (omega arith)
    lt_cases (suc m) (suc n) = elim (lt_cases m n) [
      | inl l ↦ inl (omega (arith, l))
      | inr l ↦ inr (omega (arith, l))
    ]

pub none_in : (k : ℕ) (es : List Entry) → All (λ e. e.0 ≢ k) es → lookup (λ q. eqb k q) es ≡ None
none_in k [] a = refl
none_in k (e ∷ es) a = ap (λ (b : Bool). cond b (Some e.1) (lookup (λ q. eqb k q) es)) (ne_eqb k e.0 (λ z. All-head (λ (d : Entry). d.0 ≢ k) e es a (sym z))) ∙ none_in k es (All-tail (λ (d : Entry). d.0 ≢ k) e es a)

pub lookup_append : (k : ℕ) (xs ys : List Entry) → lookup (λ q. eqb k q) xs ≡ None → lookup (λ q. eqb k q) (xs ++ ys) ≡ lookup (λ q. eqb k q) ys
lookup_append k [] ys none = refl
lookup_append k (x ∷ xs) ys none = elim (cases_eq k x.0) [
  | inl same ↦ absurd (some-none x.1 (sym (ap (λ (b : Bool). cond b (Some x.1) (lookup (λ q. eqb k q) xs)) (eq-eqb k x.0 same)) ∙ none))
  | inr other ↦
      let not : eqb k x.0 ≡ false = ne_eqb k x.0 other in
      ap (λ (b : Bool). cond b (Some x.1) (lookup (λ q. eqb k q) (xs ++ ys))) not
      ∙ lookup_append k xs ys (sym (ap (λ (b : Bool). cond b (Some x.1) (lookup (λ q. eqb k q) xs)) not) ∙ none)
]
  where
    some-none : (v : List ℕ) → ◌≡◌ {A = Option (List ℕ)} (Some v) None → ⊥
    some-none v e = absurd cc

pub append_none : (k : ℕ) (xs ys : List Entry) → lookup (λ q. eqb k q) ys ≡ None → lookup (λ q. eqb k q) (xs ++ ys) ≡ lookup (λ q. eqb k q) xs
append_none k [] ys none = none
append_none k (x ∷ xs) ys none = ap (λ (o : Option (List ℕ)). cond (eqb k x.0) (Some x.1) o) (append_none k xs ys none)

-- ---- the entries of one shard that are its own
own_here : (mix : Mix) (many n : ℕ) (es : List Entry) → All (λ e. shard_of mix many e.0 ≡ n) (own_of mix many n es)
own_here mix many n [] = All-nil (λ (d : Entry). shard_of mix many d.0 ≡ n)
own_here mix many n (e ∷ es) = elim (cases_eq (shard_of mix many e.0) n) [
  | inl same ↦ subst (λ (b : Bool). All (λ (d : Entry). shard_of mix many d.0 ≡ n) (cond b (e ∷ own_of mix many n es) (own_of mix many n es))) (sym (eq-eqb (shard_of mix many e.0) n same)) (All-cons (λ (d : Entry). shard_of mix many d.0 ≡ n) e (own_of mix many n es) same (own_here mix many n es))
  | inr other ↦ subst (λ (b : Bool). All (λ (d : Entry). shard_of mix many d.0 ≡ n) (cond b (e ∷ own_of mix many n es) (own_of mix many n es))) (sym (ne_eqb (shard_of mix many e.0) n other)) (own_here mix many n es)
]

pub own_lookup : (mix : Mix) (many n k : ℕ) (es : List Entry) → shard_of mix many k ≡ n → lookup (λ q. eqb k q) (own_of mix many n es) ≡ lookup (λ q. eqb k q) es
own_lookup mix many n k [] is = refl
own_lookup mix many n k (e ∷ es) is = elim (cases_eq (shard_of mix many e.0) n) [
  | inl same ↦
      ap (λ (b : Bool). lookup (λ q. eqb k q) (cond b (e ∷ own_of mix many n es) (own_of mix many n es))) (eq-eqb (shard_of mix many e.0) n same)
      ∙ ap (λ (o : Option (List ℕ)). cond (eqb k e.0) (Some e.1) o) (own_lookup mix many n k es is)
  | inr other ↦
      ap (λ (b : Bool). lookup (λ q. eqb k q) (cond b (e ∷ own_of mix many n es) (own_of mix many n es))) (ne_eqb (shard_of mix many e.0) n other)
      ∙ (own_lookup mix many n k es is ∙ sym (ap (λ (b : Bool). cond b (Some e.1) (lookup (λ q. eqb k q) es)) (ne_eqb k e.0 (λ z. other (ap (shard_of mix many) (sym z) ∙ is)))))
]

others_none : (mix : Mix) (many n k : ℕ) (es : List Entry) → shard_of mix many k ≢ n → lookup (λ q. eqb k q) (own_of mix many n es) ≡ None
others_none mix many n k es ne = none_in k (own_of mix many n es) (differ (own_of mix many n es) (own_here mix many n es))
  where
    differ : (xs : List Entry) → All (λ e. shard_of mix many e.0 ≡ n) xs → All (λ e. e.0 ≢ k) xs
    differ xs a = All-weaker (λ (e : Entry). shard_of mix many e.0 ≡ n) (λ (e : Entry). e.0 ≢ k) (λ e is z. ne (ap (shard_of mix many) (sym z) ∙ is)) xs a

-- ---- all shards
weaker : (mix : Mix) (many n : ℕ) (es : List Entry) → All (λ e. n + 1 ≤ shard_of mix many e.0) es → All (λ e. n ≤ shard_of mix many e.0) es
weaker mix many n es a = All-weaker (λ (e : Entry). n + 1 ≤ shard_of mix many e.0) (λ (e : Entry). n ≤ shard_of mix many e.0) (λ e l. omega (arith, l)) es a

at_least : (mix : Mix) (many n : ℕ) (es : List Entry) → All (λ e. shard_of mix many e.0 ≡ n) es → All (λ e. n ≤ shard_of mix many e.0) es
at_least mix many n es a = All-weaker (λ (e : Entry). shard_of mix many e.0 ≡ n) (λ (e : Entry). n ≤ shard_of mix many e.0) (λ e is. omega (arith, is)) es a

-- no key of an earlier shard is among them
from_here : (V : ℕ) (mix : Mix) (many n : ℕ) (hs : List (List (Change V))) (es : List Entry) → AreListed V mix many n hs es → All (λ e. n ≤ shard_of mix many e.0) es
from_here V mix many n [] es l = subst (λ (xs : List Entry). All (λ (e : Entry). n ≤ shard_of mix many e.0) xs) (sym l) (All-nil (λ (e : Entry). n ≤ shard_of mix many e.0))
from_here V mix many n (h ∷ hs) es l =
    let added = l.2 in
    subst (λ (xs : List Entry). All (λ (e : Entry). n ≤ shard_of mix many e.0) xs) (sym added.2)
    (All-append (λ (e : Entry). n ≤ shard_of mix many e.0) l.0 (own_of mix many n added.0) (weaker mix many n l.0 (from_here V mix many (n + 1) hs l.0 l.1)) (at_least mix many n (own_of mix many n added.0) (own_here mix many n added.0)))

each_once : (V : ℕ) (mix : Mix) (many n : ℕ) (hs : List (List (Change V))) (es : List Entry) → AreListed V mix many n hs es → AllPairs Differ es
each_once V mix many n [] es l = subst (λ (xs : List Entry). AllPairs Differ xs) (sym l) (λ i j d less within. absurd (omega (arith, within)))
each_once V mix many n (h ∷ hs) es l =
    let added = l.2 in
    let own : List Entry = own_of mix many n added.0 in
    let above = from_here V mix many (n + 1) hs l.0 l.1 in
    let here = own_here mix many n added.0 in
    subst (λ (xs : List Entry). AllPairs Differ xs) (sym added.2)
    (pairs_append l.0 own (each_once V mix many (n + 1) hs l.0 l.1) (AllPairs-filter Differ (λ (e : Entry). eqb (shard_of mix many e.0) n) added.0 added.1.once)
    (λ i j d low less same.
    let more : n + 1 ≤ shard_of mix many (get_or l.0 i d).0 = All-get_or (λ (e : Entry). n + 1 ≤ shard_of mix many e.0) l.0 i d low above in
    let is : shard_of mix many (get_or own j d).0 ≡ n = All-get_or (λ (e : Entry). shard_of mix many e.0 ≡ n) own j d less here in
    absurd (omega (arith, more, is, ap (shard_of mix many) same))))

before_none : (V : ℕ) (mix : Mix) (many n k : ℕ) (hs : List (List (Change V))) (es : List Entry) → AreListed V mix many n hs es → shard_of mix many k < n → lookup (λ q. eqb k q) es ≡ None
before_none V mix many n k hs es l less = none_in k es (differ es (from_here V mix many n hs es l))
  where
    differ : (xs : List Entry) → All (λ e. n ≤ shard_of mix many e.0) xs → All (λ e. e.0 ≢ k) xs
    differ xs a = All-weaker (λ (e : Entry). n ≤ shard_of mix many e.0) (λ (e : Entry). e.0 ≢ k) (λ e low z. absurd (omega (arith, less, low, ap (shard_of mix many) z))) xs a

each_value : (V : ℕ) (mix : Mix) (many n m k : ℕ) (hs : List (List (Change V))) (es : List Entry) → AreListed V mix many n hs es → m < length hs → shard_of mix many k ≡ n + m → lookup (λ q. eqb k q) es ≡ value_held (get_or hs m []) k
each_value V mix many n m k [] es l within is = absurd (omega (arith, within))
each_value V mix many n zero k (h ∷ hs) es l within is =
    let added = l.2 in
    let own : List Entry = own_of mix many n added.0 in
    ap (lookup (λ q. eqb k q)) added.2
    ∙ (lookup_append k l.0 own (before_none V mix many (n + 1) k hs l.0 l.1 (omega (arith, is)))
    ∙ (own_lookup mix many n k added.0 (omega (arith, is)) ∙ added.1.values k))
each_value V mix many n (suc m) k (h ∷ hs) es l within is =
    let added = l.2 in
    let own : List Entry = own_of mix many n added.0 in
    ap (lookup (λ q. eqb k q)) added.2
    ∙ (append_none k l.0 own (others_none mix many n k added.0 (λ z. absurd (omega (arith, z, is))))
    ∙ each_value V mix many (n + 1) m k hs l.0 l.1 (omega (arith, within)) (omega (arith, is)))

pub entries_of_all : (V : ℕ) (mix : Mix) (hs : List (List (Change V))) (es : List Entry) → ((k : ℕ) → shard_of mix (length hs) k < length hs) → AreListed V mix (length hs) 0 hs es → AreEntriesOfAll V mix hs es
entries_of_all V mix hs es within l = record {
  values = λ k. each_value V mix (length hs) 0 (shard_of mix (length hs) k) k hs es l (within k) (omega arith);
  once = each_once V mix (length hs) 0 hs es l;
}
