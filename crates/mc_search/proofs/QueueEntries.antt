-- One more entry at the end of the queue.
use Rattle.std.proofs.Common.{ℕ, ◌≡◌, ◌≢◌, ◌+◌, ◌-◌, ◌<◌, ◌≤◌, ◌⊎◌, inl, inr, List, [], ◌∷◌, ◌++◌, length, map, Bool, true, false, get_or, set, refl, sym, ◌∙◌, ap, subst, arith, length-append, length-set, get_or-set_other, get_or-set_same}
use Rattle.std.specs.Prelude.{eqb}
use Rattle.std.proofs.lemmas.List.{get_or_default, get_or_append_left, get_or-append_right, get_or-map, length-map}
use Rattle.std.proofs.lemmas.List.Elements.{All-contains, All-from_get_or}
use Rattle.std.proofs.lemmas.Bool.{cases_eq, cases_lt, ne_eqb, eqb-true}
use Rattle.std.proofs.lemmas.Map.Keys.{IsDistinct-from_apart}
use Rattle.std.proofs.lemmas.Map.Views.{Contains-from_any}
use Rattle.std.proofs.lemmas.Map.Steps.{length-le_from_distinct_below}
use Rattle.mc_search.specs.declared.queue.Entry.{Entry}
use Rattle.mc_search.specs.Inside.Search.{blank, entry_at, bucket_at, depth_at, IsQueue}

-- the old entries are where they were
pub entry_at-old : (q : List Entry) (e : Entry) (i : ℕ) → i < length q → entry_at (q ++ e ∷ []) i ≡ entry_at q i
unfolding entry_at
entry_at-old q e i h = get_or_append_left q (e ∷ []) blank i h

-- the new one is at the end
pub entry_at-new : (q : List Entry) (e : Entry) → entry_at (q ++ e ∷ []) (length q) ≡ e
unfolding entry_at
entry_at-new q e =
    let z : length q - length q ≡ 0 = omega arith in
    get_or-append_right q (e ∷ []) (length q) (length q) blank refl (omega arith) ∙ ap (λ k. get_or (e ∷ []) k blank) z

-- so do their buckets
pub bucket_at-old : (q : List Entry) (e : Entry) (i : ℕ) → i < length q → bucket_at (q ++ e ∷ []) i ≡ bucket_at q i
bucket_at-old q e i h = ap (λ (y : Entry). y.bucket) (entry_at-old q e i h)

-- and their depths
pub depth_at-old : (q : List Entry) (e : Entry) (i : ℕ) → i < length q → depth_at (q ++ e ∷ []) i ≡ depth_at q i
depth_at-old q e i h = ap (λ (y : Entry). y.depth) (entry_at-old q e i h)

-- with its bucket
pub bucket_at-new : (q : List Entry) (e : Entry) → bucket_at (q ++ e ∷ []) (length q) ≡ e.bucket
bucket_at-new q e = ap (λ (y : Entry). y.bucket) (entry_at-new q e)

-- and its depth
pub depth_at-new : (q : List Entry) (e : Entry) → depth_at (q ++ e ∷ []) (length q) ≡ e.depth
depth_at-new q e = ap (λ (y : Entry). y.depth) (entry_at-new q e)

-- the queue is one longer
pub length-push : (q : List Entry) (e : Entry) → length (q ++ e ∷ []) ≡ length q + 1
length-push q e = length-append q (e ∷ [])

-- a number below n + 1 is below n, or n
pub last_or : (i n : ℕ) → i < n + 1 → (i < n) ⊎ (i ≡ n)
last_or i n h = elim (cases_lt i n) [ inl l ↦ inl l | inr g ↦ inr (omega arith) ]

-- what holds of each old entry and of the new one holds of all
pub each_pushed : (P : ℕ → Entry → Type 0) (q : List Entry) (e : Entry) → ((i : ℕ) → i < length q → P i (entry_at q i)) → P (length q) e → (i : ℕ) → i < length (q ++ e ∷ []) → P i (entry_at (q ++ e ∷ []) i)
each_pushed P q e old new i h =
    let at : i < length q + 1 = omega (arith, length-push q e) in
    elim (last_or i (length q) at) [
      | inl l ↦ subst (λ (x : Entry). P i x) (sym (entry_at-old q e i l)) (old i l)
      | inr s ↦ subst (λ (k : ℕ). P k (entry_at (q ++ e ∷ []) k)) (sym s) (subst (λ (x : Entry). P (length q) x) (sym (entry_at-new q e)) new)
    ]

-- different buckets below n are at most n
length-le_from_apart : (n : ℕ) (q : List Entry) → ((i : ℕ) → i < length q → bucket_at q i < n) → ((i k : ℕ) → i < k → k < length q → bucket_at q i ≢ bucket_at q k) → length q ≤ n
unfolding entry_at
length-le_from_apart n q below apart =
    let f : Entry → ℕ = λ (x : Entry). x.bucket in
    let bs = map f q in
    let same : length bs ≡ length q = length-map q f in
    let read : (i d : ℕ) → i < length q → get_or bs i d ≡ bucket_at q i = λ i d h. get_or-map f q i blank d h in
    let fit : length bs ≤ n = length-le_from_distinct_below bs n
    (IsDistinct-from_apart eqb bs (λ i j d l h.
    let hj : j < length q = omega arith in
    let hi : i < length q = omega arith in
    ne_eqb (get_or bs i d) (get_or bs j d) (λ e. apart i j l hj (sym (read i d hi) ∙ e ∙ read j d hj))))
    (λ b t. All-contains (λ x. x < n) bs b
    (All-from_get_or (λ x. x < n) bs 0 (λ i h. let hi : i < length q = omega arith in subst (λ (x : ℕ). x < n) (sym (read i 0 hi)) (below i hi)))
    (Contains-from_any (λ x y e. eqb-true x y e) b bs t)) in
    omega arith

-- an unseen bucket joins the queue, and is marked
pub queue-push : (q : List Entry) (seen : List Bool) (e : Entry) → IsQueue q seen → e.bucket < length seen → get_or seen e.bucket false ≡ false → IsQueue (q ++ e ∷ []) (set seen e.bucket true)
queue-push q seen e k l u =
    let r = q ++ e ∷ [] in
    let s = set seen e.bucket true in
    let size : length s ≡ length seen = length-set seen e.bucket true in
    let new : (i : ℕ) → i < length q → bucket_at q i ≢ e.bucket = λ i h s. let t = k.marks i h in let t' : get_or seen e.bucket false ≡ true = subst (λ (b : ℕ). get_or seen b false ≡ true) s t in cc in
    let below : (i : ℕ) → i < length r → bucket_at r i < length seen = each_pushed (λ i x. x.bucket < length seen) q e k.in_table l in
    let apart' : (j : ℕ) → j < length r → (i : ℕ) → i < j → bucket_at r i ≢ bucket_at r j =
    each_pushed (λ j x. (i : ℕ) → i < j → bucket_at r i ≢ x.bucket) q e
    (λ j h i m. let hi : i < length q = omega arith in rw (bucket_at-old q e i hi) (k.apart i j m h))
    (λ i m. rw (bucket_at-old q e i m) (new i m)) in
    let apart : (i j : ℕ) → i < j → j < length r → bucket_at r i ≢ bucket_at r j = λ i j m h. apart' j h i m in
    let many = length-push q e in
    record {
      in_table = λ i h. rw size (below i h);
      apart = apart;
      count = rw size (length-le_from_apart (length seen) r below apart);
      marks = each_pushed (λ i x. get_or (set seen e.bucket true) x.bucket false ≡ true) q e
          (λ i h. rw (get_or-set_other seen e.bucket (bucket_at q i) true false (new i h)) (k.marks i h))
          (rw (get_or-set_same seen e.bucket true false l) refl);
      backed = λ b t. elim (cases_eq b e.bucket) [
        | inl s ↦ (length q, omega arith, rw (bucket_at-new q e) (sym s))
        | inr d ↦
            let t' : get_or seen b false ≡ true = sym (get_or-set_other seen e.bucket b true false d) ∙ t in
            let was = k.backed b t' in
            let wl = was.1 in
            (was.0, omega arith, rw (bucket_at-old q e was.0 was.1) was.2)
      ];
    }

-- what the code reads
pub entry_read : (q : List Entry) (i : ℕ) (x : Entry) → x ≡ get_or q i x → i < length q → x ≡ entry_at q i
unfolding entry_at
entry_read q i x e h = e ∙ get_or_default q i x blank h
