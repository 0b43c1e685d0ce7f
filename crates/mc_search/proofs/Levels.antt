-- The tree and the levels of the search, as the queue grows.
use Rattle.std.proofs.Common.{ℕ, ◌≡◌, ◌≢◌, ◌+◌, ◌*◌, ◌<◌, ◌≤◌, inl, inr, List, [], ◌∷◌, ◌++◌, length, Bool, true, false, refl, sym, ◌∙◌, ap, subst, arith}
use Rattle.std.proofs.lemmas.Bool.{cases_lt}
use Rattle.mc_words.specs.declared.shape.Shape.{Shape}
use Rattle.mc_words.specs.Keys.{alternate, first_of, second_of, IsBucketOf, tag_in}
use Rattle.mc_words.specs.Places.{slot}
use Rattle.mc_search.specs.declared.queue.Entry.{Entry}
use Rattle.mc_search.specs.Inside.Readable.{IsFull}
use Rattle.mc_search.specs.Inside.Search.{entry_at, bucket_at, depth_at, next_bucket, AreFull, ComesFrom, Origin, IsTree, IsNear, IsUpTo, IsFollowed, IsAdded, IsSearching, IsExpanding}
use Rattle.mc_search.proofs.QueueEntries.{entry_at-old, entry_at-new, bucket_at-old, depth_at-old, depth_at-new, length-push, last_or, each_pushed}

-- an entry that comes from an earlier one still does if one more is queued
comes-push : (sh : Shape) (w : List ℕ) (q : List Entry) (x : Entry) (i : ℕ) (e : Entry) → i ≤ length q → ComesFrom sh w q i e → ComesFrom sh w (q ++ x ∷ []) i e
comes-push sh w q x i e l k =
    let earlier = k.earlier in
    let h : e.from < length q = omega arith in
    let same = sym (entry_at-old q x e.from h) in
    record {
      earlier = k.earlier;
      in_bucket = k.in_bucket;
      taken = subst (λ (y : Entry). slot sh w (4 * y.bucket + e.slot) ≢ 0) same k.taken;
      leads = subst (λ (y : Entry). e.bucket ≡ next_bucket sh w y.bucket e.slot) same k.leads;
      deeper = subst (λ (y : Entry). e.depth ≡ y.depth + 1) same k.deeper;
    }

-- an origin stays one
origin-push : (sh : Shape) (w : List ℕ) (k : ℕ) (q : List Entry) (x : Entry) (i : ℕ) (e : Entry) → i ≤ length q → Origin sh w k q i e → Origin sh w k (q ++ x ∷ []) i e
origin-push sh w k q x i e l (inl s) = inl s
origin-push sh w k q x i e l (inr c) = inr (comes-push sh w q x i e l c)

-- a tree grows by an entry that is as deep as any
tree-push : (sh : Shape) (w : List ℕ) (k : ℕ) (q : List Entry) (e : Entry) → IsTree sh w k q → Origin sh w k q (length q) e → e.depth ≤ sh.depth → IsUpTo q e.depth → IsTree sh w k (q ++ e ∷ [])
tree-push sh w k q e t o l m =
    let r = q ++ e ∷ [] in
    record {
      origin = each_pushed (λ i x. Origin sh w k r i x) q e
          (λ i h. origin-push sh w k q e i (entry_at q i) (omega arith) (t.origin i h))
          (origin-push sh w k q e (length q) e (omega arith) o);
      deep = each_pushed (λ i x. x.depth ≤ sh.depth) q e t.deep l;
      sorted = λ i k b h. each_pushed (λ k x. (i : ℕ) → i ≤ k → depth_at r i ≤ x.depth) q e
          (λ k h i b. let hi : i < length q = omega arith in rw (depth_at-old q e i hi) (t.sorted i k b h))
          (λ i b. elim (last_or i (length q) (omega arith)) [
            | inl hi ↦ rw (depth_at-old q e i hi) (m i hi)
            | inr s ↦ rw (s, depth_at-new q e) (omega arith)
          ])
          k h i b;
    }

-- and stays as shallow as that entry
most-push : (q : List Entry) (e : Entry) (m : ℕ) → IsUpTo q m → e.depth ≤ m → IsUpTo (q ++ e ∷ []) m
most-push q e m u l = each_pushed (λ i x. x.depth ≤ m) q e u l

-- what was near is near
near-push : (q : List Entry) (e : Entry) (b m : ℕ) → IsNear q b m → IsNear (q ++ e ∷ []) b m
near-push q e b m k =
    let many = length-push q e in
    let l : k.0 < length q = k.1 in
    (k.0, omega arith, rw (bucket_at-old q e k.0 k.1) k.2, rw (depth_at-old q e k.0 k.1) k.3)

-- the slots that were followed stay so
followed-push : (sh : Shape) (w : List ℕ) (k t : ℕ) (q : List Entry) (e : Entry) → t ≤ 4 * length q → IsFollowed sh w k t q → IsFollowed sh w k t (q ++ e ∷ [])
followed-push sh w k t q e lt s = record {
  from_first = near-push q e (first_of sh k) 0 s.from_first;
  from_second = near-push q e (second_of sh k) 0 s.from_second;
  followed = λ i j h l b.
      let hi : i < length q = omega arith in
      rw (bucket_at-old q e i hi, depth_at-old q e i hi) (near-push q e (next_bucket sh w (bucket_at q i) j) (depth_at q i + 1) (s.followed i j hi l b));
}

-- full buckets and one more
pub full-push : (sh : Shape) (w : List ℕ) (q : List Entry) (e : Entry) → AreFull sh w q → IsFull sh w e.bucket → AreFull sh w (q ++ e ∷ [])
full-push sh w q e old new = each_pushed (λ i x. IsFull sh w x.bucket) q e old new

-- the entry to which slot j of the f-th entry x leads
abbrev pub entry_from : Shape → List ℕ → ℕ → Entry → ℕ → Entry
entry_from sh w f x j = record { bucket = next_bucket sh w x.bucket j; from = f; slot = j; depth = x.depth + 1 }

-- it joins the queue while the slots of x are looked at
pub expanding-push : (sh : Shape) (w : List ℕ) (k f : ℕ) (x : Entry) (j : ℕ) (q : List Entry) → IsExpanding sh w k f x (4 * f + j) q → j < 4 → slot sh w (4 * x.bucket + j) ≢ 0 → x.depth < sh.depth → IsExpanding sh w k f x (4 * f + j) (q ++ entry_from sh w f x j ∷ [])
expanding-push sh w k f x j q s l o m =
    let e = entry_from sh w f x j in
    let hf = s.queued in
    let many = length-push q e in
    let same = sym s.front in
    record {
      tree = tree-push sh w k q e s.tree
          (inr (record {
            earlier = s.queued;
            in_bucket = l;
            taken = subst (λ (y : Entry). slot sh w (4 * y.bucket + j) ≢ 0) same o;
            leads = subst (λ (y : Entry). next_bucket sh w x.bucket j ≡ next_bucket sh w y.bucket j) same refl;
            deeper = subst (λ (y : Entry). x.depth + 1 ≡ y.depth + 1) same refl;
          }))
          (omega arith) s.level;
      slots = followed-push sh w k (4 * f + j) q e (omega arith) s.slots;
      level = most-push q e (x.depth + 1) s.level (omega arith);
      queued = omega arith;
      front = entry_at-old q e f s.queued ∙ s.front;
    }

-- if the slot's bucket is queued, one slot more is followed
pub expanding-next : (sh : Shape) (w : List ℕ) (k f : ℕ) (x : Entry) (j : ℕ) (q : List Entry) → IsExpanding sh w k f x (4 * f + j) q → j < 4 → ((i : ℕ) × (i < length q) × (bucket_at q i ≡ next_bucket sh w x.bucket j)) → IsExpanding sh w k f x (4 * f + (j + 1)) q
expanding-next sh w k f x j q s l at = record {
  tree = s.tree;
  slots = record {
    from_first = s.slots.from_first;
    from_second = s.slots.from_second;
    followed = λ i u h lu b. elim (cases_lt (4 * i + u) (4 * f + j)) [
      | inl old ↦ s.slots.followed i u h lu old
      | inr new ↦
          let is_f : i ≡ f = omega arith in
          let is_j : u ≡ j = omega arith in
          rw (is_f, is_j, ap (λ (y : Entry). y.bucket) s.front, ap (λ (y : Entry). y.depth) s.front) (at.0, at.1, at.2, s.level at.0 at.1)
    ];
  };
  level = s.level;
  queued = s.queued;
  front = s.front;
}

-- after the fourth slot the search is at the next entry
pub searching-after : (sh : Shape) (w : List ℕ) (k f : ℕ) (x : Entry) (q : List Entry) → IsExpanding sh w k f x (4 * f + 4) q → IsSearching sh w k (f + 1) q
searching-after sh w k f x q s =
    let e : 4 * f + 4 ≡ 4 * (f + 1) = omega arith in
    record {
      tree = s.tree;
      slots = subst (λ (t : ℕ). IsFollowed sh w k t q) e s.slots;
      level = λ h i l.
          let up = s.level i l in
          let front = ap (λ (y : Entry). y.depth) s.front in
          let later = s.tree.sorted f (f + 1) (omega arith) h in
          omega arith;
    }

-- the entry of a bucket of the key
abbrev pub start_at : ℕ → Entry
start_at b = record { bucket = b; from = 0; slot = 0; depth = 0 }

-- a bucket of the key joins a queue that has nothing deeper
start-push : (sh : Shape) (w : List ℕ) (k b : ℕ) (q : List Entry) → IsTree sh w k q × IsUpTo q 0 → IsBucketOf sh k b → IsTree sh w k (q ++ start_at b ∷ []) × IsUpTo (q ++ start_at b ∷ []) 0
start-push sh w k b q t s =
    (tree-push sh w k q (start_at b) t.0 (inl (record { top = refl; of_key = s })) (omega arith) t.1, most-push q (start_at b) 0 t.1 (omega arith))

-- so does one that may be there already
start-grown : (sh : Shape) (w : List ℕ) (k b : ℕ) (q r : List Entry) (new : Bool) → IsAdded q (start_at b) r new → IsTree sh w k q × IsUpTo q 0 → IsBucketOf sh k b → IsTree sh w k r × IsUpTo r 0
start-grown sh w k b q r true a t s = subst (λ (y : List Entry). IsTree sh w k y × IsUpTo y 0) (sym a) (start-push sh w k b q t s)
start-grown sh w k b q r false a t s = subst (λ (y : List Entry). IsTree sh w k y × IsUpTo y 0) (sym a.0) t

-- an added bucket is in the queue
pub there-added : (q r : List Entry) (e : Entry) (new : Bool) → IsAdded q e r new → (i : ℕ) × (i < length r) × (bucket_at r i ≡ e.bucket)
there-added q r e true a = subst (λ (y : List Entry). (i : ℕ) × (i < length y) × (bucket_at y i ≡ e.bucket)) (sym a) (length q, omega (arith, length-push q e), ap (λ (y : Entry). y.bucket) (entry_at-new q e))
there-added q r e false a = subst (λ (y : List Entry). (i : ℕ) × (i < length y) × (bucket_at y i ≡ e.bucket)) (sym a.0) a.1

-- what was near is near after an `add`
near-added : (q r : List Entry) (e : Entry) (new : Bool) (b m : ℕ) → IsAdded q e r new → IsNear q b m → IsNear r b m
near-added q r e true b m a k = subst (λ (y : List Entry). IsNear y b m) (sym a) (near-push q e b m k)
near-added q r e false b m a k = subst (λ (y : List Entry). IsNear y b m) (sym a.0) k

-- full buckets stay full after an `add` of a full one
pub full-added : (sh : Shape) (w : List ℕ) (q r : List Entry) (e : Entry) (new : Bool) → IsAdded q e r new → AreFull sh w q → IsFull sh w e.bucket → AreFull sh w r
full-added sh w q r e true a old x = subst (λ (y : List Entry). AreFull sh w y) (sym a) (full-push sh w q e old x)
full-added sh w q r e false a old x = subst (λ (y : List Entry). AreFull sh w y) (sym a.0) old

-- an empty queue has only full buckets
none_full : (sh : Shape) (w : List ℕ) → AreFull sh w []
none_full sh w i h = absurd (omega (arith, h))

-- and is a tree
empty_tree : (sh : Shape) (w : List ℕ) (k : ℕ) → IsTree sh w k [] × IsUpTo [] 0
empty_tree sh w k = (
  record {
    origin = λ i h. absurd (omega (arith, h));
    deep = λ i h. absurd (omega (arith, h));
    sorted = λ i k b h. absurd (omega (arith, h));
  },
  λ i h. absurd (omega (arith, h)),
)

-- the queue at the start has full buckets if both of the key are full
pub start-full : (sh : Shape) (w : List ℕ) (a b : ℕ) (o q r : List Entry) (x y : Bool) → o ≡ [] → IsAdded o (start_at a) q x → IsAdded q (start_at b) r y → IsFull sh w a → IsFull sh w b → AreFull sh w r
start-full sh w a b o q r x y z one two fa fb =
    full-added sh w q r (start_at b) y two (full-added sh w o q (start_at a) x one (subst (λ (v : List Entry). AreFull sh w v) (sym z) (none_full sh w)) fa) fb

-- the search at its start
pub searching-start : (sh : Shape) (w : List ℕ) (k a b : ℕ) (o q r : List Entry) (x y : Bool) → o ≡ [] → IsAdded o (start_at a) q x → IsAdded q (start_at b) r y → a ≡ first_of sh k → b ≡ second_of sh k → IsSearching sh w k 0 r
searching-start sh w k a b o q r x y z one two ea eb =
    let none : IsTree sh w k o × IsUpTo o 0 = subst (λ (v : List Entry). IsTree sh w k v × IsUpTo v 0) (sym z) (empty_tree sh w k) in
    let s1 = start-grown sh w k a o q x one none (inl ea) in
    let s2 = start-grown sh w k b q r y two s1 (inr eb) in
    let f = there-added o q (start_at a) x one in
    let g = there-added q r (start_at b) y two in
    let up = s2.1 in
    record {
      tree = s2.0;
      slots = record {
        from_first = near-added q r (start_at b) y (first_of sh k) 0 two (f.0, f.1, f.2 ∙ ea, s1.1 f.0 f.1);
        from_second = (g.0, g.1, g.2 ∙ eb, s2.1 g.0 g.1);
        followed = λ i j h l v. absurd (omega (arith, v));
      };
      level = λ h i m. let v = up i m in omega arith;
    }

-- the entry that is queued for slot j, when the code found bucket b
abbrev pub entry_to : ℕ → ℕ → Entry → ℕ → Entry
entry_to b f x j = record { bucket = b; from = f; slot = j; depth = x.depth + 1 }

-- a slot of a queued bucket is taken
pub taken_at : (sh : Shape) (w : List ℕ) (f : ℕ) (x : Entry) (j : ℕ) (q : List Entry) → AreFull sh w q → f < length q → x ≡ entry_at q f → j < 4 → slot sh w (4 * x.bucket + j) ≢ 0
taken_at sh w f x j q full l e lj = subst (λ (y : Entry). slot sh w (4 * y.bucket + j) ≢ 0) (sym e) (full f l j lj)

-- the bucket that the code found
pub bucket_read : (sh : Shape) (w v : List ℕ) (x : Entry) (j word b : ℕ) → v ≡ w → word ≡ slot sh v (4 * x.bucket + j) → b ≡ alternate sh x.bucket (tag_in word) → b ≡ next_bucket sh w x.bucket j
bucket_read sh w v x j word b same read is =
    is ∙ ap (λ y. alternate sh x.bucket (tag_in y)) (read ∙ ap (λ (y : List ℕ). slot sh y (4 * x.bucket + j)) same)

-- a new bucket is queued
expanding-new : (sh : Shape) (w : List ℕ) (k f : ℕ) (x : Entry) (j b : ℕ) (q : List Entry) → IsExpanding sh w k f x (4 * f + j) q → j < 4 → slot sh w (4 * x.bucket + j) ≢ 0 → x.depth < sh.depth → b ≡ next_bucket sh w x.bucket j → IsExpanding sh w k f x (4 * f + j) (q ++ entry_to b f x j ∷ [])
expanding-new sh w k f x j b q s l o d e =
    subst (λ (y : ℕ). IsExpanding sh w k f x (4 * f + j) (q ++ entry_to y f x j ∷ [])) (sym e) (expanding-push sh w k f x j q s l o d)

-- one slot more is followed, whether its bucket is new or not
pub expanding-added : (sh : Shape) (w : List ℕ) (k f : ℕ) (x : Entry) (j b : ℕ) (q r : List Entry) (new : Bool) → IsExpanding sh w k f x (4 * f + j) q → j < 4 → slot sh w (4 * x.bucket + j) ≢ 0 → x.depth < sh.depth → b ≡ next_bucket sh w x.bucket j → IsAdded q (entry_to b f x j) r new → IsExpanding sh w k f x (4 * f + (j + 1)) r
expanding-added sh w k f x j b q r true s l o d e a =
    let there = there-added q r (entry_to b f x j) true a in
    expanding-next sh w k f x j r (subst (λ (y : List Entry). IsExpanding sh w k f x (4 * f + j) y) (sym a) (expanding-new sh w k f x j b q s l o d e)) l (there.0, there.1, there.2 ∙ e)
expanding-added sh w k f x j b q r false s l o d e a =
    let there = there-added q r (entry_to b f x j) false a in
    expanding-next sh w k f x j r (subst (λ (y : List Entry). IsExpanding sh w k f x (4 * f + j) y) (sym a.0) s) l (there.0, there.1, there.2 ∙ e)

-- full buckets stay full if nothing was added
pub full-old : (sh : Shape) (w : List ℕ) (q r : List Entry) (e : Entry) (new : Bool) → new ≡ false → IsAdded q e r new → AreFull sh w q → AreFull sh w r
full-old sh w q r e true t a old = absurd (cc)
full-old sh w q r e false t a old = subst (λ (y : List Entry). AreFull sh w y) (sym a.0) old
