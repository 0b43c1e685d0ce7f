-- No chain is shorter than the level that was reached.
use Rattle.std.proofs.Common.{ℕ, ◌≡◌, ◌≢◌, ◌+◌, ◌-◌, ◌*◌, ◌<◌, ◌≤◌, ◌⊎◌, inl, inr, List, [], ◌∷◌, ◌++◌, length, Bool, true, false, sym, ◌∙◌, ap, subst, arith}
use Rattle.std.specs.List.{IsDistinct}
use Rattle.std.proofs.lemmas.Bool.{cases_lt}
use Rattle.mc_words.specs.declared.place.Place.{Place}
use Rattle.mc_words.specs.declared.shape.Shape.{Shape}
use Rattle.mc_words.specs.Chains.{Leads, IsChain, NoChain, beyond}
use Rattle.mc_words.specs.Keys.{first_of, second_of}
use Rattle.mc_words.specs.Places.{slot}
use Rattle.mc_search.specs.declared.path.Path.{Path}
use Rattle.mc_search.specs.declared.queue.Entry.{Entry}
use Rattle.mc_search.specs.Paths.{IsLeastPath}
use Rattle.mc_search.specs.Inside.Readable.{IsFull, IsHoleIn}
use Rattle.mc_search.specs.Inside.Search.{entry_at, bucket_at, depth_at, next_bucket, AreFull, IsNear, IsFollowed, IsSearching, IsExpanding, IsFound, IsAdded}
use Rattle.mc_search.proofs.QueueEntries.{length-push, bucket_at-new, depth_at-new}
use Rattle.mc_search.proofs.Levels.{entry_from, entry_to, expanding-push}

-- if all queued buckets are full, and the slots of all entries above level m - 1 were followed, no chain is shorter than m
too_short : (sh : Shape) (w : List ℕ) (k t m : ℕ) (q : List Entry) → AreFull sh w q → IsFollowed sh w k t q → ((i : ℕ) → i < length q → depth_at q i + 1 < m → 4 * i + 4 ≤ t) → (b : ℕ) (ps : List Place) (h : Place) (u : ℕ) → Leads sh w b ps h → IsNear q b u → u + length ps < m → ⊥
too_short sh w k t m q full s past b [] h u x n l =
    let same : bucket_at q n.0 ≡ h.bucket = n.2 ∙ sym x.1 in
    subst (λ (y : ℕ). IsFull sh w y) same (full n.0 n.1) h.slot x.0.0.in_bucket x.0.1
too_short sh w k t m q full s past b (p ∷ ps) h u x n l =
    let near = n.3 in
    let end = past n.0 n.1 (omega arith) in
    let lj : p.slot < 4 = x.0.0.in_bucket in
    let same : bucket_at q n.0 ≡ p.bucket = n.2 ∙ sym x.1 in
    let on : IsNear q (next_bucket sh w (bucket_at q n.0) p.slot) (depth_at q n.0 + 1) = s.followed n.0 p.slot n.1 lj (omega arith) in
    let on' : IsNear q (beyond sh w p) (depth_at q n.0 + 1) = subst (λ (y : ℕ). IsNear q (next_bucket sh w y p.slot) (depth_at q n.0 + 1)) same on in
    too_short sh w k t m q full s past (beyond sh w p) ps h (depth_at q n.0 + 1) x.2 on' (omega arith)

-- so it is from either bucket of the key
chain_short : (sh : Shape) (w : List ℕ) (k t m : ℕ) (q : List Entry) → AreFull sh w q → IsFollowed sh w k t q → ((i : ℕ) → i < length q → depth_at q i + 1 < m → 4 * i + 4 ≤ t) → (ps : List Place) (h : Place) → Leads sh w (first_of sh k) ps h ⊎ Leads sh w (second_of sh k) ps h → length ps < m → ⊥
chain_short sh w k t m q full s past ps h (inl x) l = too_short sh w k t m q full s past (first_of sh k) ps h 0 x s.from_first (omega arith)
chain_short sh w k t m q full s past ps h (inr x) l = too_short sh w k t m q full s past (second_of sh k) ps h 0 x s.from_second (omega arith)

-- if all entries above the last level were followed, there is no chain
none_left : (sh : Shape) (w : List ℕ) (k f : ℕ) (q : List Entry) → AreFull sh w q → IsSearching sh w k f q → ((i : ℕ) → i < length q → depth_at q i < sh.depth → i < f) → NoChain sh w k sh.depth
none_left sh w k f q full s past ps h x = elim (cases_lt sh.depth (length ps)) [
  | inl g ↦ g
  | inr g ↦ absurd (chain_short sh w k (4 * f) (sh.depth + 1) q full s.slots (λ i l m. let b = past i l (omega arith) in omega arith) ps h x.leads (omega arith))
]

-- so it is if every entry was followed
pub none_queued : (sh : Shape) (w : List ℕ) (k f : ℕ) (q : List Entry) → AreFull sh w q → IsSearching sh w k f q → length q ≤ f → NoChain sh w k sh.depth
none_queued sh w k f q full s l = none_left sh w k f q full s (λ i h m. omega arith)

-- so it is if the next entry is at the last level
pub none_above : (sh : Shape) (w : List ℕ) (k f : ℕ) (x : Entry) (q : List Entry) → AreFull sh w q → IsSearching sh w k f q → f < length q → x ≡ entry_at q f → sh.depth ≤ x.depth → NoChain sh w k sh.depth
none_above sh w k f x q full s l e d =
    let deep : x.depth ≡ depth_at q f = ap (λ (y : Entry). y.depth) e in
    none_left sh w k f q full s (λ i h m. elim (cases_lt i f) [ inl y ↦ y | inr g ↦ let u = s.tree.sorted f i g h in absurd (omega arith) ])

-- a hole in the bucket to which a slot of the f-th entry leads
pub found_next : (sh : Shape) (w : List ℕ) (k f : ℕ) (x : Entry) (j : ℕ) (q : List Entry) (h : Place) → AreFull sh w q → IsExpanding sh w k f x (4 * f + j) q → j < 4 → slot sh w (4 * x.bucket + j) ≢ 0 → x.depth < sh.depth → IsHoleIn sh w (next_bucket sh w x.bucket j) h → IsFound sh w k (q ++ entry_from sh w f x j ∷ []) (length q) h
found_next sh w k f x j q h full s l o d hole =
    let e = entry_from sh w f x j in
    let many = length-push q e in
    record {
      tree = (expanding-push sh w k f x j q s l o d).tree;
      queued = omega arith;
      hole = hole.0;
      in_bucket = hole.1 ∙ sym (bucket_at-new q e);
      least = λ ps g c. rw (depth_at-new q e) (elim (cases_lt (length ps) (x.depth + 1)) [
        | inl short ↦
            let front : depth_at q f ≡ x.depth = ap (λ (y : Entry). y.depth) s.front in
            absurd (chain_short sh w k (4 * f + j) (x.depth + 1) q full s.slots
            (λ i h m. elim (cases_lt i f) [ inl y ↦ omega arith | inr g ↦ let u = s.tree.sorted f i g h in absurd (omega arith) ]) ps g c.leads short)
        | inr y ↦ y
      ]);
    }

-- as the code finds it: the new entry is the queue's last
pub found_added : (sh : Shape) (w : List ℕ) (k f : ℕ) (x : Entry) (j b : ℕ) (q r : List Entry) (new : Bool) (h : Place) → AreFull sh w q → IsExpanding sh w k f x (4 * f + j) q → j < 4 → slot sh w (4 * x.bucket + j) ≢ 0 → x.depth < sh.depth → b ≡ next_bucket sh w x.bucket j → new ≡ true → IsAdded q (entry_to b f x j) r new → IsHoleIn sh w b h → IsFound sh w k r (length r - 1) h
found_added sh w k f x j b q r false h full s l o d e t a hole = absurd (cc)
found_added sh w k f x j b q r true h full s l o d e t a hole =
    let n = next_bucket sh w x.bucket j in
    let is : r ≡ q ++ entry_from sh w f x j ∷ [] = a ∙ ap (λ y. q ++ entry_to y f x j ∷ []) e in
    let last : length q ≡ length (q ++ entry_from sh w f x j ∷ []) - 1 = omega (arith, length-push q (entry_from sh w f x j)) in
    subst (λ (y : List Entry). IsFound sh w k y (length y - 1) h) (sym is)
    (subst (λ (i : ℕ). IsFound sh w k (q ++ entry_from sh w f x j ∷ []) i h) last
    (found_next sh w k f x j q h full s l o d (hole.0, hole.1 ∙ e)))

-- a hole in a bucket of the key needs no place
pub least_direct : (sh : Shape) (w : List ℕ) (k a b : ℕ) (p : Path) → a ≡ first_of sh k → b ≡ second_of sh k → p.places.items ≡ [] → IsHoleIn sh w a p.hole ⊎ IsHoleIn sh w b p.hole → IsLeastPath sh w k p
unfolding IsDistinct
least_direct sh w k a b p ea eb none hole =
    let many : length p.places.items ≡ 0 = ap length none in
    record {
      chain = subst (λ (ps : List Place). IsChain sh w k ps p.hole) (sym none) (record {
        leads = elim hole [ inl h ↦ inl (h.0, h.1 ∙ ea) | inr h ↦ inr (h.0, h.1 ∙ eb) ];
        distinct = (tt, tt);
      });
      within = omega arith;
      least = λ ps g c. omega arith;
    }

-- so it is with no bucket but the key's two, if both are full
pub none_near : (sh : Shape) (w : List ℕ) (k a b : ℕ) → a ≡ first_of sh k → b ≡ second_of sh k → IsFull sh w a → IsFull sh w b → NoChain sh w k 0
none_near sh w k a b ea eb fa fb (p ∷ ps) h c = omega arith
none_near sh w k a b ea eb fa fb [] h c = elim c.leads [
  | inl x ↦ absurd (subst (λ (y : ℕ). IsFull sh w y) (ea ∙ sym x.1) fa h.slot x.0.0.in_bucket x.0.1)
  | inr x ↦ absurd (subst (λ (y : ℕ). IsFull sh w y) (eb ∙ sym x.1) fb h.slot x.0.0.in_bucket x.0.1)
]

-- and if no chain is that short, both are full
pub first_full : (sh : Shape) (w : List ℕ) (k a : ℕ) → a ≡ first_of sh k → a < sh.buckets → NoChain sh w k 0 → IsFull sh w a
unfolding IsDistinct
first_full sh w k a ea in_table none j l empty =
    let hole : Place = record { bucket = a; slot = j } in
    let long = none [] hole (record { leads = inl ((record { in_table = in_table; in_bucket = l }, empty), ea); distinct = (tt, tt) }) in
    omega arith

pub second_full : (sh : Shape) (w : List ℕ) (k b : ℕ) → b ≡ second_of sh k → b < sh.buckets → NoChain sh w k 0 → IsFull sh w b
unfolding IsDistinct
second_full sh w k b eb in_table none j l empty =
    let hole : Place = record { bucket = b; slot = j } in
    let long = none [] hole (record { leads = inr ((record { in_table = in_table; in_bucket = l }, empty), eb); distinct = (tt, tt) }) in
    omega arith

-- so the way back from where the search ended is a least path
pub least_traced : (sh : Shape) (w : List ℕ) (k i : ℕ) (q : List Entry) (p : Path) → IsFound sh w k q i p.hole → IsChain sh w k p.places.items p.hole → length p.places.items ≡ depth_at q i → IsLeastPath sh w k p
least_traced sh w k i q p found chain many = record {
  chain = chain;
  within = let deep = found.tree.deep i found.queued in omega arith;
  least = λ ps g c. let least = found.least ps g c in omega arith;
}
