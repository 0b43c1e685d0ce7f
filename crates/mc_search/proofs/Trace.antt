-- The way back through the queue is a chain.
use Rattle.std.proofs.Common.{ℕ, ◌≡◌, ◌+◌, ◌<◌, ◌≤◌, ◌⊎◌, inl, inr, List, [], ◌∷◌, length, map, Bool, false, refl, sym, ◌∙◌, subst, arith}
use Rattle.std.specs.Prelude.{eqb}
use Rattle.std.specs.List.{IsDistinct, AllByRecursion}
use Rattle.std.proofs.lemmas.Bool.{ne_eqb}
use Rattle.mc_words.specs.declared.place.Place.{Place}
use Rattle.mc_words.specs.declared.shape.Shape.{Shape}
use Rattle.mc_words.specs.Chains.{Leads, IsChain}
use Rattle.mc_words.specs.Keys.{first_of, second_of}
use Rattle.mc_search.specs.declared.queue.Entry.{Entry}
use Rattle.mc_search.specs.Inside.Search.{entry_at, bucket_at, depth_at, IsQueue, ComesFrom, Origin, IsTree, IsFound, Follows, GoesBack}

-- the place in the earlier bucket that leads to the i-th entry
abbrev pub place_to : List Entry → ℕ → Place
place_to q i = record { bucket = bucket_at q (entry_at q i).from; slot = (entry_at q i).slot }

-- a way is longer by the place that leads to its first entry
follows_back : (sh : Shape) (w : List ℕ) (q : List Entry) (seen : List Bool) (i : ℕ) (ps : List Place) (h : Place) → IsQueue q seen → length seen ≡ sh.buckets → i < length q → ComesFrom sh w q i (entry_at q i) → Follows sh w q i ps h → Follows sh w q (entry_at q i).from (place_to q i ∷ ps) h
follows_back sh w q seen i ps h k size l c f =
    let earlier = c.earlier in
    let in_table = k.in_table (entry_at q i).from (omega arith) in
    ((record { in_table = omega arith; in_bucket = c.in_bucket }, c.taken), refl, (i, c.earlier, l, sym c.leads, f))

-- a way leads from the bucket of its first entry to the hole
follows_leads : (sh : Shape) (w : List ℕ) (q : List Entry) (i : ℕ) (ps : List Place) (h : Place) → Follows sh w q i ps h → Leads sh w (bucket_at q i) ps h
follows_leads sh w q i [] h f = f
follows_leads sh w q i (p ∷ ps) h f =
    (f.0, f.1, subst (λ (b : ℕ). Leads sh w b ps h) (sym f.2.3) (follows_leads sh w q f.2.0 ps h f.2.4))

-- the buckets of the places
abbrev buckets : List Place → List ℕ
buckets ps = map (λ (p : Place). p.bucket) ps

-- an earlier bucket is none of those that follow
not_later : (sh : Shape) (w : List ℕ) (q : List Entry) (seen : List Bool) (i : ℕ) (ps : List Place) (h : Place) → IsQueue q seen → i < length q → Follows sh w q i ps h → (k : ℕ) → k < i → AllByRecursion (λ y. eqb (bucket_at q k) y ≡ false) (buckets ps)
not_later sh w q seen i [] h s l f k b = tt
not_later sh w q seen i (p ∷ ps) h s l f k b =
    let more : i < f.2.0 = f.2.1 in
    (ne_eqb (bucket_at q k) p.bucket (λ e. s.apart k i b l (e ∙ f.1)), not_later sh w q seen f.2.0 ps h s f.2.2 f.2.4 k (omega arith))

-- the hole's bucket is a later one
hole_later : (sh : Shape) (w : List ℕ) (q : List Entry) (i : ℕ) (ps : List Place) (h : Place) → i < length q → Follows sh w q i ps h → (k : ℕ) × (i ≤ k) × (k < length q) × (h.bucket ≡ bucket_at q k)
hole_later sh w q i [] h l f = (i, omega arith, l, f.1)
hole_later sh w q i (p ∷ ps) h l f =
    let more : i < f.2.0 = f.2.1 in
    let r = hole_later sh w q f.2.0 ps h f.2.2 f.2.4 in
    let far = r.1 in
    (r.0, omega arith, r.2, r.3)

-- the hole is in none of the buckets of the way
hole_apart : (sh : Shape) (w : List ℕ) (q : List Entry) (seen : List Bool) (i : ℕ) (ps : List Place) (h : Place) → IsQueue q seen → i < length q → Follows sh w q i ps h → AllByRecursion (λ y. eqb h.bucket y ≡ false) (buckets ps)
hole_apart sh w q seen i [] h s l f = tt
hole_apart sh w q seen i (p ∷ ps) h s l f =
    let more : i < f.2.0 = f.2.1 in
    let r = hole_later sh w q f.2.0 ps h f.2.2 f.2.4 in
    let far = r.1 in
    (ne_eqb h.bucket p.bucket (λ e. s.apart i r.0 (omega arith) r.2 (sym f.1 ∙ sym e ∙ r.3)), hole_apart sh w q seen f.2.0 ps h s f.2.2 f.2.4)

-- the buckets of the way are distinct
places_apart : (sh : Shape) (w : List ℕ) (q : List Entry) (seen : List Bool) (i : ℕ) (ps : List Place) (h : Place) → IsQueue q seen → i < length q → Follows sh w q i ps h → IsDistinct eqb (buckets ps)
unfolding IsDistinct
places_apart sh w q seen i [] h s l f = tt
places_apart sh w q seen i (p ∷ ps) h s l f =
    (subst (λ (b : ℕ). AllByRecursion (λ y. eqb b y ≡ false) (buckets ps)) (sym f.1) (not_later sh w q seen f.2.0 ps h s f.2.2 f.2.4 i f.2.1), places_apart sh w q seen f.2.0 ps h s f.2.2 f.2.4)

-- and distinct from that of the hole
follows_apart : (sh : Shape) (w : List ℕ) (q : List Entry) (seen : List Bool) (i : ℕ) (ps : List Place) (h : Place) → IsQueue q seen → i < length q → Follows sh w q i ps h → IsDistinct eqb (h.bucket ∷ map (λ (p : Place). p.bucket) ps)
unfolding IsDistinct
follows_apart sh w q seen i ps h s l f = (hole_apart sh w q seen i ps h s l f, places_apart sh w q seen i ps h s l f)

-- an entry below the starts has a place before it
follows_from : (sh : Shape) (w : List ℕ) (k : ℕ) (q : List Entry) (seen : List Bool) (i : ℕ) (ps : List Place) (h : Place) → IsQueue q seen → length seen ≡ sh.buckets → i < length q → 0 < depth_at q i → Origin sh w k q i (entry_at q i) → Follows sh w q i ps h → Follows sh w q (entry_at q i).from (place_to q i ∷ ps) h
follows_from sh w k q seen i ps h s size l b (inl o) f = let z = o.top in absurd (omega arith)
follows_from sh w k q seen i ps h s size l b (inr o) f = follows_back sh w q seen i ps h s size l o f

-- one step back from an entry below the starts
pub follows_step : (sh : Shape) (w : List ℕ) (k : ℕ) (q : List Entry) (seen : List Bool) (i : ℕ) (ps : List Place) (h : Place) → IsQueue q seen → length seen ≡ sh.buckets → IsTree sh w k q → i < length q → 0 < depth_at q i → Follows sh w q i ps h → Follows sh w q (entry_at q i).from (place_to q i ∷ ps) h
follows_step sh w k q seen i ps h s size t l b f = follows_from sh w k q seen i ps h s size l b (t.origin i l) f

-- it comes from an earlier entry
goes_from : (sh : Shape) (w : List ℕ) (k : ℕ) (q : List Entry) (i : ℕ) → 0 < depth_at q i → Origin sh w k q i (entry_at q i) → ((entry_at q i).from < i) × (depth_at q i ≡ depth_at q (entry_at q i).from + 1)
goes_from sh w k q i b (inl o) = let z = o.top in absurd (omega arith)
goes_from sh w k q i b (inr o) = (o.earlier, o.deeper)

-- so each does in a tree
goes_back : (sh : Shape) (w : List ℕ) (k : ℕ) (q : List Entry) → IsTree sh w k q → GoesBack q
goes_back sh w k q t i l b = goes_from sh w k q i b (t.origin i l)

-- a way from a bucket of the key
leads_start : (sh : Shape) (w : List ℕ) (k : ℕ) (q : List Entry) (i : ℕ) (ps : List Place) (h : Place) → (bucket_at q i ≡ first_of sh k) ⊎ (bucket_at q i ≡ second_of sh k) → Leads sh w (bucket_at q i) ps h → Leads sh w (first_of sh k) ps h ⊎ Leads sh w (second_of sh k) ps h
leads_start sh w k q i ps h (inl e) f = inl (subst (λ (b : ℕ). Leads sh w b ps h) e f)
leads_start sh w k q i ps h (inr e) f = inr (subst (λ (b : ℕ). Leads sh w b ps h) e f)

-- an entry at depth 0 belongs to a bucket of the key
leads_from : (sh : Shape) (w : List ℕ) (k : ℕ) (q : List Entry) (i : ℕ) (ps : List Place) (h : Place) → depth_at q i ≡ 0 → Origin sh w k q i (entry_at q i) → Leads sh w (bucket_at q i) ps h → Leads sh w (first_of sh k) ps h ⊎ Leads sh w (second_of sh k) ps h
leads_from sh w k q i ps h z (inl o) f = leads_start sh w k q i ps h o.of_key f
leads_from sh w k q i ps h z (inr o) f = let y = o.deeper in absurd (omega arith)

-- at a start the way is a chain
pub chain_here : (sh : Shape) (w : List ℕ) (k : ℕ) (q : List Entry) (seen : List Bool) (i : ℕ) (ps : List Place) (h : Place) → IsQueue q seen → IsTree sh w k q → i < length q → depth_at q i ≡ 0 → Follows sh w q i ps h → IsChain sh w k ps h
chain_here sh w k q seen i ps h s t l z f = record {
  leads = leads_from sh w k q i ps h z (t.origin i l) (follows_leads sh w q i ps h f);
  distinct = follows_apart sh w q seen i ps h s l f;
}

-- what the way back needs of the queue
pub record IsTraceable (q : List Entry) (i : ℕ) : Type 0 where
  pub queued : i < length q
  pub shallow : depth_at q i ≤ 8
  pub back : GoesBack q

-- the entry at which the search ended has them
pub traceable : (sh : Shape) (w : List ℕ) (k : ℕ) (q : List Entry) (i : ℕ) (h : Place) → sh.depth ≤ 8 → IsFound sh w k q i h → IsTraceable q i
traceable sh w k q i h l f = let deep = f.tree.deep i f.queued in record { queued = f.queued; shallow = omega arith; back = goes_back sh w k q f.tree }
