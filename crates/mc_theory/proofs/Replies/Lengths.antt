-- How many readings a lookup makes at most.
use Rattle.std.proofs.Common.{ℕ, zero, suc, ◌≡◌, ◌+◌, ◌*◌, ◌≤◌, List, [], ◌∷◌, ◌++◌, length, Option, Some, None, arith, refl, ap, ◌∙◌, inl, inr, length-append}
use Rattle.mc_words.proofs.Payload.{payload_is}
use Rattle.mc_words.specs.Places.{payload}
use Rattle.mc_words.specs.declared.history.Reply.{Reply}
use Rattle.mc_words.specs.declared.place.Place.{Place}
use Rattle.mc_words.specs.declared.shape.Shape.{Shape}
use Rattle.mc_theory.specs.Lookups.{Scans, ReadsValues, ReadsHit, Tries, IsSpoiled, MarksHit, IsLookup, slots_for}
use Rattle.mc_theory.specs.Readings.{Reading}

-- at most two readings a slot
scan_length : (sh : Shape) (k : ℕ) (ps : List Place) (rs : List Reading) (hit : Option ℕ) → Scans sh k ps rs hit → length rs ≤ 2 * length ps
scan_length sh k [] rs hit scan = let none = ap length scan.0 in omega (arith, none)
scan_length sh k (p ∷ ps) rs hit scan =
    let more = ap length scan.2 in
    elim scan.4 [
      | inl missed ↦ (let rest = scan_length sh k ps scan.1 hit missed.1 in omega (arith, more, rest))
      | inr met ↦ (let key = ap length met.4 in elim met.6 [
        | inl is ↦ (let none = ap length is.1 in omega (arith, more, key, none))
        | inr other ↦ (let rest = scan_length sh k ps met.2 hit other.1 in omega (arith, more, key, rest))
      ])
    ]

-- one reading a word of the value
values_length : (i j : ℕ) (rs : List Reading) (v : List ℕ) → ReadsValues i j rs v → length rs ≡ length v
values_length i j [] [] reads = refl
values_length i j (r ∷ rs) (x ∷ xs) reads = ap suc (values_length i (j + 1) rs xs reads.2)
values_length i j [] (x ∷ xs) reads = absurd reads
values_length i j (r ∷ rs) [] reads = absurd reads

-- a value is read with no more readings than it has words
hit_length : (V : ℕ) (hit : Option ℕ) (rs : List Reading) (held : List ℕ) → ReadsHit V hit rs held → length rs ≤ payload V
hit_length V None rs held reads = let none = ap length reads.0 in omega (arith, none)
hit_length V (Some i) rs held reads =
    let same = values_length i 1 reads.0 reads.2 reads.6 in
    let all = ap length reads.3 ∙ length-append reads.0 (reads.1 ∷ []) in
    omega (arith, same, all, reads.5, payload_is V)

-- the version, the slots and keys, the value and the stamp, the moment and the version again
try_length : (V : ℕ) (sh : Shape) (k : ℕ) (rs : List Reading) (hit : Option ℕ) (v : List ℕ) (before after at : ℕ) → Tries V sh k rs hit v before after at → length rs ≤ 19 + payload V
try_length V sh k rs hit v before after at tries =
    let scan = scan_length sh k (slots_for sh k) tries.scan hit tries.scans in
    let values = hit_length V hit tries.values v tries.reads in
    let whole = ap length tries.parts in
    let a = length-append tries.scan (tries.values ++ tries.mid ∷ tries.last ∷ []) in
    let b = length-append tries.values (tries.mid ∷ tries.last ∷ []) in
    omega (arith, scan, values, whole, a, b)

-- a try that is spoiled has at most 19 readings beside the value
spoiled_length : (V : ℕ) (sh : Shape) (k : ℕ) (rs : List Reading) → IsSpoiled V sh k rs → length rs ≤ 19 + payload V
spoiled_length V sh k rs spoiled = elim spoiled [
  | inl odd ↦ (let one = ap length odd.1 in omega (arith, one))
  | inr other ↦ try_length V sh k rs other.0 other.1 other.2 other.3 other.4 other.6
]

-- a hit is marked once at most
marks_length : (hit : Option ℕ) (rs : List Reading) → MarksHit hit rs → length rs ≤ 1
marks_length None rs marks = let none = ap length marks in omega (arith, none)
marks_length (Some i) rs marks = let one = ap length marks.1 in omega (arith, one)

-- the readings of one more try, as a product
one_more : (t n : ℕ) → suc t * n ≡ n + t * n
one_more t n = grind arith

-- a lookup makes at most this many readings
pub lookup_length : (V : ℕ) (sh : Shape) (k t : ℕ) (rs : List Reading) (reply : Reply V) → IsLookup V sh k t rs reply → length rs ≤ t * (19 + payload V) + 1
lookup_length V sh k zero rs reply looks = let none = ap length looks.0 in omega (arith, none)
lookup_length V sh k (suc t) rs reply looks = elim looks [
  | inl again ↦ (
      let parts = ap length again.2 ∙ length-append again.0 again.1 in
      let first = spoiled_length V sh k again.0 again.3 in
      let rest = lookup_length V sh k t again.1 reply again.4 in
      let more = one_more t (19 + payload V) in
      omega (arith, parts, first, rest, more)
      )
  | inr stands ↦ (
      let parts = ap length stands.6 ∙ length-append stands.0 stands.1 in
      let first = try_length V sh k stands.0 stands.2 stands.3 stands.4 stands.4 stands.5 stands.7 in
      let rest = marks_length stands.2 stands.1 stands.8 in
      let more = one_more t (19 + payload V) in
      omega (arith, parts, first, rest, more)
      )
]
