-- Steps on a recency word keep it coherent.
use Rattle.std.proofs.Common.{◌≡◌, ℕ, zero, suc, ◌+◌, List, [], ◌∷◌, ◌++◌, length, set, refl, ap, sym, ◌∙◌, arith}
use mathlib.Core.Option.{some, some-injective, some-ne-none}
use lib.ListN.{get_elem?}
use Rattle.mc_theory.specs.Lists.{Made}
use Rattle.mc_theory.specs.Readings.{Reading}
use Rattle.mc_shared.specs.Views.{Note}
use Rattle.mc_shared.specs.RecencyTrace.{Trace, trace_swept, trace_marked, trace_after, trace_from, is_mark_of, marks_in, Coherent, total}

-- the trace after one more act is that act on the trace before it
pub trace-push : (i : ℕ) (t : Trace) (ms : List Made) (ns : List Note) (m : Made) (n : Note) → length ns ≡ length ms → trace_from i t (ms ++ m ∷ []) (ns ++ n ∷ []) ≡ trace_after i (trace_from i t ms ns) m.act m.bit n.marks
trace-push i t [] [] m n e = refl
trace-push i t [] (y ∷ ys) m n e = absurd (omega arith)
trace-push i t (x ∷ xs) [] m n e = absurd (omega arith)
trace-push i t (x ∷ xs) (y ∷ ys) m n e = trace-push i (trace_after i t x.act x.bit y.marks) xs ys m n (omega arith)

-- the hand reads the bit and clears it
pub coherent_swept : (t : Trace) (marks bit : ℕ) → Coherent t marks bit → Coherent (trace_swept t bit marks) marks 0
coherent_swept t marks bit c = let a = c.is in let b = c.seen in let d = c.right in record { is = omega arith; seen = omega arith; right = omega arith }

-- the writer marks it
pub coherent_touched : (t : Trace) (marks bit : ℕ) → Coherent t marks bit → Coherent (trace_marked t) marks 1
coherent_touched t marks bit c = record { is = omega arith; seen = c.seen; right = c.right }

-- a reader marks it
pub coherent_marked : (t : Trace) (marks bit : ℕ) → Coherent t marks bit → Coherent t (marks + 1) 1
coherent_marked t marks bit c = let b = c.seen in record { is = omega arith; seen = omega arith; right = c.right }

-- ---- what the rule leaves no choice in
-- if nothing is recorded of an item, its bit stays
pub bit_stays : (t : Trace) (marks bit bit' : ℕ) → Coherent t marks bit → Coherent t marks bit' → bit' ≡ bit
bit_stays t marks bit bit' c d = d.is ∙ sym c.is

-- after a mark of a reader, the bit is set
pub marked_is_set : (t : Trace) (marks bit bit' : ℕ) → Coherent t marks bit → Coherent t (marks + 1) bit' → bit' ≡ 1
marked_is_set t marks bit bit' c d = let a = c.seen in let b = d.is in omega arith

-- a hand that leaves the bit clear reported the bit that was there, and counted all marks
pub swept_is_told : (t : Trace) (marks n bit told : ℕ) → Coherent t marks bit → Coherent (trace_swept t told n) marks 0 → (told ≡ bit) × (n ≡ marks)
swept_is_told t marks n bit told c d =
    let a = c.is in let b = c.seen in let e = c.right in let x = d.is in let y = d.seen in let z = d.right in
    let all : n ≡ marks = omega arith in
    (omega (arith, all), all)

-- one more entry is one more mark if it marks the item
pub marks_in-push : (i : ℕ) (r : Reading) (done : List Reading) → marks_in i (done ++ r ∷ []) ≡ marks_in i done + is_mark_of i r.access
marks_in-push i r [] = omega arith
marks_in-push i r (x ∷ xs) = let e = marks_in-push i r xs in omega arith

-- a total changes by as much as the one element that is replaced
pub total_set : {V : Type 0} (f : V → ℕ) (vs : List V) (i : ℕ) (v w : V) → get_elem? vs i ≡ some v → total f (set vs i w) + f v ≡ total f vs + f w
total_set f [] i v w e = absurd (some-ne-none v (sym e))
total_set f (x ∷ xs) zero v w e = let s : f x ≡ f v = ap f (some-injective _ _ e) in omega arith
total_set f (x ∷ xs) (suc i) v w e = let r = total_set f xs i v w e in omega arith

-- and grows by the element that is added
pub total_push : {V : Type 0} (f : V → ℕ) (vs : List V) (w : V) → total f (vs ++ w ∷ []) ≡ total f vs + f w
total_push f [] w = omega arith
total_push f (x ∷ xs) w = let r = total_push f xs w in omega arith
