-- How the acts, the marks of readers and the recency bit of an item are related.
use Rattle.std.specs.Prelude.{◌≡◌, ℕ, ◌+◌, ◌-◌, ◌≤◌, ◌==◌, List, [], ◌∷◌, if◌then◌else◌}
use Rattle.mc_theory.specs.Lists.{Made}
use Rattle.mc_theory.specs.Readings.{Reading}
use Rattle.mc_theory.specs.declared.access.Access.{Access}
use Rattle.mc_theory.specs.declared.access.Access.TheVariants as access
use Rattle.mc_theory.specs.declared.act.Act.{Act}
use Rattle.mc_theory.specs.declared.act.Act.TheVariants.{Hand, Mark}
use Rattle.mc_shared.specs.Views.{Note}

-- of one item: 1 if the writer marked it since the hand was there, how many marks readers had made when the hand was there, and how much
-- the hand reported wrongly
pub record Trace : Type 0 where
  pub own : ℕ
  pub seen : ℕ
  pub wrong : ℕ

-- the bit that is due after this many marks of readers: 1 if the item was marked since the hand was there, else 0
abbrev pub due_bit : Trace → ℕ → ℕ
due_bit t marks = 1 - (1 - (t.own + (marks - t.seen)))

-- the hand reported the bit and cleared it, after this many marks
abbrev pub trace_swept : Trace → ℕ → ℕ → Trace
trace_swept t bit marks = record { own = 0; seen = marks; wrong = t.wrong + (bit - due_bit t marks) + (due_bit t marks - bit) + (t.seen - marks) }

-- the writer marked it
abbrev pub trace_marked : Trace → Trace
trace_marked t = record { own = 1; seen = t.seen; wrong = t.wrong }

abbrev pub trace_after : ℕ → Trace → Act → ℕ → ℕ → Trace
trace_after i t (Hand j) bit marks = if j == i then trace_swept t bit marks else t
trace_after i t (Mark j) bit marks = if j == i then trace_marked t else t
trace_after i t _ bit marks = t

abbrev pub trace_from : ℕ → Trace → List Made → List Note → Trace
trace_from i t [] notes = t
trace_from i t (m ∷ ms) [] = trace_from i (trace_after i t m.act m.bit 0) ms []
trace_from i t (m ∷ ms) (n ∷ ns) = trace_from i (trace_after i t m.act m.bit n.marks) ms ns

abbrev pub new_trace : Trace
new_trace = record { own = 0; seen = 0; wrong = 0 }

-- what the acts and their notes say of the item
abbrev pub trace_of : ℕ → List Made → List Note → Trace
trace_of i acts notes = trace_from i new_trace acts notes

abbrev pub is_mark_of : ℕ → Access → ℕ
is_mark_of i (access.Mark j) = if j == i then 1 else 0
is_mark_of i _ = 0

-- how many marks of the item these are
abbrev pub marks_in : ℕ → List Reading → ℕ
marks_in i [] = 0
marks_in i (r ∷ rs) = is_mark_of i r.access + marks_in i rs

-- the bit is the one that is due, and the hand reported none wrongly
pub record Coherent (t : Trace) (marks bit : ℕ) : Type 0 where
  pub is : bit ≡ due_bit t marks
  pub seen : t.seen ≤ marks
  pub right : t.wrong ≡ 0

-- f of each of them, added up
abbrev pub total : {A : Type 0} → (A → ℕ) → List A → ℕ
total f [] = 0
total f (x ∷ xs) = f x + total f xs
