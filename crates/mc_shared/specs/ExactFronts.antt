-- At which front a reader's entry stands: at that of all acts which were made by then, neither more nor fewer.
use Rattle.std.specs.Prelude.{ℕ, suc, ◌≡◌, ◌+◌, ◌-◌, ◌≤◌, List, [], ◌∷◌, length, slice_index}
use Rattle.mc_theory.specs.Lists.{Made}
use Rattle.mc_theory.specs.Readings.{Reading}
use Rattle.mc_theory.specs.declared.access.Access.{Access}
use Rattle.mc_theory.specs.declared.access.Access.TheVariants.{Mark}
use Rattle.mc_shared.specs.Views.{Note}

-- how many entries the record of this reader had when the act of the note was made
abbrev pub steps_by : ℕ → Note → ℕ
steps_by a t = slice_index t.steps a

-- the notes do not fall, from f on, and end by g: what a reader did is never undone
abbrev pub StepsRise : ℕ → ℕ → List Note → ℕ → Type 0
StepsRise a f [] g = f ≤ g
StepsRise a f (t ∷ ts) g = (f ≤ steps_by a t) × StepsRise a (steps_by a t) ts g

-- how many of these acts were made when the record of this reader had at most n entries
abbrev pub made_by : ℕ → ℕ → List Note → ℕ
made_by a n [] = 0
made_by a n (t ∷ ts) = (1 - (steps_by a t - n)) + made_by a n ts

-- the access is no mark
abbrev pub IsReading : Access → Type 0
IsReading (Mark i) = ⊥
IsReading _ = Unit {0}

-- a reading stands at the front of all acts that were made by then; a mark, which reads nothing, at one of them
abbrev pub StandsAt : Access → ℕ → ℕ → Type 0
StandsAt (Mark i) front made = front ≤ made
StandsAt _ front made = front ≡ made

-- each entry does, from entry n on
abbrev pub StandAt : ℕ → List Note → ℕ → List Reading → Type 0
StandAt a notes n [] = Unit {0}
StandAt a notes n (r ∷ rs) = StandsAt r.access r.front (made_by a n notes) × StandAt a notes (suc n) rs

-- the record of this reader stands among these acts as it was made
pub record IsExact (a : ℕ) (notes : List Note) (done : List Reading) : Type 0 where
  pub rise : StepsRise a 0 notes (length done)
  pub fronts : StandAt a notes 0 done

-- the notes are those of these acts, and the entries of the reader with this number stand in the order of these notes: each reading comes
-- right after the acts of its front
pub record InOneOrder (acts : List Made) (notes : List Note) (number : ℕ) (done : List Reading) : Type 0 where
  pub paired : length notes ≡ length acts
  pub exact : IsExact number notes done
