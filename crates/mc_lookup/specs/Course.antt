-- What is left of a lookup begins with the access that comes next, and there is always a way to its end.
use Rattle.std.specs.Prelude.{ℕ, ◌≡◌, List, [], ◌∷◌, Option, Some, None}
use Rattle.mc_words.specs.declared.history.Reply.{Reply}
use Rattle.mc_lookup.specs.Machine.{next_access, shape_for, IsRemainder}
use Rattle.mc_theory.specs.Readings.{Reading}
use Rattle.mc_theory.specs.Writes.{IsAccess}
use Rattle.mc_theory.specs.declared.access.Access.{Access}
use Rattle.mc_lookup.specs.declared.lookup.Lookup.{Lookup}

-- the readings begin with one by this access; if there is none, there are no readings, and the reply is that of the lookup
abbrev pub BeginsWith : {V : ℕ} → Lookup V → Option Access → List Reading → Reply V → Type 0
BeginsWith l (Some a) rs reply = (r : Reading) × (more : List Reading) × (rs ≡ r ∷ more) × (r.access ≡ a)
BeginsWith l None rs reply = (rs ≡ []) × (reply ≡ l.reply)

-- the access that comes next is the only one with which the lookup can continue
abbrev pub NextIsDetermined : ℕ → Type 0
NextIsDetermined V = (l : Lookup V) (rs : List Reading) (reply : Reply V) → IsRemainder l rs reply → BeginsWith l (next_access l) rs reply

-- it is one of the table
abbrev pub NextIsInTable : ℕ → Type 0
NextIsInTable V = (l : Lookup V) (a : Access) → next_access l ≡ Some a → IsAccess V (shape_for l) a

-- some readings end the lookup
abbrev pub CanEnd : ℕ → Type 0
CanEnd V = (l : Lookup V) → (rs : List Reading) × (reply : Reply V) × IsRemainder l rs reply
