-- What the writer has done of a deed.
use Rattle.std.specs.Prelude.{ℕ, Bool, true, false, List, [], Option, Some, None}
use Rattle.mc_theory.specs.declared.act.Deed.{Deed}
use Rattle.mc_theory.specs.declared.act.Deed.TheVariants as deed

pub data Phase : Type 0 where
  Quiet : Phase
  -- a fill was opened
  Filling : (k : ℕ) → Phase
  -- the key and these words after it were written, of item i
  Keyed : (k i : ℕ) (written : List ℕ) → Phase
  -- the slot names item i, and the moment is owed
  Placed : (k i : ℕ) (written : List ℕ) → Phase
  -- these words after the key were written, of the key's item
  Renewing : (k : ℕ) (written : List ℕ) → Phase
  -- a removal or an eviction was opened
  Removing : (k : ℕ) (evicts : Bool) → Phase
  -- the slot was cleared, and the moment is owed
  Removed : (k : ℕ) (evicts : Bool) → Phase
  -- a move was opened
  Moving : (k : ℕ) → Phase
  -- this slot was written, and the other slot of the key is to be cleared
  Moved : (k fresh : ℕ) → Phase
  -- all was done but the close
  Closing : (k : ℕ) → Phase

-- the key of the running deed
abbrev pub deed_key : Phase → Option ℕ
deed_key Quiet = None
deed_key (Filling k) = Some k
deed_key (Keyed k i xs) = Some k
deed_key (Placed k i xs) = Some k
deed_key (Renewing k xs) = Some k
deed_key (Removing k e) = Some k
deed_key (Removed k e) = Some k
deed_key (Moving k) = Some k
deed_key (Moved k fresh) = Some k
deed_key (Closing k) = Some k

-- the phase in which a deed begins
abbrev pub first_phase : ℕ → Deed → Phase
first_phase k deed.Fill = Filling k
first_phase k deed.Renew = Renewing k []
first_phase k deed.Remove = Removing k false
first_phase k deed.Evict = Removing k true
first_phase k deed.Move = Moving k

-- 1 if the moment of the running deed is still to come
abbrev pub moment_owed : Phase → ℕ
moment_owed (Filling k) = 1
moment_owed (Keyed k i xs) = 1
moment_owed (Placed k i xs) = 1
moment_owed (Renewing k xs) = 1
moment_owed (Removing k e) = 1
moment_owed (Removed k e) = 1
moment_owed _ = 0

-- 1 while a deed runs, whose close is still to come
abbrev pub close_owed : Phase → ℕ
close_owed Quiet = 0
close_owed _ = 1
