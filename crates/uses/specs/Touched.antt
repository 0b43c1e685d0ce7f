-- What a refused put on the condition of a stamp says.
use Rattle.std.specs.Prelude.{ℕ, ◌≡◌, List, ◌∷◌, ◌++◌, Result, Err}
use Rattle.mc_cache.specs.Change.{Change}
use Rattle.mc_cache.specs.IfError.{IfError}
use Rattle.mc_cache.specs.IfError.TheVariants as why
use Rattle.mc_cache.specs.Plain.{Begins}
use Rattle.mc_cache.specs.PlainLaws.{key_of}
use Rattle.mc_cache.specs.declared.desk.DeskError.{DeskError}
use Rattle.mc_cache.specs.declared.desk.DeskError.TheVariants as desk

-- after the one history, the other has a change of the key
pub record WasTouched (h h' : List (Change 1)) (k : ℕ) : Type 0 where
  pub early : List (Change 1)
  pub change : Change 1
  pub late : List (Change 1)
  pub begins : Begins h early
  pub grew : h' ≡ early ++ change ∷ late
  pub of : key_of change ≡ k

-- if the key was there with its stamp, and is not now, it was put, removed or evicted in between
abbrev pub SaysTouched : List (Change 1) → List (Change 1) → ℕ → Result ℕ (DeskError IfError) → Type 0
SaysTouched h h' k (Err (desk.Call (why.NotThere at))) = WasTouched h h' k
SaysTouched h h' k (Err (desk.Call (why.Changed stands))) = WasTouched h h' k
SaysTouched h h' k told = Unit {0}
