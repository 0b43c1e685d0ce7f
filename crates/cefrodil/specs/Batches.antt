-- Puts of many keys in one call. Their values are stored one after the other.
use Rattle.std.specs.Prelude.{ℕ, ◌≡◌, ◌⊎◌, ◌*◌, List, length}
use mathlib.Core.Option.{Option}
use Rattle.mc_cache.specs.Batches.{InOrder}
use Rattle.mc_door.specs.AnySides.{role_in, width_of}
use Rattle.mc_door.specs.Batches.{entries_of, put_answer}
use Rattle.mc_door.specs.Roles.{Role}
use Rattle.mc_door.specs.Writes.{WriteTells}
use Rattle.mc_door.specs.declared.any_side.AnySide.{AnySide}
use Rattle.mc_door.specs.declared.status.TheConstants.{OK, CLOSED}
use Rattle.mc_door.specs.declared.outcome.Outcome.{Outcome}
use Rattle.mc_door.specs.declared.outcome.RawPut.{RawPut}
use Rattle.mc_door.specs.declared.write.Write.TheVariants.{Put}
use Rattle.cefrodil.specs.Calls.{Gives}
use Rattle.cefrodil.specs.Many.{IsManyMisuse}

-- a put of the entry by a side for values of V words: this was returned
pub record HasPutEntry (V : ℕ) (entry : ℕ × List ℕ) (role role' : Role) (answer : RawPut) : Type 0 where
  pub told : Outcome
  pub is : answer ≡ put_answer told
  pub tells : WriteTells V role role' (role' ≡ role) entry.0 Put entry.1 told

-- one put for each key, in their order, each with its answer, and nothing else
abbrev pub HavePut : ℕ → Role → Role → List ℕ → List ℕ → List RawPut → Type 0
HavePut V role role' keys values answers = InOrder (HasPutEntry V) (entries_of V keys values) role role' answers

-- a put of each key was made, or nothing was done
abbrev pub MeansPuts : AnySide → AnySide → List ℕ → List ℕ → List RawPut → List RawPut → ℕ → Type 0
MeansPuts h h' keys values answers answers' status =
    ((status ≡ OK) × (length values ≡ length keys * width_of h) × (width_of h' ≡ width_of h) × HavePut (width_of h) (role_in h) (role_in h') keys values answers') ⊎
    (IsManyMisuse h (length keys) (length values) (length answers) status × (h' ≡ h) × (answers' ≡ answers))

abbrev pub PutsGive : Option AnySide → Option AnySide → List ℕ → List ℕ → List RawPut → List RawPut → ℕ → Type 0
PutsGive b b' keys values answers answers' status =
    Gives b b' ((status ≡ CLOSED) × (answers' ≡ answers)) (λ h h'. MeansPuts h h' keys values answers answers' status)
