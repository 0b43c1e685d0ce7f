-- What the books' decisions say of the state in which they were made.
use Rattle.std.specs.Prelude.{ℕ, ◌≡◌, ◌<◌, List, [], ◌∷◌, ◌++◌, length, Option, Some, None, Result, Ok, Err}
use Rattle.mc_words.specs.Chains.{NoChain}
use Rattle.mc_words.specs.Checks.{policy_of, shape_of}
use Rattle.mc_words.specs.History.{map_value}
use Rattle.mc_words.specs.KeyParts.{HasParts}
use Rattle.mc_words.specs.Standing.{Stands}
use Rattle.mc_theory.specs.States.{State}
use Rattle.mc_plan.specs.WholeCalls.{Call, IsSweepOf, PutCall, PutIfCall, RemoveCall, state_after_sweep}
use Rattle.mc_plan.specs.Books.{IsLackingKey, IsPlanned, Waits}
use Rattle.mc_plan.specs.Decisions.{removal_acts, removal_told, renewal_acts, replacement_acts, storing_acts, storing_told}
use Rattle.mc_plan.specs.declared.answer.Answer.TheVariants as answer
use Rattle.mc_plan.specs.declared.answer.Put.TheVariants as put
use Rattle.mc_plan.specs.declared.answer.IfError.{IfError}
use Rattle.mc_plan.specs.declared.answer.PutError.{PutError}
use Rattle.mc_plan.specs.declared.answer.PutError.TheVariants as refusal
use Rattle.mc_plan.specs.declared.books.Books.{Books}
use Rattle.mc_plan.specs.declared.decision.Decision.{Decision}
use Rattle.mc_plan.specs.declared.decision.Decision.TheVariants as decision
use Rattle.mc_plan.specs.declared.decision.Removal.{Removal}
use Rattle.mc_plan.specs.declared.decision.Renewal.{Renewal}
use Rattle.mc_plan.specs.declared.decision.Replacement.{Replacement}
use Rattle.mc_plan.specs.declared.decision.Storing.{Storing}
use Rattle.mc_plan.specs.declared.decision.Vacancy.{Vacancy}
use Rattle.mc_plan.specs.declared.decision.Vacancy.TheVariants as vacancy
use Rattle.mc_search.specs.declared.room.Room.{Room}
use Rattle.mc_search.specs.Sweeps.{Swept}

-- the key is not there, and both of its buckets are full: each chain from the key moves another
pub record IsCrowdedOut (V : ℕ) (books : Books) (k : ℕ) (v : List ℕ) (s : State V) (at : ℕ) : Type 0 where
  pub lacks : IsLackingKey V books k v s at
  pub full : NoChain (shape_of books.checked) s.words k 0

-- no path leads to a hole: the put is refused
abbrev pub IsWithoutPath : (V : ℕ) → Books → ℕ → List ℕ → State V → Type 0
IsWithoutPath V books k v s = IsPlanned V books [] (PutCall k v) s s (answer.Put (Err refusal.NoPath))

-- a put in state s is decided: the acts of its plan and its answer, or what is known if the key is not there
abbrev pub IsDecided : (V : ℕ) → Books → ℕ → List ℕ → State V → Decision → Type 0
IsDecided V books k v s (decision.Refuse why) =
    IsPlanned V books [] (PutCall k v) s s (answer.Put (Err why)) × IsSweepOf V (shape_of books.checked) (policy_of books.checked) s [] (answer.Put (Err why))
IsDecided V books k v s (decision.Renew item at) = IsPlanned V books (renewal_acts k v at item) (PutCall k v) s s (answer.Put (Ok (put.Renewed at)))
IsDecided V books k v s (decision.Insert at) = IsLackingKey V books k v s at

-- in state s this was found of a key that must be absent: its item and its stamp, or that it is absent
abbrev pub IsVacancy : (V : ℕ) → Books → ℕ → List ℕ → State V → Vacancy → Type 0
IsVacancy V books k v s (vacancy.Taken item since) =
    ((q : ℕ) × Stands V (shape_of books.checked) s.words k q item) × ((value : List ℕ) × (map_value s.history k ≡ Some (value ++ since ∷ [])) × (length value ≡ V))
IsVacancy V books k v s vacancy.Spent =
    (map_value s.history k ≡ None) × IsDecided V books k v s (decision.Refuse refusal.Spent)
IsVacancy V books k v s (vacancy.Free at) = (map_value s.history k ≡ None) × IsLackingKey V books k v s at

-- a put on a condition in state s is decided: it renews the key, or changes nothing
abbrev pub IsIfDecided : (V : ℕ) → Books → ℕ → ℕ → List ℕ → State V → Result Renewal IfError → Type 0
IsIfDecided V books k since v s (Ok r) = IsPlanned V books (renewal_acts k v r.at r.item) (PutIfCall k since v) s s (answer.PutIf (Ok r.at))
IsIfDecided V books k since v s (Err why) = IsPlanned V books [] (PutIfCall k since v) s s (answer.PutIf (Err why))

-- the put of a new key that finds this room in state s is decided: the acts of its plan and its answer, or it waits
abbrev pub IsInserted : (V : ℕ) → Books → ℕ → List ℕ → State V → Room → Option Storing → Type 0
IsInserted V books k v s room (Some storing) =
    (storing.item < (shape_of books.checked).items) × IsPlanned V books (storing_acts (policy_of books.checked) books.far.value.moves.items (shape_of books.checked) k v storing) (PutCall k v) s s (answer.Put (Ok (storing_told books.far.value.moves.items storing None)))
IsInserted V books k v s room None = Waits V books k v s room

-- the sweep of a put has these readings, the item that it found is taken from the victim, and the put's key is stored there
pub record IsReplaced (V : ℕ) (books : Books) (k : ℕ) (v : List ℕ) (call : Call) (s : State V) (rs : List Swept) (r : Replacement) : Type 0 where
  pub in_items : r.storing.item < (shape_of books.checked).items
  pub parts : HasParts (shape_of books.checked) r.victim.key r.victim.parts
  pub planned : IsPlanned V books (replacement_acts (policy_of books.checked) books.far.value.moves.items (shape_of books.checked) k v r) call s (state_after_sweep V (shape_of books.checked) s rs) (answer.Put (Ok (storing_told books.far.value.moves.items r.storing (Some r.victim.key))))
  pub sweeps : IsSweepOf V (shape_of books.checked) (policy_of books.checked) s rs (answer.Put (Ok (storing_told books.far.value.moves.items r.storing (Some r.victim.key))))

-- after these readings the put is refused, and changes nothing of the map
abbrev pub IsRefusedAfter : (V : ℕ) → Books → Call → State V → List Swept → PutError → Type 0
IsRefusedAfter V books call s rs why =
    IsPlanned V books [] call s (state_after_sweep V (shape_of books.checked) s rs) (answer.Put (Err why)) × IsSweepOf V (shape_of books.checked) (policy_of books.checked) s rs (answer.Put (Err why))

-- the put is decided once its sweep is over
abbrev pub IsFinished : (V : ℕ) → Books → ℕ → List ℕ → Call → State V → List Swept → Result Replacement PutError → Type 0
IsFinished V books k v call s rs (Ok r) = IsReplaced V books k v call s rs r
IsFinished V books k v call s rs (Err why) = IsRefusedAfter V books call s rs why

-- a removal in state s is decided
abbrev pub IsRemovalDecided : (V : ℕ) → Books → ℕ → State V → Removal → Type 0
IsRemovalDecided V books k s r = IsPlanned V books (removal_acts k r) (RemoveCall k) s s (answer.Remove (removal_told r))
