-- What the writes of one key mean: by a holder, and by a pass in a turn.
use Rattle.std.specs.Prelude.{ℕ, ◌≡◌, List, Result, length}
use Rattle.mc_cache.specs.CallContracts.{put_bounded_contract, put_contract, put_if_absent_bounded_contract, put_if_absent_contract, put_if_contract, remove_contract}
use Rattle.mc_cache.specs.TurnCalls.{Contract}
use Rattle.mc_cache.specs.declared.bounding.BoundedError.{BoundedError}
use Rattle.mc_cache.specs.declared.bounding.BoundedPut.{BoundedPut}
use Rattle.mc_plan.specs.declared.answer.EvictError.{EvictError}
use Rattle.mc_plan.specs.declared.answer.AbsentError.{AbsentError}
use Rattle.mc_plan.specs.declared.answer.IfError.{IfError}
use Rattle.mc_plan.specs.declared.answer.Put.{Put}
use Rattle.mc_plan.specs.declared.answer.PutError.{PutError}
use Rattle.mc_plan.specs.declared.answer.Remove.{Remove}
use Rattle.mc_plan.specs.declared.answer.Spent.{Spent}
use Rattle.mc_door.specs.Roles.{Role}
use Rattle.mc_door.specs.Tellings.{absent_put_bounded_told, put_bounded_told, put_if_absent_told, put_if_told, put_told, removal_told, turn_told}
use Rattle.mc_door.specs.Tells.{HasTold, Tells}
use Rattle.mc_door.specs.Turns.{HasCalledBy}
use Rattle.mc_door.specs.declared.outcome.Outcome.{Outcome}
use Rattle.mc_door.specs.declared.write.Write.{Write}
use Rattle.mc_door.specs.declared.write.Write.TheVariants as call

-- how many words the value has; as many as those of the cache if there is none
abbrev pub words_in : ℕ → Write → List ℕ → ℕ
words_in V call.Remove v = V
words_in V _ v = length v

-- the contract of each write, and how its answer is told
abbrev pub WriteIs : (V : ℕ) → ((T E : Type 0) → Contract V T E → (Result T E → Outcome) → Type 0) → ℕ → Write → List ℕ → Type 0
WriteIs V Is key call.Put v = Is Put PutError (put_contract V key v) put_told
WriteIs V Is key (call.PutWithin tries) v = Is Put PutError (put_contract V key v) put_told
WriteIs V Is key (call.PutIf since) v = Is ℕ IfError (put_if_contract V key since v) put_if_told
WriteIs V Is key call.PutIfAbsent v = Is Put AbsentError (put_if_absent_contract V key v) put_if_absent_told
WriteIs V Is key (call.PutBounded most) v = Is BoundedPut EvictError (put_bounded_contract V key most v) put_bounded_told
WriteIs V Is key (call.PutIfAbsentBounded most) v = Is BoundedPut BoundedError (put_if_absent_bounded_contract V key most v) absent_put_bounded_told
WriteIs V Is key call.Remove v = Is Remove Spent (remove_contract V key) removal_told

-- a write by a holder, or by a pass, which tries for the turn
abbrev pub WriteMeans : (V : ℕ) → Role → Role → ℕ → Write → List ℕ → Outcome → Type 0
WriteMeans V role role' key call v told =
    (words_in V call v ≡ V) × WriteIs V (λ T E c tells. HasTold (turn_told tells) (λ a. HasCalledBy role role' key c a) told) key call v

-- what writes return. `Same`: the side is unchanged
abbrev pub WriteTells : (V : ℕ) → Role → Role → Type 0 → ℕ → Write → List ℕ → Outcome → Type 0
WriteTells V role role' Same key call v told = Tells V (words_in V call v) Same (WriteMeans V role role' key call v told) told
