-- The same for the calls from C.
use Rattle.std.specs.Prelude.{◌≡◌, ℕ, ◌^◌, ◌<◌, List, Option, Some, length}
use Rattle.mc_words.specs.declared.history.Reply.{Reply}
use Rattle.mc_door.specs.AnySides.{role_in, width_of}
use Rattle.mc_door.specs.Looks.{reply_of}
use Rattle.mc_door.specs.Means.{GetOrTurnTells, GetTells}
use Rattle.mc_door.specs.Peeks.{answer_of, peek_told}
use Rattle.mc_door.specs.Roles.{Role, Tries, Holds}
use Rattle.mc_door.specs.Tellings.{lookup_told}
use Rattle.mc_door.specs.Tells.{HasTold, Tells}
use Rattle.mc_door.specs.declared.any_side.AnySide.{AnySide}
use Rattle.mc_door.specs.declared.outcome.Outcome.{Outcome}
use Rattle.mc_shards.specs.Holding.{IsHolderOf}
use Rattle.mc_executions.specs.RunningShards.{HeldPeekIsTimed, HolderIsTimed, PassIsTimed}

-- a lookup by either role
abbrev pub IsTimedBy : (V : ℕ) → Role → Role → ℕ → Reply V → Type 0
IsTimedBy V (Tries s rs) (Tries s' rs') k reply = PassIsTimed V s k rs rs' reply
IsTimedBy V (Holds s h) (Holds s' h') k reply = HolderIsTimed V s k h h' reply
IsTimedBy V _ _ k reply = ⊥

-- What was returned is the answer of such a lookup, with its value in these words. Or the value has another width, and nothing has changed
abbrev pub TellsTimed : (V : ℕ) → Role → Role → Type 0 → ℕ → List ℕ → List ℕ → Outcome → Type 0
TellsTimed V role role' Same k old new told = Tells V (length old) (Same × (new ≡ old)) (HasTold lookup_told (λ made. IsTimedBy V role role' k (reply_of V new made)) told) told

-- A lookup that marks nothing. By a holder of these shards it is timed. By a pass it is a try, of which no law says in which state its turn
-- was got
abbrev pub PeekIsTimedBy : (V : ℕ) → Role → ℕ → Option (Reply V) → Type 0
PeekIsTimedBy V (Holds s h) k (Some reply) = IsHolderOf s h → HeldPeekIsTimed V s k h reply
PeekIsTimedBy V _ k answer = Unit {0}

abbrev pub PeekTellsTimed : (V : ℕ) → Role → Type 0 → ℕ → List ℕ → List ℕ → Outcome → Type 0
PeekTellsTimed V role Same k old new told = Tells V (length old) (Same × (new ≡ old)) (HasTold peek_told (λ made. PeekIsTimedBy V role k (answer_of V new made)) told) told

-- Whatever returns what `GetTells` or `GetOrTurnTells` says by a handle for C, as each export's contract has it, returns such an answer
abbrev pub AnswersAreTimed : Type 0
AnswersAreTimed =
    (side side' : AnySide) (k : ℕ) (old new : List ℕ) (told : Outcome) → k < 2 ^ 64 →
    let V = width_of side in
    (GetTells V (role_in side) (role_in side') (side' ≡ side) k old new told → TellsTimed V (role_in side) (role_in side') (side' ≡ side) k old new told) ×
    (GetOrTurnTells V (role_in side) (role_in side') (side' ≡ side) k old new told → TellsTimed V (role_in side) (role_in side') (side' ≡ side) k old new told)
