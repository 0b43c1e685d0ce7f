-- What a call with this contract does: by a pass, which tries for the turn of the key's shard, and by a holder.
use Rattle.std.specs.Prelude.{ℕ, ◌≡◌, List, Result}
use Rattle.mc_shared.specs.Records.{ReaderRecord}
use Rattle.mc_cache.specs.Failing.{TurnFails, versions_seen}
use Rattle.mc_cache.specs.Plain.{TurnMeans, seen}
use Rattle.mc_cache.specs.TurnCalls.{Contract}
use Rattle.mc_cache.specs.Turns.{HasTriedTo}
use Rattle.mc_cache.specs.declared.desk.DeskError.{DeskError}
use Rattle.mc_shards.specs.Sharded.{ChangesAt, Sharded, shard_in}
use Rattle.mc_door.specs.AtShards.{HasMadeHolding, IsAtShard}
use Rattle.mc_door.specs.Roles.{Role, Tries, Holds}

-- at the key's shard the pass's record changes so, what it has seen changes so, and the call may fail so. The others stay
abbrev pub HasTriedAtShard : {V : ℕ} {T E : Type 0} → Contract V T E → Sharded → ℕ → List ReaderRecord → List ReaderRecord → Result T (DeskError E) → Type 0
HasTriedAtShard {V} c s key rs rs' tried =
    IsAtShard V s key rs rs' (λ r r'. HasTriedTo V s.shape (c.called s.shape) r r' tried) (λ h h'. TurnMeans c.means h h' tried)
    × ChangesAt (shard_in s key) rs rs' (λ r r'. TurnFails (c.fails s.shape (seen V r') (versions_seen V r')) tried)

-- a call of this key by a holder, or by a pass
abbrev pub HasCalledBy : {V : ℕ} {T E : Type 0} → Role → Role → ℕ → Contract V T E → Result T (DeskError E) → Type 0
HasCalledBy (Tries s rs) (Tries s' rs') key c tried = (s' ≡ s) × HasTriedAtShard c s key rs rs' tried
HasCalledBy (Holds s h) (Holds s' h') key c tried = (s' ≡ s) × HasMadeHolding c s key h h' tried
HasCalledBy _ _ key c tried = ⊥
