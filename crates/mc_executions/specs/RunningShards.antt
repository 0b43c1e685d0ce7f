-- The same for shards: what the one map of all shards held, whatever the executions of the shards are and the order of their steps.
use Rattle.std.specs.Prelude.{◌≡◌, ℕ, ◌<◌, ◌≤◌, All, List, Some, length, slice_get}
use Rattle.mc_words.specs.Shapes.{IsShape}
use Rattle.mc_words.specs.declared.policy.Policy.{Policy}
use Rattle.mc_words.specs.declared.history.Change.{Change}
use Rattle.mc_words.specs.declared.history.Reply.{Reply}
use Rattle.mc_shared.specs.Records.{ReaderRecord, WriterRecord}
use Rattle.mc_shared.specs.Views.{layout_with}
use Rattle.mc_shards.specs.Holding.{Holding}
use Rattle.mc_shards.specs.Plain.{Tells}
use Rattle.mc_shards.specs.Sharded.{ChangesAt, Sharded, shard_in}
use Rattle.mc_executions.specs.Executions.{TableState, IsExecution, HasReader, HasActs}
use Rattle.mc_executions.specs.RunningCalls.{ChangesAreTimed}
use Rattle.mc_executions.specs.ShardedTime.{AreHistories, AreStepsOf}

-- An execution of each shard; of the first n steps of all shards, `steps n s` are steps of shard s; and the histories of all after n steps.
-- The shards are as they were opened: there is one, and their tables have one shape and one policy
pub record Together (V : ℕ) (policy : Policy) (of : Sharded) : Type 0 where
  pub some : 0 < length of.tables
  pub shape : IsShape of.shape
  pub tables : All (λ o. o.layout ≡ layout_with V policy of.shape) of.tables
  pub states : ℕ → ℕ → TableState
  pub runs : (s : ℕ) → IsExecution (layout_with V policy of.shape) (states s)
  pub steps : ℕ → ℕ → ℕ
  pub histories : ℕ → List (List (Change V))
  pub in_order : AreStepsOf steps
  pub are : AreHistories V of.shape (length of.tables) states runs steps histories

-- if this holds of the key's shard after i steps of all, and that after j, the one map held what the reply says after some number between
abbrev pub TellsBetween : (V : ℕ) → Sharded → ℕ → (TableState → Type 0) → (TableState → Type 0) → Reply V → Type 0
TellsBetween V of k Before After reply =
    (policy : Policy) (all : Together V policy of) (i j : ℕ) → i ≤ j → Before (all.states (shard_in of k) (all.steps i (shard_in of k))) → After (all.states (shard_in of k) (all.steps j (shard_in of k))) →
    (n : ℕ) × (i ≤ n) × (n ≤ j) × Tells of.shape.mix (all.histories n) k reply

-- a lookup by a pass: one record changes, that of the reader of the key's shard
abbrev pub PassIsTimed : (V : ℕ) → Sharded → ℕ → List ReaderRecord → List ReaderRecord → Reply V → Type 0
PassIsTimed V of k old new reply = ChangesAt (shard_in of k) old new (λ r r'. TellsBetween V of k (HasReader r) (HasReader r') reply)

-- lookups of many keys by a pass: each reply is what the one map held at a moment of the call
abbrev pub PassManyAreTimed : (V : ℕ) → Sharded → List ℕ → List ReaderRecord → List ReaderRecord → List (Reply V) → Type 0
PassManyAreTimed V of keys old new replies =
    (n k : ℕ) (reply : Reply V) (r r' : ReaderRecord) → slice_get keys n ≡ Some k → slice_get replies n ≡ Some reply →
    slice_get old (shard_in of k) ≡ Some r → slice_get new (shard_in of k) ≡ Some r' → TellsBetween V of k (HasReader r) (HasReader r') reply

-- a lookup by a holder: the same of the writer of the key's shard
abbrev pub HolderIsTimed : (V : ℕ) → Sharded → ℕ → Holding → Holding → Reply V → Type 0
HolderIsTimed V of k old new reply = ChangesAt (shard_in of k) old.writers new.writers (λ w w'. TellsBetween V of k (λ s. HasActs s w.acts) (λ s. HasActs s w'.acts) reply)

-- a call by a holder: each change of the one map takes effect at one step of the key's shard
abbrev pub HeldCallIsTimed : (V : ℕ) → Sharded → ℕ → Holding → Holding → Type 0
HeldCallIsTimed V of k old new = ChangesAt (shard_in of k) old.writers new.writers (λ w w'. ChangesAreTimed V of.shape w.acts w'.acts)

-- a holder's lookup without a mark: nothing changes, and the writer of the key's shard is this one
abbrev pub HeldPeekIsTimed : (V : ℕ) → Sharded → ℕ → Holding → Reply V → Type 0
HeldPeekIsTimed V of k h reply = (w : WriterRecord) → slice_get h.writers (shard_in of k) ≡ Some w → TellsBetween V of k (λ s. HasActs s w.acts) (λ s. HasActs s w.acts) reply
