-- Lookups of shards in time: what the one map of all shards holds in a state of all.
use Rattle.std.specs.Prelude.{◌≡◌, ◌⊎◌, ℕ, suc, ◌<◌, ◌≤◌, List, [], length, slice_index_or}
use Rattle.mc_words.specs.declared.policy.Policy.{Policy}
use Rattle.mc_words.specs.Keys.{shard_of}
use Rattle.mc_words.specs.declared.history.Change.{Change}
use Rattle.mc_words.specs.declared.history.Reply.{Reply}
use Rattle.mc_words.specs.declared.shape.Shape.{Shape}
use Rattle.mc_shared.specs.Views.{layout_with}
use Rattle.mc_shards.specs.Plain.{Tells}
use Rattle.mc_executions.specs.Executions.{TableState, IsExecution}
use Rattle.mc_executions.specs.TimedLookups.{IsTimed, history_at}

-- Each shard is a table with an execution of its own. Of the first n steps of all shards, `steps n s` are steps of shard s
pub record AreStepsOf (steps : ℕ → ℕ → ℕ) : Type 0 where
  pub none : (s : ℕ) → steps 0 s ≡ 0
  pub one : (n s : ℕ) → (steps (suc n) s ≡ steps n s) ⊎ (steps (suc n) s ≡ suc (steps n s))

-- the histories of all shards after the first n steps
pub record AreHistories (V : ℕ) {policy : Policy} (sh : Shape) (count : ℕ) (states : ℕ → ℕ → TableState) (runs : (s : ℕ) → IsExecution (layout_with V policy sh) (states s)) (steps : ℕ → ℕ → ℕ) (hs : ℕ → List (List (Change V))) : Type 0 where
  pub many : (n : ℕ) → length (hs n) ≡ count
  pub each : (n s : ℕ) → s < count → slice_index_or (hs n) s [] ≡ history_at V sh (states s) (runs s) (steps n s)

-- A lookup of a key is one in the key's shard. If its reply is true between two states of that shard, the one map of all shards holds it
-- after some number of steps of all, at which the shard is between these two
abbrev pub ShardsAreTimed : ℕ → Type 0
ShardsAreTimed V =
    (policy : Policy) (sh : Shape) (count : ℕ) (states : ℕ → ℕ → TableState) (runs : (s : ℕ) → IsExecution (layout_with V policy sh) (states s)) (steps : ℕ → ℕ → ℕ) (hs : ℕ → List (List (Change V))) (i j k first last : ℕ) (reply : Reply V) →
    AreStepsOf steps → AreHistories V sh count states runs steps hs → i ≤ j →
    let s = shard_of sh.mix count k in
    s < count → steps i s ≤ first → last ≤ steps j s → IsTimed V sh (states s) (runs s) k reply first last →
    (n : ℕ) × (i ≤ n) × (n ≤ j) × (first ≤ steps n s) × (steps n s ≤ last) × Tells sh.mix (hs n) k reply
