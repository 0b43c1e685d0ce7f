-- An example: a key gives way, and a reader meets the writer then and looks it up in the same turn.
use Rattle.std.specs.Prelude.{ℕ, List, [], ◌∷◌, ◌++◌}
use Rattle.mc_words.specs.declared.policy.Policy.TheVariants.{Clock}
use Rattle.mc_words.specs.declared.history.Reply.TheVariants.{Absent}
use Rattle.mc_theory.specs.Lists.{Made}
use Rattle.mc_theory.specs.declared.act.Act.TheVariants.{Open, Slot, Moment, Close, Hand}
use Rattle.mc_theory.specs.declared.act.Deed.TheVariants as deed
use Rattle.mc_shared.specs.Records.{Opening, reader_record}
use Rattle.mc_shared.specs.Views.{with_bit, layout_with}
use Rattle.mc_cache.specs.Beside.{HasLookedBeside}
use Rattle.mc_executions.specs.ClearVictims.{WasClear}
use Rattle.mc_executions.specs.Example.{small, first_slot, put_whole}
use Rattle.mc_executions.specs.Executions.{TableState, IsExecution, HasActs, HasReader}
use Rattle.mc_executions.specs.TimedLookups.{IsTimed}

-- after the put of key 0 the hand finds its item's bit clear, and the key is evicted
abbrev pub evicted : List Made
evicted = put_whole ++ with_bit (Hand 0) 0 ∷ with_bit (Open 0 deed.Evict) 0 ∷ with_bit (Slot first_slot 0) 0 ∷ with_bit Moment 0 ∷ with_bit Close 0 ∷ []

-- There is an execution of this, with two readers. The second one meets the writer after the eviction, so it knows all acts, and its lookup of
-- the key beside the writer is told that the map lacks it, which is true in that state. The first reader has made no step. By the laws the
-- victim's bit was clear
pub record EvictedThenMet : Type 0 where
  pub states : ℕ → TableState
  pub run : IsExecution (layout_with 1 Clock small) states
  pub j : ℕ
  pub acts : HasActs (states j) evicted
  pub first : (of : Opening) → HasReader (reader_record of 0 [] []) (states j)
  pub second : (of : Opening) → HasReader (reader_record of 1 evicted []) (states j)
  pub looked : (of : Opening) → HasLookedBeside 1 small 0 evicted (reader_record of 1 evicted []) (reader_record of 1 evicted []) (Absent 2)
  pub timed : IsTimed 1 small states run 0 (Absent 2) j j
  pub victim : WasClear 1 small states run j 8 0
