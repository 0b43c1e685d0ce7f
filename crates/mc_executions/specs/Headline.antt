-- The headline: for every order of a lawful writer's and any readers' atomic steps, each completed lookup answers what the map of the
-- writer's changes held of its key at one moment between the lookup's first and last step; every victim's recency bit was clear when the
-- hand read it; each atomic step of the running cache is one of these steps.
use Rattle.std.specs.Prelude.{ℕ}
use Rattle.mc_executions.specs.ClearVictims.{VictimsWereClear}
use Rattle.mc_executions.specs.EvictionExample.{EvictedThenMet}
use Rattle.mc_executions.specs.Example.{PutBesideGet}
use Rattle.mc_executions.specs.ExecutionTraces.{ExecutionsAreTraces}
use Rattle.mc_executions.specs.GrownExecutions.{AllExecutionsGrow, AllReadersMayCome, AllWritersMayAct}
use Rattle.mc_executions.specs.Linearizable.{CallsAreLinearizable}
use Rattle.mc_executions.specs.RunningSteps.{EachIsAStep}
use Rattle.mc_executions.specs.ShardedTime.{ShardsAreTimed}
use Rattle.mc_executions.specs.TimedLookups.{FallbacksAreTimed, GetsAreTimed, LookupsAreTimed, ManyAreTimed}
use Rattle.mc_executions.specs.TracedCalls.{CallsKeepWhole}
use Rattle.mc_executions.specs.TimeOrder.{ChangesAreSteps, MomentsKeepOrder, WritesAreSeen}

-- the values have V words
pub record Headline (V : ℕ) : Type 0 where
  -- every order that keeps the rule is an execution, and what follows holds of every execution. Any reader may come and read any word next,
  -- and the writer may make any lawful act next
  pub every_order : AllExecutionsGrow × AllReadersMayCome × AllWritersMayAct
  -- each is a trace of the sequential model, if readers' records are made of lookups and marks. Their calls make them so
  pub one_model : ExecutionsAreTraces V × CallsKeepWhole V
  -- a lookup's moment is between its first step and its last
  pub each_completed_lookup : LookupsAreTimed V
  -- so the reply of each call is true at a moment between call and return: by itself, in a batch, in a turn, and of shards all together
  pub each_call : GetsAreTimed V × ManyAreTimed V × FallbacksAreTimed V × ShardsAreTimed V
  -- each change takes effect at one step of the writer
  pub each_change : ChangesAreSteps V
  -- so any calls are linearizable
  pub linearizable : CallsAreLinearizable V
  -- moments are in the order of time
  pub in_order : MomentsKeepOrder V × WritesAreSeen V
  pub every_victim : VictimsWereClear V
  pub each_atomic_step : EachIsAStep
  -- there is an execution with a put and a lookup of its key that overlap, and one with an eviction, two readers and a meeting
  pub examples : PutBesideGet × EvictedThenMet
