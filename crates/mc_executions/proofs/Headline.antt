-- The headline: its clauses are laws.
use Rattle.std.proofs.Common.{ℕ}
use Rattle.mc_executions.specs.Headline.{Headline}
use Rattle.mc_executions.proofs.ActingWriters.{writers_may_act}
use Rattle.mc_executions.proofs.ClearVictims.{victims_were_clear}
use Rattle.mc_executions.proofs.EvictionExample.{evicted_then_met}
use Rattle.mc_executions.proofs.Example.{put_beside_get}
use Rattle.mc_executions.proofs.ExecutionTraces.{executions_are_traces}
use Rattle.mc_executions.proofs.Fallbacks.{fallbacks_are_timed}
use Rattle.mc_executions.proofs.GrownExecutions.{executions_grow, readers_may_come}
use Rattle.mc_executions.proofs.Linearizable.{calls_are_linearizable}
use Rattle.mc_executions.proofs.RunningSteps.{each_is_a_step}
use Rattle.mc_executions.proofs.ShardedTime.{shards_are_timed}
use Rattle.mc_executions.proofs.TimedChanges.{changes_are_steps}
use Rattle.mc_executions.proofs.TimedLookups.{gets_are_timed, lookups_are_timed, many_are_timed}
use Rattle.mc_executions.proofs.TracedCalls.{calls_keep_whole}
use Rattle.mc_executions.proofs.TimeOrder.{moments_keep_order, writes_are_seen}

pub headline : (V : ℕ) → Headline V
headline V = record {
  every_order = (executions_grow, readers_may_come, writers_may_act);
  one_model = (executions_are_traces V, calls_keep_whole V);
  each_completed_lookup = lookups_are_timed V;
  each_call = (gets_are_timed V, many_are_timed V, fallbacks_are_timed V, shards_are_timed V);
  each_change = changes_are_steps V;
  linearizable = calls_are_linearizable V;
  in_order = (moments_keep_order V, writes_are_seen V);
  every_victim = victims_were_clear V;
  each_atomic_step = each_is_a_step;
  examples = (put_beside_get, evicted_then_met);
}
