use denote.Param.Send.{param_sync, sendable}
use Rattle.mc_shards.proofs.Sent.{shards_sync}
use Rattle.thread_tests.proofs.turns.Meeting.TheSendSync.{the_sync as meeting_sync}
use Rattle.thread_tests.proofs.shard_calls.call_in_threads.Lts.{arg-2-4}
use Rattle.thread_tests.proofs.shard_calls.call_in_threads.Goals as goal

pub map_vec-requires-sync-F : goal.map_vec-requires-sync-F
map_vec-requires-sync-F g c κs within = param_sync 4 (arg-2-4 g.row.R g.R.laws g.R.Threads-dict κs) (search (sendable, shards_sync, meeting_sync) depth 30)
