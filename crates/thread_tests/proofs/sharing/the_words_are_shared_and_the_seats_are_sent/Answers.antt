use denote.Param.Send.{sendable}
use Rattle.mc_cache.proofs.Sent.{desk_sync}
use Rattle.mc_shards.proofs.Sent.{shards_sync}
use Rattle.thread_tests.proofs.sharing.the_words_are_shared_and_the_seats_are_sent.Goals as goal

pub is_shared-requires-3-sync-T : goal.is_shared-requires-3-sync-T
is_shared-requires-3-sync-T c κs = search (sendable, desk_sync)

pub is_shared-requires-4-sync-T : goal.is_shared-requires-4-sync-T
is_shared-requires-4-sync-T c κs = search (sendable, shards_sync)
