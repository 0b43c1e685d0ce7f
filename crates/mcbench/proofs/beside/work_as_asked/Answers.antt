use denote.Param.Send.{sendable}
use Rattle.mc_cache.proofs.Sent.{desk_sync}
use Rattle.mc_cache.proofs.cache.Cache.TheSendSync.{the_sync as cache_sync}
use Rattle.mc_cache.proofs.reader.Reader.TheSendSync.{the_send as reader_send}
use Rattle.mcbench.proofs.beside.work_as_asked.Goals as goal

pub work-requires-send-C : goal.work-requires-send-C
work-requires-send-C g c κs within = search (sendable, desk_sync, cache_sync, reader_send) depth 40
