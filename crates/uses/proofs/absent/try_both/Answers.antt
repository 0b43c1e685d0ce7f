use denote.Param.Send.{param_send, sendable}
use Rattle.mc_cache.proofs.Sent.{desk_sync}
use Rattle.mc_cache.proofs.cache.Cache.TheSendSync.{the_sync as cache_sync}
use Rattle.mc_cache.proofs.reader.Reader.TheSendSync.{the_send as reader_send}
use Rattle.uses.proofs.absent.try_both.Lts.{arg-0-1}
use Rattle.uses.proofs.absent.try_both.Goals as goal

pub join_mut-requires-send-F : goal.join_mut-requires-send-F
join_mut-requires-send-F g c κs within = param_send 1 (arg-0-1 g.row.R g.R.laws g.R.Threads-dict κs) (search (sendable, desk_sync, cache_sync, reader_send) depth 30)
