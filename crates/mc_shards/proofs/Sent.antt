-- Shards may be lent to threads, and a pass may be sent from one thread to another.
use denote.RattleType.{RattleType}
use denote.Param.Send.{IsSend, IsSync, sendable}
use Rattle.std.proofs.Crossing.{crosses}
use Rattle.mc_shards.proofs.lender.Lender.TheSendSync.{the_sync as lender_sync}
use Rattle.mc_shards.proofs.lending.Turn.TheSendSync.{the_send as turn_send}
use Rattle.mc_cache.proofs.Sent.{reader_sync}
use Rattle.mc_cache.proofs.cache.Cache.TheSendSync.{the_sync as cache_sync}
use Rattle.mc_cache.proofs.reader.Reader.TheSendSync.{the_send as reader_send}
use Rattle.mc_shards.specs.contracts.shards.Shards as shards
use Rattle.mc_shards.specs.contracts.holding.Holder as holder
use Rattle.mc_shards.specs.contracts.pass.Pass as pass
use Rattle.mc_shards.specs.contracts.spares.Spares as spares

pub shards_sync : (V : RattleType) → IsSync (shards.the_row V)
shards_sync V = search (sendable, crosses, lender_sync, cache_sync) depth 30

pub pass_send : (V : RattleType) → IsSend (pass.the_row V)
pass_send V = search (sendable, crosses, reader_send, turn_send) depth 30

pub holder_send : (V : RattleType) → IsSend (holder.the_row V)
holder_send V = search (sendable, crosses, reader_send, turn_send) depth 30

pub spares_send : (V : RattleType) → IsSend (spares.the_field V).row
spares_send V = search (sendable, crosses, reader_send) depth 30

pub spares_sync : (V : RattleType) → IsSync (spares.the_field V).row
spares_sync V = search (sendable, crosses, reader_sync) depth 30
