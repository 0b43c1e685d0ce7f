use Rattle.std.proofs.Common.{subst, sym}
use Rattle.mc_plan.specs.WholeCalls.Call.{PutCall}
use Rattle.mc_plan.specs.declared.answer.Answer.TheVariants as answer
use Rattle.mc_cache.specs.Turns.{HasTried}
use Rattle.mc_shards.specs.Sharded.{ChangesAt, shard_in}
use Rattle.mc_load.specs.Inside.Handles.{place_of, records_of}
use Rattle.mc_load.specs.declared.handle.Handle.{Handle}
use Rattle.mc_load.proofs.OneShard.{desk_changes, nothing_changes}
use Rattle.mc_load.proofs.handle.Handle.try_put.Goals as goal

pub returns-in-Cache-clause-turn : goal.returns-in-Cache-clause-turn
returns-in-Cache-clause-turn g c = nothing_changes c.args.self.now _ c.args.key c.in-Cache.is

pub returns-in-Desk-clause-turn : goal.returns-in-Desk-clause-turn
returns-in-Desk-clause-turn g c =
    desk_changes c.args.self.now c.in-Desk.held c.args.key c.try_put.new.pass (λ sh r r'. HasTried g.row.V sh (PutCall c.args.key c.args.value) answer.Put r r' c.try_put.result) c.in-Desk.is c.try_put.ensures.turn

pub returns-in-Shards-clause-turn : goal.returns-in-Shards-clause-turn
returns-in-Shards-clause-turn g c =
    subst (λ (h : Handle g.row.V). ChangesAt (shard_in (place_of h) c.args.key) (records_of h) c.try_put-in-Shards.new.self (λ r r'. HasTried g.row.V (place_of h).shape (PutCall c.args.key c.args.value) answer.Put r r' c.try_put-in-Shards.result))
    (sym c.in-Shards.is) c.try_put-in-Shards.ensures.turn
