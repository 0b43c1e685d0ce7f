use Rattle.std.specs.Prelude.{Result}
use Rattle.std.proofs.Common.{List, ap, subst}
use Rattle.mc_shared.specs.Records.{ReaderRecord}
use Rattle.mc_cache.specs.Turns.{HasTriedTo}
use Rattle.mc_cache.specs.declared.desk.DeskError.{DeskError}
use Rattle.mc_shards.proofs.Dealt.{unchanged}
use Rattle.mc_shards.specs.Sharded.{ChangesAt, shard_in}
use Rattle.mc_door.specs.Roles.{Tries}
use Rattle.mc_door.proofs.pass_side.PassSideCaller.try_call.Goals as goal

pub returns-clause-held : goal.returns-clause-held
returns-clause-held g c held =
    let s = c.deref.result.now.shards in
    let n = shard_in s (g.C.Keyed.key_of c.args.call) in
    let rs = c.args.self.now.pass in
    let rs' = c.try_call.new.self in
    let goes = subst (λ (told : Result g.row.T.Denot (DeskError g.row.E.Denot)). ChangesAt n rs rs' (λ r r'. HasTriedTo g.row.V s.shape ((g.C.TurnCall.contract c.args.call).called s.shape) r r' told)) held c.try_call.ensures.turn in
    ap (λ (now : List ReaderRecord). Tries c.args.self.now.shared.value.shards now) (unchanged n rs rs' goes)
