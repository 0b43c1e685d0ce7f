use Rattle.std.proofs.Common.{ap, subst, sym}
use Rattle.mc_door.specs.Roles.{role_of}
use Rattle.mc_door.specs.declared.outcome.RawPut.{RawPut}
use Rattle.mc_door.specs.declared.side.Side.{Side}
use Rattle.cefrodil.specs.Batches.{HasPutEntry}
use Rattle.cefrodil.proofs.ManyPuts.{put_one}
use Rattle.cefrodil.proofs.batches.put.Goals as goal

pub returns : goal.returns
returns g c =
    let V = g.row.V in let role = role_of c.args.side.now in let role' = role_of c.put-status.new.self in
    subst (λ (answer : RawPut). HasPutEntry V (c.args.key, c.args.value.now) role role' answer) (sym c.of.ensures)
    (put_one V role role' _ (c.args.key, c.args.value.now) _ (λ same. ap (λ (s : Side V). role_of s) same) c.put-status.ensures)
