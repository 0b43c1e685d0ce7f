use Rattle.mc_door.specs.Roles.{role_of}
use Rattle.cefrodil.proofs.ManyLookups.{looked_one}
use Rattle.cefrodil.proofs.many.look_up.Goals as goal

pub returns : goal.returns
returns g c = record { looked = looked_one g.row.V (role_of c.args.side.now) (role_of c.get-status.new.self) _ c.args.key c.args.value.now c.get-status.new.value _ c.requires.value c.get-status.ensures }
