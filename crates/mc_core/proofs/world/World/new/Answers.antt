use Rattle.std.proofs.Common.{refl, sym, subst, []}
use Rattle.mc_words.specs.declared.shape.Shape.{Shape}
use Rattle.mc_words.specs.Checks.{shape_of}
use Rattle.mc_theory.specs.Traces.{first_trace, IsReached}
use Rattle.mc_core.proofs.world.World.new.Goals as goal

pub invariant_of-result : goal.invariant_of-result
invariant_of-result g c =
    let stand = c.in-Ok.ensures in
    let sh = shape_of c.args.checked.now in
    let w = first_trace g.row.V sh c.args.readers in
    record {
      seen = w;
      stand = stand.1;
      reached = subst (λ (y : Shape). IsReached g.row.V y w) (sym stand.0) (record { readers = c.args.readers; events = []; runs = refl });
    }
