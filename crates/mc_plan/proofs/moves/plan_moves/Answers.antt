use Rattle.std.proofs.Common.{List, sym, subst}
use Rattle.mc_theory.specs.declared.act.Act.{Act}
use Rattle.mc_plan.specs.Moves.{MakesRoom}
use Rattle.mc_plan.proofs.Puts.PathMoves.{room_made}
use Rattle.mc_plan.proofs.Puts.PathSteps.{chain_taken}
use Rattle.mc_plan.proofs.Deeds.Values.{plan_is}
use Rattle.mc_plan.proofs.moves.plan_moves.Goals as goal

pub add_moves-requires-clause-taken : goal.add_moves-requires-clause-taken
add_moves-requires-clause-taken g c =
    chain_taken c.args.checked.now.shape (g.P.Peek.words c.args.peek.now) c.requires.chain.0 c.args.path.now.places.items c.args.path.now.hole c.requires.chain.1

pub returns-clause-law : goal.returns-clause-law
returns-clause-law g c =
    let V = g.row.V in
    let sh = c.args.checked.now.shape in
    let w = g.P.Peek.words c.args.peek.now in
    let ps = c.args.path.now.places.items in
    let hole = c.args.path.now.hole in
    let is = plan_is _ _ _ c.add_moves.ensures.items c.new-acts.ensures in
    subst (λ (acts : List Act). MakesRoom V sh w ps hole acts) (sym is)
    (room_made V sh w ps hole c.args.checked.now.sound c.add_moves.ensures.keys)
