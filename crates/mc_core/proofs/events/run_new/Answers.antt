use Rattle.mc_words.specs.Checks.{shape_of}
use Rattle.mc_words.specs.Shapes.{IsShape}
use Rattle.mc_core.proofs.Plainly.{made_anew, plainly_anew}
use Rattle.mc_core.proofs.events.run_new.Goals as goal

pub returns-clause-ran : goal.returns-clause-ran
returns-clause-ran g c =
    let world = (c.in_ok-world.ensures {u = tt}).ok in
    made_anew (shape_of c.args.checked.now) c.in_ok-world.world c.run.new.world c.args.readers c.args.events.now c.in-Ok.made world.0 world.1 (c.in-Ok.ensures {u = tt}).ran

pub returns-clause-plain : goal.returns-clause-plain
returns-clause-plain g c =
    let sh = shape_of c.args.checked.now in
    let sound : IsShape sh = c.args.checked.now.sound in
    let ran = returns-clause-ran g c in
    plainly_anew sh c.args.readers ran.0 c.args.events.now c.in-Ok.made.done.items c.in-Ok.made.stopped sound ran.1
