use Rattle.std.proofs.Common.{length, refl}
use Rattle.cefrodil.proofs.Filling.{are_opened, refused_memory}
use Rattle.cefrodil.proofs.opening.open_all.Goals as goal

pub returns-then-not-fill-clause-refused : goal.returns-then-not-fill-clause-refused
returns-then-not-fill-clause-refused c =
    let rest = c.in-Ok-open.ensures.rest in
    λ _. refused_memory c.args.shape.now c.args.shards c.args.words (length c.args.handles.now) c.count_of.result c.in-Ok.asked.1 c.in-Ok.ensures.0 c.in-Ok.ensures.1 c.in-Ok.ensures.2 c.in-Ok.ensures.4
    rest.2 rest.3 rest.4 c.count_of.ensures.right

pub returns-clause-opened : goal.returns-clause-opened
returns-clause-opened c =
    let made = c.in-Ok-open.ensures in
    λ _. are_opened c.args.shape.now c.args.shards c.args.words c.fill.new.handles c.in-Ok.asked.1 c.in-Ok-open.rest c.in-Ok.ensures.4 made.refused.0 made.refused.1
    (c.in-Ok.asked.0, c.in-Ok.ensures.3, made.policy) made.rest.0
    made.fresh (c.if-not-fill.ensures.filled refl)
