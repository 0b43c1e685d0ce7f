use Rattle.std.proofs.Common.{ap, refl, arith}
use Rattle.mc_lookup.specs.Machine.{shape_for}
use Rattle.mc_theory.specs.declared.access.Access.TheVariants as access
use Rattle.mc_lookup.specs.declared.stage.Stage.TheVariants as stage
use Rattle.mc_lookup.proofs.StageSteps.{takes_at, takes_restart, read, left_first, left_odd, steps_try}
use Rattle.mc_lookup.proofs.lookup.Lookup.after_first.Goals as goal

pub returns-then-word-eq0-clause-takes : goal.returns-then-word-eq0-clause-takes
returns-then-word-eq0-clause-takes g c =
    let l = c.args.self.now in
    let some = rw c.requires at l.tried in
    takes_at l _ stage.First (stage.Slot 0) (access.Version l.parts.stripe) c.args.word c.requires refl refl refl
    (λ f rs reply. left_first g.row.V (shape_for l) l.key l.tries (read (access.Version l.parts.stripe) c.args.word f) rs reply some (ap (λ y. access.Version y) l.parts_are.stripe) c.if-word-eq0.true)
    (omega (arith, some, steps_try g.row.V l.tries some))

pub returns-else-word-eq0-clause-takes : goal.returns-else-word-eq0-clause-takes
returns-else-word-eq0-clause-takes g c =
    let l = c.args.self.now in
    let some = rw c.requires at l.tried in
    takes_restart l _ c.try_again.new.self stage.First (access.Version l.parts.stripe) c.args.word c.try_again.ensures c.requires refl refl
    (λ f rs reply. left_odd g.row.V (shape_for l) l.key l.tries (read (access.Version l.parts.stripe) c.args.word f) rs reply some (ap (λ y. access.Version y) l.parts_are.stripe) c.if-word-eq0.false)
    (omega (arith, some, steps_try g.row.V l.tries some))
