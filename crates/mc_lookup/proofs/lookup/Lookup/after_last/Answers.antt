use Rattle.std.proofs.Common.{◌∙◌, None, Some, ap, refl, arith}
use Rattle.mc_lookup.specs.Machine.{held_by, held_for, shape_for}
use Rattle.mc_theory.specs.declared.access.Access.TheVariants as access
use Rattle.mc_lookup.specs.declared.stage.Stage.TheVariants as stage
use Rattle.mc_lookup.proofs.StageLaws.{feed_same, feed_spoiled}
use Rattle.mc_lookup.proofs.StageSteps.{left_found, takes_at, takes_restart, read}
use Rattle.mc_lookup.proofs.lookup.Lookup.after_last.Goals as goal

pub returns-then-word-self-clause-takes : goal.returns-then-word-self-clause-takes
returns-then-word-self-clause-takes g c =
    let l = c.args.self.now in
    takes_restart l _ c.try_again.new.self (stage.Last c.args.hit c.args.at) (access.Version l.parts.stripe) c.args.word c.try_again.ensures c.requires refl refl
    (λ f rs reply. feed_spoiled g.row.V (shape_for l) l.key l.tries l.version c.args.hit (held_for c.args.hit (held_by l)) c.args.at (read (access.Version l.parts.stripe) c.args.word f) rs reply (ap (λ y. access.Version y) l.parts_are.stripe) c.if-word-self.true)
    (omega arith)

pub returns-in-Some-clause-takes : goal.returns-in-Some-clause-takes
returns-in-Some-clause-takes g c =
    let l = c.args.self.now in
    let i = c.in-Some.i in
    takes_at l _ (stage.Last (Some i) c.args.at) (stage.Mark i) (access.Version l.parts.stripe) c.args.word (c.requires ∙ ap (λ h. stage.Last h c.args.at) c.in-Some.is) refl refl refl
    (λ f rs reply. left_found g.row.V (shape_for l) l.key l.tries l.version i l.value l.since c.args.at (read (access.Version l.parts.stripe) c.args.word f) rs reply l.whole (ap (λ y. access.Version y) l.parts_are.stripe) c.if-word-self.false)
    (omega arith)

pub returns-in-None-clause-takes : goal.returns-in-None-clause-takes
returns-in-None-clause-takes g c =
    let l = c.args.self.now in
    takes_at l _ (stage.Last None c.args.at) stage.Over (access.Version l.parts.stripe) c.args.word (c.requires ∙ ap (λ h. stage.Last h c.args.at) c.in-None.is) refl refl refl
    (λ f rs reply. feed_same g.row.V (shape_for l) l.key l.tries l.version None (held_by l) c.args.at (read (access.Version l.parts.stripe) c.args.word f) rs reply (ap (λ y. access.Version y) l.parts_are.stripe) c.if-word-self.false)
    (omega arith)
