use Rattle.std.proofs.Common.{◌≤◌, refl, ◌∙◌, drop, arith}
use Rattle.mc_theory.specs.Lookups.{slots_for}
use Rattle.mc_lookup.specs.Machine.{held_by, shape_for, slots_from}
use Rattle.mc_theory.specs.declared.access.Access.TheVariants as access
use Rattle.mc_lookup.specs.declared.stage.Stage.TheVariants as stage
use Rattle.mc_lookup.proofs.StageLaws.{feed_key, feed_stranger}
use Rattle.mc_lookup.proofs.StageSteps.{takes_at, read, both_trans, left_slots, steps_slots}
use Rattle.mc_lookup.proofs.lookup.Lookup.after_key.Goals as goal
use Rattle.mc_lookup.proofs.lookup.Lookup.after_key.Goals.{then-found, else-found}

pub returns-clause-takes : goal.returns-clause-takes
returns-clause-takes g c =
    let l = c.args.self.now in
    elim c.if-found.branch [
      | then-found w ↦
          takes_at l _ (stage.Key c.args.j c.args.i) (stage.Value c.args.i 0) (access.Key c.args.i) c.args.word c.requires w.self-is refl refl
          (λ f rs reply. feed_key g.row.V (shape_for l) l.key l.tries l.version c.args.i (drop c.args.j (slots_for (shape_for l) l.key)) (read (access.Key c.args.i) c.args.word f) rs reply refl w.if-found.true)
          (omega arith)
      | else-found w ↦
          let near = rw c.requires at l.slot_in in
          let below : c.args.j ≤ 8 = omega (arith, near) in
          takes_at l _ (stage.Key c.args.j c.args.i) (slots_from c.args.j) (access.Key c.args.i) c.args.word c.requires (w.self-is ∙ w.before_slot-self.ensures) refl refl
          (λ f rs reply. both_trans (left_slots g.row.V (shape_for l) l.key l.tries l.version (held_by l) l.reply c.args.j rs reply below)
          (feed_stranger g.row.V (shape_for l) l.key l.tries l.version c.args.i (drop c.args.j (slots_for (shape_for l) l.key)) (read (access.Key c.args.i) c.args.word f) rs reply refl w.if-found.false))
          (omega (arith, steps_slots g.row.V l.tries c.args.j below))
    ]
