use Rattle.std.proofs.Common.{◌+◌, refl, ◌∙◌, arith}
use Rattle.mc_lookup.specs.Machine.{held_by, shape_for, slots_from, lookup_place}
use Rattle.mc_theory.specs.declared.access.Access.TheVariants as access
use Rattle.mc_lookup.specs.declared.stage.Stage.TheVariants as stage
use Rattle.mc_lookup.proofs.StageSteps.{takes_at, left_met, left_other, steps_slots}
use Rattle.mc_lookup.proofs.lookup.Lookup.after_slot.Goals as goal
use Rattle.mc_lookup.proofs.lookup.Lookup.after_slot.Goals.{in-Some, in-None}

pub returns-clause-takes : goal.returns-clause-takes
returns-clause-takes g c =
    let l = c.args.self.now in
    let j = c.args.j in
    let below = rw c.requires at l.slot_in in
    elim c.match-met.branch [
      | in-Some w ↦
          takes_at l _ (stage.Slot j) (stage.Key (j + 1) w.in-Some.i) (access.Slot (lookup_place l j)) c.args.word c.requires w.self-is refl refl
          (λ f rs reply. left_met g.row.V (shape_for l) l.key l.tries l.version (held_by l) l.reply l.parts.first l.parts.second j w.in-Some.i c.args.word f rs reply l.checked.sound l.parts_are.first l.parts_are.second below (w.in-Some.ensures {u = tt}))
          (omega (arith, below))
      | in-None w ↦
          takes_at l _ (stage.Slot j) (slots_from (j + 1)) (access.Slot (lookup_place l j)) c.args.word c.requires (w.self-is ∙ w.before_slot-self.ensures) refl refl
          (λ f rs reply. left_other g.row.V (shape_for l) l.key l.tries l.version (held_by l) l.reply l.parts.first l.parts.second j c.args.word f rs reply l.parts_are.first l.parts_are.second below (λ i m. w.in-None.ensures {u = tt} i m.0 m.1))
          (omega (arith, below, steps_slots g.row.V l.tries (j + 1) (omega (arith, below))))
    ]
