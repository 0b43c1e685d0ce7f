use Rattle.std.proofs.Common.{◌≡◌, ◌+◌, ◌%◌, ◌∙◌, Some, None, Bool, cond, eqb, ap, arith, refl, sym}
use Rattle.std.proofs.lemmas.Bool.{eq-eqb, ne_eqb}
use Rattle.mc_theory.proofs.Lists.HandTurns.{turn_over, turn_on}
use Rattle.mc_search.specs.Sweeps.{next_item}
use Rattle.mc_search.proofs.SweepReadings.{next_parts, stands_below, swept_next}
use Rattle.mc_search.proofs.sweep.Sweep.after.Goals as goal
use Rattle.mc_search.proofs.sweep.Sweep.after.Goals.{then-bit-eq0, else-bit-eq0, then-next-self, else-next-self}

pub overflow_sub-self : goal.overflow_sub-self
unfolding next_item
overflow_sub-self c =
    let r = c.requires in
    let parts = next_parts c.args.self.now.victim c.args.self.now.left c.args.self.now.hand r.3 r.5 in
    omega (arith, parts.1)

pub returns-clause-left : goal.returns-clause-left
unfolding next_item
returns-clause-left c =
    let r = c.requires in
    let parts = next_parts c.args.self.now.victim c.args.self.now.left c.args.self.now.hand r.3 r.5 in
    omega (arith, parts.1)

pub returns-clause-swept : goal.returns-clause-swept
unfolding next_item
returns-clause-swept c items hand rs i has next =
    let s = c.args.self.now in
    let parts = next_parts s.victim s.left s.hand i next in
    let below = stands_below s items hand rs has in
    let turned : c.if-next-self.self ≡ (s.hand + 1) % items = elim c.if-next-self.branch [
      | then-next-self w ↦ w.self-is ∙ turn_over s.hand items (w.if-next-self.true ∙ has.count)
      | else-next-self w ↦ w.self-is ∙ turn_on s.hand items below (λ e. w.if-next-self.false (e ∙ sym has.count))
    ] in
    let found : c.if-bit-eq0.self ≡ cond (eqb c.args.bit 0) (Some s.hand) None = elim c.if-bit-eq0.branch [
      | then-bit-eq0 w ↦ w.self-is ∙ sym (ap (λ (b : Bool). cond b (Some s.hand) None) (eq-eqb c.args.bit 0 w.if-bit-eq0.true))
      | else-bit-eq0 w ↦ w.self-is ∙ sym (ap (λ (b : Bool). cond b (Some s.hand) None) (ne_eqb c.args.bit 0 w.if-bit-eq0.false))
    ] in
    swept_next s _ items hand rs i c.args.bit has next refl (omega (arith, parts.1)) turned found
