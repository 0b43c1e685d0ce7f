use Rattle.std.proofs.Common.{◌≡◌, ◌∙◌, Some, None, Bool, cond, eqb, ap, refl, sym, arith, eq-eqb}
use Rattle.std.proofs.lemmas.Bool.{ne_eqb}
use Rattle.mc_search.proofs.Pickings.{pick_push}
use Rattle.mc_search.proofs.pick.Pick.after.Goals as goal
use Rattle.mc_search.proofs.pick.Pick.after.Goals.{then-bit-eq0, else-bit-eq0}

pub returns-clause-picked : goal.returns-clause-picked
returns-clause-picked c rs has none =
    let item = c.args.item in
    let bit = c.args.bit in
    let at = c.requires.picked in
    let found : c.if-bit-eq0.self ≡ cond (eqb bit 0) (Some item) None = elim c.if-bit-eq0.branch [
      | then-bit-eq0 w ↦ w.self-is ∙ sym (ap (λ (b : Bool). cond b (Some item) None) (eq-eqb bit 0 w.if-bit-eq0.true))
      | else-bit-eq0 w ↦ w.self-is ∙ sym (ap (λ (b : Bool). cond b (Some item) None) (ne_eqb bit 0 w.if-bit-eq0.false))
    ] in
    pick_push c.args.choice.now c.after.new.self c.args.self.now _ rs item bit has none c.requires.in_use c.after.ensures.same c.after.ensures.items refl (omega (arith, at.1.left, at.2)) found
