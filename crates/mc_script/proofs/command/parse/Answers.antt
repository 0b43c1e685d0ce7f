use Rattle.std.proofs.Common.{rules, refl, sym}
use Rattle.mc_script.proofs.Forms.{line_says}
use Rattle.mc_script.proofs.command.parse.Goals as goal

pub returns-in_err-form-in-Some : goal.returns-in_err-form-in-Some
returns-in_err-form-in-Some g c =
    let says = line_says g.row.V c.args.line.now c.in-Some.name.now _ c.in-Some.ensures.0 c.if-name-eq35.false (sym c.if-not-is_text.ensures) in
    rw (says, ← c.form.ensures, c.in_err-form-in-Some.was) (search rules)

pub returns-in_ok-form-in-Some : goal.returns-in_ok-form-in-Some
returns-in_ok-form-in-Some g c =
    let says = line_says g.row.V c.args.line.now c.in-Some.name.now _ c.in-Some.ensures.0 c.if-name-eq35.false (sym c.if-not-is_text.ensures) in
    rw (says, ← c.form.ensures, c.in_ok-form-in-Some.was) refl
