use Rattle.std.proofs.Common.{◌∙◌}
use Rattle.mc_script.proofs.Digits.{parsed_digits, all_digits-utf8}
use Rattle.mc_script.proofs.number.value.Goals as goal

pub returns-in-Ok : goal.returns-in-Ok
returns-in-Ok c =
    let same = c.in-Ok.ensures.cases.0 in
    c.ok.ensures.value ∙ parsed_digits c.args.word.now c.parse.result c.requires.some c.requires.digits (rw same at c.parse.ensures.value.0)

pub returns-in-Err : goal.returns-in-Err
returns-in-Err c = absurd (c.in-Err.ensures.cases.0 (all_digits-utf8 c.args.word.now c.requires.digits))
