use Rattle.std.proofs.Common.{◌≡◌, refl, rules}
use Rattle.mc_script.proofs.NumberLists.{numbers-cons, with_first}
use Rattle.mc_script.specs.declared.command.LineFault.TheVariants.{BadNumber}
use Rattle.mc_script.proofs.number.first_and.Goals as goal

pub returns-in_err-others : goal.returns-in_err-others
unfolding with_first
returns-in_err-others g c = rw (numbers-cons, ← c.in_err-others.ensures) (search rules)

pub returns-in_err-first : goal.returns-in_err-first
unfolding with_first
returns-in_err-first g c =
    let none = c.in_err-first.ensures.ok_part in
    let told = rw none at c.in_err-first.ensures.value in
    let fault : c.in_err-first.field-0.0 ≡ BadNumber = cc told in
    rw (numbers-cons, ← c.in_ok-others.ensures, ← c.number.ensures, none, ← fault) (search rules)

pub returns : goal.returns
unfolding with_first
returns g c = rw (numbers-cons, ← c.in_ok-others.ensures, ← c.number.ensures, c.in_ok-first.ensures.ok_part) refl
