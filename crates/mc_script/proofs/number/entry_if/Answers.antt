use Rattle.std.proofs.Common.{◌≡◌, refl, rules}
use Rattle.mc_script.proofs.NumberLists.{numbers-nil_two, numbers-cons_two, with_first}
use Rattle.mc_script.specs.declared.command.LineFault.TheVariants.{BadNumber}
use Rattle.mc_script.proofs.number.entry_if.Goals as goal

pub returns-in-None : goal.returns-in-None
returns-in-None g c = rw (c.in-None.ensures, numbers-nil_two) refl

pub returns-in_err-since-in-Some : goal.returns-in_err-since-in-Some
unfolding with_first
returns-in_err-since-in-Some g c = rw (c.in-Some.ensures.0, numbers-cons_two, ← c.in_err-since-in-Some.ensures) (search rules)

pub returns-in_err-key-in-Some : goal.returns-in_err-key-in-Some
unfolding with_first
returns-in_err-key-in-Some g c =
    let none = c.in_err-key-in-Some.ensures.ok_part in
    let told = rw none at c.in_err-key-in-Some.ensures.value in
    let fault : c.in_err-key-in-Some.field-0.0 ≡ BadNumber = cc told in
    rw (c.in-Some.ensures.0, numbers-cons_two, ← c.in_ok-since-in-Some.ensures, ← c.number.ensures, none, ← fault) (search rules)

pub returns-in_ok-key-in-Some : goal.returns-in_ok-key-in-Some
unfolding with_first
returns-in_ok-key-in-Some g c = rw (c.in-Some.ensures.0, numbers-cons_two, ← c.in_ok-since-in-Some.ensures, ← c.number.ensures, c.in_ok-key-in-Some.ensures.ok_part) refl
