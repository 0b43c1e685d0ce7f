use Rattle.mc_check.proofs.LastChanges.{absent_decides, found_decides}
use Rattle.mc_check.specs.Inside.Last.{value_after}
use Rattle.std.proofs.Common.{true, false, refl, ap, sym, ◌∙◌, List, Option, ℕ, Some, eqb}
use Rattle.std.specs.Option.{is_some, option_eq}
use Rattle.std.specs.Cmp.Lexicographic.{pointwise}
use Rattle.mc_check.proofs.record.is_true.Goals as goal

pub returns-then-is_stamp : goal.returns-then-is_stamp
returns-then-is_stamp g c =
    found_decides c.args.history.now c.args.told.now.key c.args.told.now.reply c.in-Found.value c.in-Found.at c.in-Found.since c.args.last true c.eq.result c.in-Found.is c.requires.moment c.requires.last
    (c.if-is_stamp.ensures {u = tt}) (c.eq.ensures ∙ ap (λ (o : Option (List ℕ)). option_eq (pointwise eqb) o (Some c.in-Found.value)) c.value_of.ensures)

pub returns-else-is_stamp : goal.returns-else-is_stamp
returns-else-is_stamp g c =
    rw c.if-is_stamp.false (found_decides c.args.history.now c.args.told.now.key c.args.told.now.reply c.in-Found.value c.in-Found.at c.in-Found.since c.args.last false (option_eq (pointwise eqb) (value_after c.args.history.now c.args.last) (Some c.in-Found.value)) c.in-Found.is c.requires.moment c.requires.last
    (c.if-is_stamp.ensures {u = tt}) refl)

pub returns-in-Absent : goal.returns-in-Absent
returns-in-Absent g c =
    absent_decides c.args.history.now c.args.told.now.key c.args.told.now.reply c.in-Absent.at c.args.last c.is_none.result c.in-Absent.is c.requires.moment c.requires.last
    (sym (ap (λ (o : Option (List ℕ)). is_some o) c.value_of-in-Absent.ensures) ∙ c.is_none.ensures)
