use Rattle.std.proofs.Common.{◌∙◌, ◌++◌, None, Some, ap, arith, refl, subst, sym}
use Rattle.mc_words.specs.Checks.{policy_of}
use Rattle.mc_words.specs.KeyParts.{HasParts}
use Rattle.mc_words.specs.Shapes.{IsShape}
use Rattle.mc_words.specs.Standing.{Agrees}
use Rattle.mc_words.specs.declared.shape.Shape.{Shape}
use Rattle.mc_plan.specs.Decisions.{storing_acts}
use Rattle.mc_plan.specs.declared.answer.Put.{Put}
use Rattle.mc_writer.specs.GivenWay.{Holds, giving_way}
use Rattle.mc_writer.specs.Inside.Pens.{state_at}
use Rattle.mc_writer.specs.Inside.Turns.{IsChosen}
use Rattle.mc_writer.specs.declared.pen.Pen.{Pen}
use Rattle.mc_writer.proofs.Chosen.{agrees_read, chosen_due}
use Rattle.mc_writer.proofs.GivenWay.{evicted_stands}
use Rattle.mc_writer.proofs.Pens.{shape_kept}
use Rattle.mc_writer.proofs.WholeCalls.{shape_read}
use Rattle.mc_writer.proofs.pen.Pen.swap_waiting.Goals as goal
use Rattle.mc_writer.proofs.pen.Pen.swap_waiting.Goals.{In-Ok}
use Rattle.mc_writer.proofs.pen.Pen.swap_waiting.Given.{Over}

-- the words still agree with the history
agrees : (g : Over) (c : In-Ok g) → Agrees g.row.V c.choose.new.self.cells.now.layout.shape (state_at g.row.V c.choose.new.self).words None (state_at g.row.V c.args.self.now).history
agrees g c =
    agrees_read g.row.V c.args.self.now c.choose.new.self c.args.books.now c.in-Ok.ensures.chosen.readings c.requires.layout c.requires.waits.known c.in-Ok.ensures.chosen.read

pub entry_in-old-requires : goal.entry_in-old-requires
entry_in-old-requires g c =
    let V = g.row.V in
    let p = c.args.self.now in
    let q = c.choose.new.self in
    let b = c.choose.new.books in
    let is = c.in-Ok.ensures.chosen in
    let due = chosen_due V b c.args.key c.args.value.now p q c.in-Ok.taken is in
    let sound = subst IsShape (shape_read V p q b b is.readings is.layout refl is.read) b.checked.sound in
    let stands = evicted_stands V q.cells.now.layout.shape (state_at V q) c.in-Ok.taken.victim.key c.in-Ok.taken.victim.place (storing_acts (policy_of b.checked) b.far.value.moves.items q.cells.now.layout.shape c.args.key c.args.value.now c.in-Ok.taken.storing ++ due.later) sound due.due.allowed in
    let width = c.requires.waits.known.width in
    (omega arith, (omega (arith, width.most), (width, (((state_at V p).history, agrees g (goal.at.entry_in-old-requires g c).In-Ok), stands))))

pub take_item-put-requires : goal.take_item-put-requires
take_item-put-requires g c =
    let V = g.row.V in
    let pen = c.args.self.now in
    let width = c.requires.waits.known.width in
    let same = c.entry_in-old.ensures.same in
    let parts = subst (λ (z : Shape). HasParts z c.args.key c.args.parts) (sym (ap (λ (x : Pen V). x.cells.now.layout.shape) same ∙ shape_kept c.choose.ensures.same)) c.requires.parts in
    (omega arith, (omega (arith, width.most), (width, (parts, (pen, subst (λ (x : Pen V). IsChosen V c.choose.new.books c.args.key c.args.value.now pen x c.in-Ok.taken) (sym same) c.in-Ok.ensures.chosen)))))

pub returns-in-Ok-clause-old : goal.returns-in-Ok-clause-old
returns-in-Ok-clause-old g c =
    let h = (state_at g.row.V c.args.self.now).history in
    subst (λ (x : Put). Holds h (giving_way c.args.key x) (Some c.entry_in-old.result)) (sym c.take_item-put.ensures.told) (c.entry_in-old.ensures.holds h (agrees g (goal.at.returns-in-Ok-clause-old g c).In-Ok))
