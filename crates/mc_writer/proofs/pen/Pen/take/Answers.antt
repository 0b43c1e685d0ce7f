use Rattle.std.proofs.Common.{[], ◌∙◌, Ok, arith, refl, sym, subst}
use Rattle.mc_words.specs.KeyParts.{HasParts}
use Rattle.mc_words.specs.Shapes.{IsShape}
use Rattle.mc_plan.specs.Plans.{remove_acts}
use Rattle.mc_plan.specs.WholeCalls.{RemoveCall}
use Rattle.mc_plan.specs.declared.answer.Answer.TheVariants as answer
use Rattle.mc_plan.specs.declared.answer.Remove.TheVariants as remove
use Rattle.mc_writer.specs.Inside.Pens.{state_at}
use Rattle.mc_writer.specs.declared.pen.Pen.{Pen}
use Rattle.mc_writer.proofs.Chosen.{agrees_read}
use Rattle.mc_writer.proofs.GivenWay.{removed_stands}
use Rattle.mc_writer.proofs.WholeCalls.{due_now, known_there, layout_rested, made_now, not_turned, shape_read}
use Rattle.mc_writer.proofs.pen.Pen.take.Goals as goal

pub entry_in-old-requires : goal.entry_in-old-requires
entry_in-old-requires g c =
    let V = g.row.V in
    let pen = c.args.self.now in
    let q = c.decide_removal.new.peek in
    let b = c.args.books.now in
    let layout = layout_rested V pen b c.requires.rested in
    let known = known_there V pen b c.requires.rested in
    let read = not_turned V pen q c.decide_removal.ensures.kept in
    let planned = c.in-TakeOut.ensures.decided (state_at V pen) known refl in
    let due = due_now V pen q b c.decide_removal.new.self (RemoveCall c.args.key) (answer.Remove (Ok (remove.Removed c.in-TakeOut.at))) (λ _. remove_acts c.args.key c.in-TakeOut.place) [] layout c.decide_removal.ensures.shape read planned in
    let sound = subst IsShape (shape_read V pen q b c.decide_removal.new.self [] layout c.decide_removal.ensures.shape read) c.decide_removal.new.self.checked.sound in
    let stands = removed_stands V q.cells.now.layout.shape (state_at V q) c.args.key c.in-TakeOut.place due.later sound due.due.allowed in
    let width = known.width in
    (omega arith, (omega (arith, width.most), (width, (((state_at V pen).history, agrees_read V pen q b [] layout known read), stands))))

pub take_out-requires : goal.take_out-requires
take_out-requires g c =
    let V = g.row.V in
    let pen = c.args.self.now in
    let q = c.entry_in-old.new.self in
    let same = c.entry_in-old.ensures.same ∙ c.decide_removal.ensures.kept in
    let planned = c.in-TakeOut.ensures.decided (state_at V pen) (known_there V pen c.args.books.now c.requires.rested) refl in
    let due = due_now V pen q c.args.books.now c.decide_removal.new.self (RemoveCall c.args.key) (answer.Remove (Ok (remove.Removed c.in-TakeOut.at))) (λ _. remove_acts c.args.key c.in-TakeOut.place) [] (layout_rested V pen c.args.books.now c.requires.rested) c.decide_removal.ensures.shape (not_turned V pen q same) planned in
    (omega arith, (due, subst (λ (x : Pen V). HasParts x.cells.now.layout.shape c.args.key c.parts-parts.result) (sym same) c.parts-parts.ensures))

pub returns-in-TakeOut-clause-rested : goal.returns-in-TakeOut-clause-rested
returns-in-TakeOut-clause-rested g c =
    let V = g.row.V in
    let pen = c.args.self.now in
    let q = c.entry_in-old.new.self in
    let same = c.entry_in-old.ensures.same ∙ c.decide_removal.ensures.kept in
    let planned = c.in-TakeOut.ensures.decided (state_at V pen) (known_there V pen c.args.books.now c.requires.rested) refl in
    (made_now V pen q c.args.books.now c.decide_removal.new.self (RemoveCall c.args.key) (answer.Remove (Ok (remove.Removed c.in-TakeOut.at))) (λ _. remove_acts c.args.key c.in-TakeOut.place) [] (layout_rested V pen c.args.books.now c.requires.rested) c.decide_removal.ensures.shape (not_turned V pen q same) planned c.take_out.new.self c.take_out.ensures.made refl).2
