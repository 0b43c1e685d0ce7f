use Rattle.std.proofs.Common.{[], Ok, arith, refl, sym, subst}
use Rattle.mc_words.specs.KeyParts.{HasParts}
use Rattle.mc_plan.specs.Plans.{remove_acts}
use Rattle.mc_plan.specs.WholeCalls.{RemoveCall}
use Rattle.mc_plan.specs.declared.answer.Answer.TheVariants as answer
use Rattle.mc_plan.specs.declared.answer.Remove.TheVariants as remove
use Rattle.mc_writer.specs.Inside.Pens.{state_at}
use Rattle.mc_writer.specs.declared.pen.Pen.{Pen}
use Rattle.mc_writer.proofs.WholeCalls.{due_now, known_there, layout_rested, made_now, not_turned}
use Rattle.mc_writer.proofs.pen.Pen.remove.Goals as goal

pub take_out-requires : goal.take_out-requires
take_out-requires g c =
    let V = g.row.V in
    let pen = c.args.self.now in
    let q = c.decide_removal.new.peek in
    let planned = c.in-TakeOut.ensures.decided (state_at V pen) (known_there V pen c.args.books.now c.requires.rested) refl in
    let due = due_now V pen q c.args.books.now c.decide_removal.new.self (RemoveCall c.args.key) (answer.Remove (Ok (remove.Removed c.in-TakeOut.at))) (λ _. remove_acts c.args.key c.in-TakeOut.place) [] (layout_rested V pen c.args.books.now c.requires.rested) c.decide_removal.ensures.shape (not_turned V pen q c.decide_removal.ensures.kept) planned in
    (omega arith, (due, subst (λ (x : Pen V). HasParts x.cells.now.layout.shape c.args.key c.parts-parts.result) (sym c.decide_removal.ensures.kept) c.parts-parts.ensures))

pub returns-in-TakeOut-clause-rested : goal.returns-in-TakeOut-clause-rested
returns-in-TakeOut-clause-rested g c =
    let V = g.row.V in
    let pen = c.args.self.now in
    let q = c.decide_removal.new.peek in
    let planned = c.in-TakeOut.ensures.decided (state_at V pen) (known_there V pen c.args.books.now c.requires.rested) refl in
    (made_now V pen q c.args.books.now c.decide_removal.new.self (RemoveCall c.args.key) (answer.Remove (Ok (remove.Removed c.in-TakeOut.at))) (λ _. remove_acts c.args.key c.in-TakeOut.place) [] (layout_rested V pen c.args.books.now c.requires.rested) c.decide_removal.ensures.shape (not_turned V pen q c.decide_removal.ensures.kept) planned c.take_out.new.self c.take_out.ensures.made refl).2
