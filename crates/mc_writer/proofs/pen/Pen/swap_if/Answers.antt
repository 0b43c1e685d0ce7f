use Rattle.std.proofs.Common.{[], ◌∙◌, Ok, Err, arith, refl, sym, subst}
use Rattle.mc_words.specs.KeyParts.{HasParts}
use Rattle.mc_words.specs.Shapes.{IsShape}
use Rattle.mc_plan.specs.Decisions.{renewal_acts}
use Rattle.mc_plan.specs.WholeCalls.{PutIfCall}
use Rattle.mc_plan.specs.declared.answer.Answer.TheVariants as answer
use Rattle.mc_writer.specs.Inside.Pens.{IsSamePen, state_at}
use Rattle.mc_writer.specs.WriterCalls.{HasCalled, IsRested}
use Rattle.mc_writer.specs.declared.pen.Pen.{Pen}
use Rattle.mc_writer.proofs.Chosen.{agrees_read}
use Rattle.mc_writer.proofs.GivenWay.{renewed_stands}
use Rattle.mc_writer.proofs.WholeCalls.{due_now, known_there, layout_rested, made_now, not_turned, refused_now, shape_read}
use Rattle.mc_writer.proofs.pen.Pen.swap_if.Goals as goal
use Rattle.mc_writer.proofs.pen.Pen.swap_if.Goals.{After-make_renewal}
use Rattle.mc_writer.proofs.pen.Pen.swap_if.Given.{Over}

pub make_renewal-requires : goal.make_renewal-requires
make_renewal-requires g c =
    let V = g.row.V in
    let pen = c.args.self.now in
    let q = c.entry_at-old.new.self in
    let r = c.in-Ok.renewal in
    let planned = c.in-Ok.ensures.decided (state_at V pen) (known_there V pen c.args.books.now c.requires.rested) refl in
    let due = due_now V pen q c.args.books.now c.decide_if.new.self (PutIfCall c.args.key c.args.since c.args.value.now) (answer.PutIf (Ok r.at)) (λ _. renewal_acts c.args.key c.args.value.now r.at r.item) [] (layout_rested V pen c.args.books.now c.requires.rested) c.decide_if.ensures.shape (not_turned V pen q (c.entry_at-old.ensures.same ∙ c.decide_if.ensures.kept)) planned in
    let width = c.requires.rested.known.width in
    (omega arith, (omega (arith, width.most), (width, (due, subst (λ (x : Pen V). HasParts x.cells.now.layout.shape c.args.key c.parts-parts.result) (sym (c.entry_at-old.ensures.same ∙ c.decide_if.ensures.kept)) c.parts-parts.ensures))))

pub entry_at-old-requires : goal.entry_at-old-requires
entry_at-old-requires g c =
    let V = g.row.V in
    let pen = c.args.self.now in
    let q = c.decide_if.new.peek in
    let b = c.args.books.now in
    let r = c.in-Ok.renewal in
    let layout = layout_rested V pen b c.requires.rested in
    let known = known_there V pen b c.requires.rested in
    let read = not_turned V pen q c.decide_if.ensures.kept in
    let planned = c.in-Ok.ensures.decided (state_at V pen) known refl in
    let due = due_now V pen q b c.decide_if.new.self (PutIfCall c.args.key c.args.since c.args.value.now) (answer.PutIf (Ok r.at)) (λ _. renewal_acts c.args.key c.args.value.now r.at r.item) [] layout c.decide_if.ensures.shape read planned in
    let sound = subst IsShape (shape_read V pen q b c.decide_if.new.self [] layout c.decide_if.ensures.shape read) c.decide_if.new.self.checked.sound in
    let width = known.width in (
      omega arith,
      (
        omega (arith, width.most),
        (
          width,
          (
            ((state_at V pen).history, agrees_read V pen q b [] layout known read),
            renewed_stands V q.cells.now.layout.shape (state_at V q) c.args.key r.at r.item c.args.value.now due.later sound (omega (arith, width.some)) due.due.allowed,
          ),
        ),
      ),
    )

-- the renewal is a whole call
renewed : (g : Over) (c : After-make_renewal g) → IsSamePen g.row.V c.args.self.now c.make_renewal.new.self × HasCalled g.row.V c.args.self.now.cells.now.layout.shape (PutIfCall c.args.key c.args.since c.args.value.now) c.args.self.now.seat.now c.make_renewal.new.self.seat.now (answer.PutIf (Ok c.in-Ok.renewal.at)) × IsRested g.row.V c.decide_if.new.self c.make_renewal.new.self.seat.now
renewed g c =
    let V = g.row.V in
    let pen = c.args.self.now in
    let q = c.entry_at-old.new.self in
    let r = c.in-Ok.renewal in
    let planned = c.in-Ok.ensures.decided (state_at V pen) (known_there V pen c.args.books.now c.requires.rested) refl in
    made_now V pen q c.args.books.now c.decide_if.new.self (PutIfCall c.args.key c.args.since c.args.value.now) (answer.PutIf (Ok r.at)) (λ _. renewal_acts c.args.key c.args.value.now r.at r.item) [] (layout_rested V pen c.args.books.now c.requires.rested) c.decide_if.ensures.shape (not_turned V pen q (c.entry_at-old.ensures.same ∙ c.decide_if.ensures.kept)) planned c.make_renewal.new.self c.make_renewal.ensures.made refl

pub returns-in-Ok-clause-called : goal.returns-in-Ok-clause-called
returns-in-Ok-clause-called g c = (renewed g (goal.at.returns-in-Ok-clause-called g c).After-make_renewal).1

pub returns-in-Ok-clause-rested : goal.returns-in-Ok-clause-rested
returns-in-Ok-clause-rested g c = (renewed g (goal.at.returns-in-Ok-clause-rested g c).After-make_renewal).2

pub returns-in-Err-clause-called : goal.returns-in-Err-clause-called
returns-in-Err-clause-called g c =
    let V = g.row.V in
    let pen = c.args.self.now in
    let q = c.decide_if.new.peek in
    let planned = c.in-Err.ensures.decided (state_at V pen) (known_there V pen c.args.books.now c.requires.rested) refl in
    (refused_now V pen q c.args.books.now c.decide_if.new.self (PutIfCall c.args.key c.args.since c.args.value.now) (answer.PutIf (Err c.in-Err.why)) [] (layout_rested V pen c.args.books.now c.requires.rested) c.decide_if.ensures.shape (not_turned V pen q c.decide_if.ensures.kept) planned refl).1
