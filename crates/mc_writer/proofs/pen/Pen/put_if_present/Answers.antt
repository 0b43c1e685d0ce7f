use Rattle.std.proofs.Common.{[], Ok, Err, arith, refl, sym, subst}
use Rattle.mc_words.specs.Checks.{shape_of}
use Rattle.mc_words.specs.KeyParts.{HasParts}
use Rattle.mc_plan.specs.Decisions.{renewal_acts}
use Rattle.mc_plan.specs.WholeCalls.{PutCall}
use Rattle.mc_plan.specs.declared.answer.Answer.TheVariants as answer
use Rattle.mc_plan.specs.declared.answer.Put.TheVariants as put
use Rattle.mc_plan.proofs.Deeds.QuietStates.{absent_held}
use Rattle.mc_shared.specs.Records.{WriterRecord}
use Rattle.mc_writer.specs.Inside.Pens.{IsSamePen, state_at}
use Rattle.mc_writer.specs.WriterCalls.{HasCalled, IsRested}
use Rattle.mc_writer.specs.declared.pen.Pen.{Pen}
use Rattle.mc_writer.proofs.WholeCalls.{due_now, known_there, layout_rested, made_now, not_turned, refused_now}
use Rattle.mc_writer.proofs.pen.Pen.put_if_present.Goals as goal
use Rattle.mc_writer.proofs.pen.Pen.put_if_present.Goals.{After-make_renewal}
use Rattle.mc_writer.proofs.pen.Pen.put_if_present.Given.{Over}

pub make_renewal-requires : goal.make_renewal-requires
make_renewal-requires g c =
    let V = g.row.V in
    let pen = c.args.self.now in
    let q = c.decide.new.peek in
    let due = due_now V pen q c.args.books.now c.decide.new.self (PutCall c.args.key c.args.value.now) (answer.Put (Ok (put.Renewed c.in-Renew.at))) (λ _. renewal_acts c.args.key c.args.value.now c.in-Renew.at c.in-Renew.item) [] (layout_rested V pen c.args.books.now c.requires.rested) c.decide.ensures.shape (not_turned V pen q c.decide.ensures.kept) (c.in-Renew.ensures.decided (state_at V pen) (known_there V pen c.args.books.now c.requires.rested) refl) in
    let width = c.requires.rested.known.width in
    (omega arith, (omega (arith, width.most), (width, (due, subst (λ (x : Pen V). HasParts x.cells.now.layout.shape c.args.key c.parts-parts.result) (sym c.decide.ensures.kept) c.parts-parts.ensures))))

-- a renewal is a whole call
renewed : (g : Over) (c : After-make_renewal g) → IsSamePen g.row.V c.args.self.now c.make_renewal.new.self × HasCalled g.row.V c.args.self.now.cells.now.layout.shape (PutCall c.args.key c.args.value.now) c.args.self.now.seat.now c.make_renewal.new.self.seat.now (answer.Put (Ok (put.Renewed c.in-Renew.at))) × IsRested g.row.V c.decide.new.self c.make_renewal.new.self.seat.now
renewed g c =
    let V = g.row.V in
    let pen = c.args.self.now in
    let q = c.decide.new.peek in
    made_now V pen q c.args.books.now c.decide.new.self (PutCall c.args.key c.args.value.now) (answer.Put (Ok (put.Renewed c.in-Renew.at))) (λ _. renewal_acts c.args.key c.args.value.now c.in-Renew.at c.in-Renew.item) [] (layout_rested V pen c.args.books.now c.requires.rested) c.decide.ensures.shape (not_turned V pen q c.decide.ensures.kept) (c.in-Renew.ensures.decided (state_at V pen) (known_there V pen c.args.books.now c.requires.rested) refl) c.make_renewal.new.self c.make_renewal.ensures.made refl

pub returns-in-Renew-clause-called : goal.returns-in-Renew-clause-called
returns-in-Renew-clause-called g c = (renewed g (goal.at.returns-in-Renew-clause-called g c).After-make_renewal).1

pub returns-in-Renew-clause-rested : goal.returns-in-Renew-clause-rested
returns-in-Renew-clause-rested g c = (renewed g (goal.at.returns-in-Renew-clause-rested g c).After-make_renewal).2

-- the limit could be passed
pub returns-in-Some-clause-called : goal.returns-in-Some-clause-called
returns-in-Some-clause-called g c =
    let V = g.row.V in
    let pen = c.args.self.now in
    let q = c.decide.new.peek in
    let call = PutCall c.args.key c.args.value.now in
    let told = answer.Put (Err c.in-Refuse.why) in
    let decided = c.in-Refuse.ensures.decided (state_at V pen) (known_there V pen c.args.books.now c.requires.rested) refl in
    let done = refused_now V pen q c.args.books.now c.decide.new.self call told [] (layout_rested V pen c.args.books.now c.requires.rested) c.decide.ensures.shape (not_turned V pen q c.decide.ensures.kept) decided.0 decided.1 in
    subst (λ (w : WriterRecord). HasCalled V pen.cells.now.layout.shape call pen.seat.now w told) (sym c.look.ensures.seat) done.1

pub returns-in-Insert-clause-absent : goal.returns-in-Insert-clause-absent
returns-in-Insert-clause-absent g c =
    let V = g.row.V in
    let pen = c.args.self.now in
    let lacks = c.in-Insert.ensures.decided (state_at V pen) (known_there V pen c.args.books.now c.requires.rested) refl in
    absent_held V (shape_of c.decide.new.self.checked) (state_at V pen) c.args.key lacks.known.quiet lacks.absent
