use Rattle.std.proofs.Common.{[], Ok, Err, arith, refl, sym, subst}
use Rattle.mc_words.specs.KeyParts.{HasParts}
use Rattle.mc_plan.specs.Decisions.{renewal_acts}
use Rattle.mc_plan.specs.WholeCalls.{KeptCall}
use Rattle.mc_plan.specs.declared.answer.Answer.TheVariants as answer
use Rattle.mc_plan.specs.declared.answer.Put.TheVariants as put
use Rattle.mc_plan.specs.declared.answer.Why.{Why}
use Rattle.mc_plan.specs.Calls.{why_of}
use Rattle.mc_plan.proofs.Calls.KeptCalls.{kept_planned}
use Rattle.mc_writer.specs.Inside.Pens.{IsSamePen, state_at}
use Rattle.mc_writer.specs.WriterCalls.{HasCalled, IsRested}
use Rattle.mc_writer.specs.declared.pen.Pen.{Pen}
use Rattle.mc_writer.proofs.WholeCalls.{due_now, known_there, layout_rested, made_now, not_turned, refused_now}
use Rattle.mc_writer.proofs.pen.Pen.put_kept.Goals as goal
use Rattle.mc_writer.proofs.pen.Pen.put_kept.Goals.{After-make_renewal}
use Rattle.mc_writer.proofs.pen.Pen.put_kept.Given.{Over}

pub make_renewal-requires : goal.make_renewal-requires
make_renewal-requires g c =
    let V = g.row.V in
    let pen = c.args.self.now in
    let q = c.decide.new.peek in
    let due = due_now V pen q c.args.books.now c.decide.new.self (KeptCall c.args.key c.args.value.now) (answer.Kept (Ok (put.Renewed c.in-Renew.at))) (λ _. renewal_acts c.args.key c.args.value.now c.in-Renew.at c.in-Renew.item) [] (layout_rested V pen c.args.books.now c.requires.rested) c.decide.ensures.shape (not_turned V pen q c.decide.ensures.kept) (kept_planned V c.decide.new.self (renewal_acts c.args.key c.args.value.now c.in-Renew.at c.in-Renew.item) c.args.key c.args.value.now (state_at V pen) (Ok (put.Renewed c.in-Renew.at)) refl (c.in-Renew.ensures.decided (state_at V pen) (known_there V pen c.args.books.now c.requires.rested) refl)) in
    let width = c.requires.rested.known.width in
    (omega arith, (omega (arith, width.most), (width, (due, subst (λ (x : Pen V). HasParts x.cells.now.layout.shape c.args.key c.parts-parts.result) (sym c.decide.ensures.kept) c.parts-parts.ensures))))

-- a renewal is a whole call
renewed : (g : Over) (c : After-make_renewal g) → IsSamePen g.row.V c.args.self.now c.make_renewal.new.self × HasCalled g.row.V c.args.self.now.cells.now.layout.shape (KeptCall c.args.key c.args.value.now) c.args.self.now.seat.now c.make_renewal.new.self.seat.now (answer.Kept (Ok (put.Renewed c.in-Renew.at))) × IsRested g.row.V c.decide.new.self c.make_renewal.new.self.seat.now
renewed g c =
    let V = g.row.V in
    let pen = c.args.self.now in
    let q = c.decide.new.peek in
    made_now V pen q c.args.books.now c.decide.new.self (KeptCall c.args.key c.args.value.now) (answer.Kept (Ok (put.Renewed c.in-Renew.at))) (λ _. renewal_acts c.args.key c.args.value.now c.in-Renew.at c.in-Renew.item) [] (layout_rested V pen c.args.books.now c.requires.rested) c.decide.ensures.shape (not_turned V pen q c.decide.ensures.kept) (kept_planned V c.decide.new.self (renewal_acts c.args.key c.args.value.now c.in-Renew.at c.in-Renew.item) c.args.key c.args.value.now (state_at V pen) (Ok (put.Renewed c.in-Renew.at)) refl (c.in-Renew.ensures.decided (state_at V pen) (known_there V pen c.args.books.now c.requires.rested) refl)) c.make_renewal.new.self c.make_renewal.ensures.made refl

pub returns-in-Renew-clause-called : goal.returns-in-Renew-clause-called
returns-in-Renew-clause-called g c = (renewed g (goal.at.returns-in-Renew-clause-called g c).After-make_renewal).1

pub returns-in-Renew-clause-rested : goal.returns-in-Renew-clause-rested
returns-in-Renew-clause-rested g c = (renewed g (goal.at.returns-in-Renew-clause-rested g c).After-make_renewal).2

pub returns-in-Refuse-clause-called : goal.returns-in-Refuse-clause-called
returns-in-Refuse-clause-called g c =
    let V = g.row.V in
    let pen = c.args.self.now in
    let q = c.decide.new.peek in
    let decided = c.in-Refuse.ensures.decided (state_at V pen) (known_there V pen c.args.books.now c.requires.rested) refl in
    let call = KeptCall c.args.key c.args.value.now in
    let planned = kept_planned V c.decide.new.self [] c.args.key c.args.value.now (state_at V pen) (Err c.in-Refuse.why) decided.1 decided.0 in
    let done = refused_now V pen q c.args.books.now c.decide.new.self call (answer.Kept (Err (why_of c.in-Refuse.why))) [] (layout_rested V pen c.args.books.now c.requires.rested) c.decide.ensures.shape (not_turned V pen q c.decide.ensures.kept) planned refl in
    subst (λ (w : Why). HasCalled V pen.cells.now.layout.shape call pen.seat.now q.seat.now (answer.Kept (Err w))) (sym c.of.ensures) done.1
