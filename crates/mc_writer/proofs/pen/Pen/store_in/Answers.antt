use Rattle.std.proofs.Common.{[], ◌<◌, None, Ok, arith, refl, sym, subst}
use Rattle.mc_words.specs.Checks.{policy_of}
use Rattle.mc_words.specs.KeyParts.{HasParts}
use Rattle.mc_words.specs.declared.shape.Shape.{Shape}
use Rattle.mc_plan.specs.Decisions.{storing_acts, storing_told}
use Rattle.mc_plan.specs.WholeCalls.{PutCall}
use Rattle.mc_plan.specs.declared.answer.Answer.TheVariants as answer
use Rattle.mc_plan.specs.declared.answer.Put.{Put}
use Rattle.mc_writer.specs.Inside.Pens.{IsSamePen, state_at}
use Rattle.mc_writer.specs.WriterCalls.{HasCalled, IsRested}
use Rattle.mc_writer.specs.declared.pen.Pen.{Pen}
use Rattle.mc_writer.proofs.WholeCalls.{due_now, made_now, not_turned, shape_read}
use Rattle.mc_writer.proofs.pen.Pen.store_in.Goals as goal
use Rattle.mc_writer.proofs.pen.Pen.store_in.Goals.{After-told}
use Rattle.mc_writer.proofs.pen.Pen.store_in.Given.{Over}

pub make_storing-requires : goal.make_storing-requires
make_storing-requires g c =
    let V = g.row.V in
    let pen = c.args.self.now in
    let q = c.insert.new.peek in
    let b = c.insert.new.self in
    let storing = c.in-Some.storing in
    let inserted = c.in-Some.ensures.inserted c.args.value.now (state_at V pen) c.requires.room refl in
    let read = not_turned V pen q c.insert.ensures.kept in
    let due = due_now V pen q c.args.books.now b (PutCall c.args.key c.args.value.now) (answer.Put (Ok (storing_told b.far.value.moves.items storing None))) (λ sh. storing_acts (policy_of b.checked) b.far.value.moves.items sh c.args.key c.args.value.now storing) [] c.requires.layout c.insert.ensures.shape read inserted.1 in
    let within = subst (λ (sh : Shape). storing.item < sh.items) (shape_read V pen q c.args.books.now b [] c.requires.layout c.insert.ensures.shape read) inserted.0 in
    let width = c.requires.room.lacks.known.width in
    (omega arith, (omega (arith, width.most), (width, (within, (due, subst (λ (x : Pen V). HasParts x.cells.now.layout.shape c.args.key c.args.parts) (sym c.insert.ensures.kept) c.requires.parts)))))

-- the moves, the fill and the mark are a whole call
stored : (g : Over) (c : After-told g) → IsSamePen g.row.V c.args.self.now c.make_storing.new.self × HasCalled g.row.V c.args.self.now.cells.now.layout.shape (PutCall c.args.key c.args.value.now) c.args.self.now.seat.now c.make_storing.new.self.seat.now (answer.Put (Ok c.told.result)) × IsRested g.row.V c.insert.new.self c.make_storing.new.self.seat.now
stored g c =
    let V = g.row.V in
    let pen = c.args.self.now in
    let q = c.insert.new.peek in
    let b = c.insert.new.self in
    let storing = c.in-Some.storing in
    let inserted = c.in-Some.ensures.inserted c.args.value.now (state_at V pen) c.requires.room refl in
    let done = made_now V pen q c.args.books.now b (PutCall c.args.key c.args.value.now) (answer.Put (Ok (storing_told b.far.value.moves.items storing None))) (λ sh. storing_acts (policy_of b.checked) b.far.value.moves.items sh c.args.key c.args.value.now storing) [] c.requires.layout c.insert.ensures.shape (not_turned V pen q c.insert.ensures.kept) inserted.1 c.make_storing.new.self c.make_storing.ensures.made refl in
    (done.0, subst (λ (x : Put). HasCalled V pen.cells.now.layout.shape (PutCall c.args.key c.args.value.now) pen.seat.now c.make_storing.new.self.seat.now (answer.Put (Ok x))) (sym c.told.ensures) done.1, done.2)

pub returns-in-Some-clause-called : goal.returns-in-Some-clause-called
returns-in-Some-clause-called g c = (stored g (goal.at.returns-in-Some-clause-called g c).After-told).1

pub returns-in-Some-clause-rested : goal.returns-in-Some-clause-rested
returns-in-Some-clause-rested g c = (stored g (goal.at.returns-in-Some-clause-rested g c).After-told).2
