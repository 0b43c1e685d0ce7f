use Rattle.std.proofs.Common.{[], Err, Ok, arith, refl, subst}
use Rattle.mc_words.specs.Checks.{policy_of, shape_of}
use Rattle.mc_plan.specs.Books.{HasRoom}
use Rattle.mc_plan.specs.WholeCalls.{IsSweepOf, PutCall}
use Rattle.mc_plan.specs.declared.answer.Answer.TheVariants as answer
use Rattle.mc_plan.specs.declared.answer.PutError.TheVariants as refusal
use Rattle.mc_plan.proofs.Deeds.QuietStates.{absent_held}
use Rattle.mc_writer.specs.Inside.Pens.{IsSamePen, state_at}
use Rattle.mc_writer.specs.WriterCalls.{HasCalled, IsRested}
use Rattle.mc_writer.specs.declared.pen.Pen.{Pen}
use Rattle.mc_writer.proofs.Chosen.{unswept_old}
use Rattle.mc_writer.proofs.WholeCalls.{not_turned, parts_there, refused_now, still_there}
use Rattle.mc_writer.proofs.pen.Pen.swap_new.Goals as goal
use Rattle.mc_writer.proofs.pen.Pen.swap_new.Goals.{In_default}
use Rattle.mc_writer.proofs.pen.Pen.swap_new.Given.{Over}

pub store_in-requires : goal.store_in-requires
store_in-requires g c =
    let V = g.row.V in
    let pen = c.args.self.now in
    let b = c.room.new.self in
    let has = c.in-Some.ensures.room c.args.key c.args.at c.args.value.now (state_at V pen) c.requires.lacks (parts_there V pen c.args.books.now c.requires.layout c.args.key c.args.parts c.requires.parts) refl in
    (omega arith, (omega (arith, c.requires.lacks.known.width.most), still_there V pen c.room.new.peek c.args.books.now b c.args.key c.args.parts (λ s. HasRoom V b c.args.key c.args.value.now s c.args.at c.in-Some.room) c.room.ensures.kept c.requires.layout c.room.ensures.shape c.requires.parts has))

-- no path leads to a hole
pathless : (g : Over) (c : In_default g) → IsSamePen g.row.V c.args.self.now c.room.new.peek × HasCalled g.row.V c.args.self.now.cells.now.layout.shape (PutCall c.args.key c.args.value.now) c.args.self.now.seat.now c.room.new.peek.seat.now (answer.Put (Err refusal.NoPath)) × IsRested g.row.V c.room.new.self c.room.new.peek.seat.now
pathless g c =
    let V = g.row.V in
    let pen = c.args.self.now in
    let b = c.room.new.self in
    let without = c.in_default.ensures.room c.args.key c.args.at c.args.value.now (state_at V pen) c.requires.lacks (parts_there V pen c.args.books.now c.requires.layout c.args.key c.args.parts c.requires.parts) refl in
    refused_now V pen c.room.new.peek c.args.books.now b (PutCall c.args.key c.args.value.now) (answer.Put (Err refusal.NoPath)) [] c.requires.layout c.room.ensures.shape (not_turned V pen c.room.new.peek c.room.ensures.kept) without refl

pub returns-in_default-clause-called : goal.returns-in_default-clause-called
returns-in_default-clause-called g c = (pathless g (goal.at.returns-in_default-clause-called g c).In_default).1

pub returns-in_default-clause-rested : goal.returns-in_default-clause-rested
returns-in_default-clause-rested g c = (pathless g (goal.at.returns-in_default-clause-rested g c).In_default).2

pub returns-in-Some-store_in-clause-old : goal.returns-in-Some-store_in-clause-old
returns-in-Some-store_in-clause-old g c =
    let V = g.row.V in
    let pen = c.args.self.now in
    let s = state_at V pen in
    let lacks = c.requires.lacks in
    let unswept = subst (λ (x : Pen V). IsSweepOf V x.cells.now.layout.shape (policy_of c.room.new.self.checked) (state_at V x) [] (answer.Put (Ok c.in-Some-store_in.put))) c.room.ensures.kept c.in-Some-store_in.ensures.unswept in
    unswept_old V pen.cells.now.layout.shape (policy_of c.room.new.self.checked) s c.args.key c.in-Some-store_in.put unswept (absent_held V (shape_of c.args.books.now.checked) s c.args.key lacks.known.quiet lacks.absent)
