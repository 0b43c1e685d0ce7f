use Rattle.std.proofs.Common.{[], Err, arith, ◌∙◌, refl, subst}
use Rattle.mc_plan.specs.Books.{HasRoom, Waits}
use Rattle.mc_plan.specs.WholeCalls.{KeptCall}
use Rattle.mc_plan.specs.declared.answer.Answer.TheVariants as answer
use Rattle.mc_plan.specs.declared.answer.PutError.TheVariants as refusal
use Rattle.mc_plan.specs.declared.answer.Why.TheVariants as left
use Rattle.mc_plan.proofs.Calls.KeptCalls.{kept_planned, refused_item}
use Rattle.mc_writer.specs.Inside.Pens.{IsSamePen, state_at}
use Rattle.mc_writer.specs.WriterCalls.{HasCalled, IsRested}
use Rattle.mc_writer.specs.declared.pen.Pen.{Pen}
use Rattle.mc_writer.proofs.WholeCalls.{not_turned, parts_there, refused_now, still_there}
use Rattle.mc_writer.proofs.pen.Pen.put_kept_new.Goals as goal
use Rattle.mc_writer.proofs.pen.Pen.put_kept_new.Goals.{In_default}
use Rattle.mc_writer.proofs.pen.Pen.put_kept_new.Given.{Over}

pub store_in-requires : goal.store_in-requires
store_in-requires g c =
    let V = g.row.V in
    let pen = c.args.self.now in
    let b = c.room.new.self in
    let has = c.in-Some.ensures.room c.args.key c.args.at c.args.value.now (state_at V pen) c.requires.lacks (parts_there V pen c.args.books.now c.requires.layout c.args.key c.args.parts c.requires.parts) refl in
    (omega arith, (omega (arith, c.requires.lacks.known.width.most), still_there V pen c.room.new.peek c.args.books.now b c.args.key c.args.parts (λ s. HasRoom V b c.args.key c.args.value.now s c.args.at c.in-Some.room) c.room.ensures.kept c.requires.layout c.room.ensures.shape c.requires.parts has))

-- no path leads to a hole
pathless : (g : Over) (c : In_default g) → IsSamePen g.row.V c.args.self.now c.room.new.peek × HasCalled g.row.V c.args.self.now.cells.now.layout.shape (KeptCall c.args.key c.args.value.now) c.args.self.now.seat.now c.room.new.peek.seat.now (answer.Kept (Err left.NoPath)) × IsRested g.row.V c.room.new.self c.room.new.peek.seat.now
pathless g c =
    let V = g.row.V in
    let pen = c.args.self.now in
    let b = c.room.new.self in
    let without = c.in_default.ensures.room c.args.key c.args.at c.args.value.now (state_at V pen) c.requires.lacks (parts_there V pen c.args.books.now c.requires.layout c.args.key c.args.parts c.requires.parts) refl in
    let planned = kept_planned V b [] c.args.key c.args.value.now (state_at V pen) (Err refusal.NoPath) refl without in
    refused_now V pen c.room.new.peek c.args.books.now b (KeptCall c.args.key c.args.value.now) (answer.Kept (Err left.NoPath)) [] c.requires.layout c.room.ensures.shape (not_turned V pen c.room.new.peek c.room.ensures.kept) planned refl

pub returns-in_default-clause-called : goal.returns-in_default-clause-called
returns-in_default-clause-called g c = (pathless g (goal.at.returns-in_default-clause-called g c).In_default).1

pub returns-in_default-clause-rested : goal.returns-in_default-clause-rested
returns-in_default-clause-rested g c = (pathless g (goal.at.returns-in_default-clause-rested g c).In_default).2

pub returns-in-None-clause-called : goal.returns-in-None-clause-called
returns-in-None-clause-called g c =
    let V = g.row.V in
    let pen = c.args.self.now in
    let b = c.store_in.new.books in
    let waits = subst (λ (x : Pen V). Waits V b c.args.key c.args.value.now (state_at V x) c.in-Some.room) c.room.ensures.kept c.in-None.ensures.waits in
    let planned = refused_item V b c.args.key c.args.value.now (state_at V pen) c.in-Some.room waits in
    (refused_now V pen c.store_in.new.self c.args.books.now b (KeptCall c.args.key c.args.value.now) (answer.Kept (Err left.NoItem)) [] c.requires.layout (c.store_in.ensures.shape ∙ c.room.ensures.shape) (not_turned V pen c.store_in.new.self (c.in-None.ensures.pen ∙ c.room.ensures.kept)) planned refl).1
