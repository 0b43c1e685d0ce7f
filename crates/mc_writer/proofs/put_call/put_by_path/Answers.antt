use Rattle.std.proofs.Common.{[], Err, arith, refl, rules}
use Rattle.mc_plan.specs.Books.{HasRoom}
use Rattle.mc_plan.specs.WholeCalls.{PutCall}
use Rattle.mc_plan.specs.declared.answer.Answer.TheVariants as answer
use Rattle.mc_plan.specs.declared.answer.PutError.TheVariants as refusal
use Rattle.mc_writer.specs.Inside.Pens.{state_at}
use Rattle.mc_writer.proofs.WholeCalls.{not_turned, parts_there, pen_of, refused_now, still_there}
use Rattle.mc_writer.proofs.put_call.put_by_path.Goals as goal

pub put_in-requires : goal.put_in-requires
put_in-requires g c =
    let V = g.row.V in
    let pen = pen_of c.by_path.ensures.kept in
    let b = c.by_path.new.self in
    let has = c.in-Some.ensures.room c.args.key c.args.at c.args.value.now (state_at V pen) c.requires.crowded (parts_there V pen c.args.books.now c.requires.layout c.args.key c.parts-parts.result c.parts-parts.ensures) refl in
    (omega arith, (omega (arith, c.requires.crowded.lacks.known.width.most), still_there V pen c.by_path.new.peek c.args.books.now b c.args.key c.parts-parts.result (λ s. HasRoom V b c.args.key c.args.value.now s c.args.at c.in-Some.room) c.by_path.ensures.kept c.requires.layout c.by_path.ensures.shape c.parts-parts.ensures has))

pub returns-in-None-clause-called : goal.returns-in-None-clause-called
returns-in-None-clause-called g c =
    let V = g.row.V in
    let pen = pen_of c.by_path.ensures.kept in
    let without = c.in-None.ensures.room c.args.key c.args.at c.args.value.now (state_at V pen) c.requires.crowded (parts_there V pen c.args.books.now c.requires.layout c.args.key c.parts-parts.result c.parts-parts.ensures) refl in
    let done = refused_now V pen c.by_path.new.peek c.args.books.now c.by_path.new.self (PutCall c.args.key c.args.value.now) (answer.Put (Err refusal.NoPath)) [] c.requires.layout c.by_path.ensures.shape (not_turned V pen c.by_path.new.peek c.by_path.ensures.kept) without refl in
    search (rules, done.1)

pub returns-in-None-clause-rested : goal.returns-in-None-clause-rested
returns-in-None-clause-rested g c =
    let V = g.row.V in
    let pen = pen_of c.by_path.ensures.kept in
    let without = c.in-None.ensures.room c.args.key c.args.at c.args.value.now (state_at V pen) c.requires.crowded (parts_there V pen c.args.books.now c.requires.layout c.args.key c.parts-parts.result c.parts-parts.ensures) refl in
    let done = refused_now V pen c.by_path.new.peek c.args.books.now c.by_path.new.self (PutCall c.args.key c.args.value.now) (answer.Put (Err refusal.NoPath)) [] c.requires.layout c.by_path.ensures.shape (not_turned V pen c.by_path.new.peek c.by_path.ensures.kept) without refl in
    search (rules, done.2)
