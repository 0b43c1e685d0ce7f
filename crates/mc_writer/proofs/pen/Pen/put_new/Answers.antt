use Rattle.std.proofs.Common.{arith, refl}
use Rattle.mc_plan.specs.Books.{HasRoom}
use Rattle.mc_writer.specs.Inside.Pens.{state_at}
use Rattle.mc_writer.proofs.WholeCalls.{parts_there, still_there}
use Rattle.mc_writer.proofs.pen.Pen.put_new.Goals as goal

pub put_in-requires : goal.put_in-requires
put_in-requires g c =
    let V = g.row.V in
    let pen = c.args.self.now in
    let b = c.args.books.now in
    let has = c.in-Some.ensures.room c.args.key c.args.at c.args.value.now (state_at V pen) c.requires.lacks (parts_there V pen b c.requires.layout c.args.key c.args.parts c.requires.parts) refl in
    (omega arith, (omega (arith, c.requires.lacks.known.width.most), still_there V pen c.near.new.peek b b c.args.key c.args.parts (λ s. HasRoom V b c.args.key c.args.value.now s c.args.at c.in-Some.room) c.near.ensures.kept c.requires.layout refl c.requires.parts has))
