use Rattle.std.proofs.Common.{arith}
use Rattle.mc_words.specs.Checks.{shape_of}
use Rattle.mc_theory.specs.Lists.{state_of}
use Rattle.mc_writer.proofs.Rests.{agrees_in}
use Rattle.mc_cache.proofs.listing.list_beside.Goals as goal

pub entries-requires : goal.entries-requires
entries-requires g c =
    let V = g.row.V in
    let s = state_of V c.args.cells.now.layout.shape c.args.seat.now.acts in
    (omega (arith, c.requires.rested.known.width.most), (c.requires.rested.known.width, (s.history, agrees_in V c.args.cells.now c.args.books.now c.args.seat.now c.requires.of c.requires.rested (shape_of c.checked-checked.result.now) c.checked-checked.ensures.layout)))

pub returns-clause-entries : goal.returns-clause-entries
returns-clause-entries g c =
    let V = g.row.V in
    let s = state_of V c.args.cells.now.layout.shape c.args.seat.now.acts in
    c.entries.ensures.entries s.history (agrees_in V c.args.cells.now c.args.books.now c.args.seat.now c.requires.of c.requires.rested (shape_of c.checked-checked.result.now) c.checked-checked.ensures.layout)
