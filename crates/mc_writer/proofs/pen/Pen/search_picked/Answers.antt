use Rattle.std.proofs.Common.{ap, arith, sym, ◌∙◌}
use Rattle.mc_shared.specs.Views.{layout_of}
use Rattle.mc_writer.specs.Inside.Pens.{state_at}
use Rattle.mc_writer.proofs.Searched.{picked_ended}
use Rattle.mc_writer.proofs.WholeCalls.{shape_there}
use Rattle.mc_writer.proofs.pen.Pen.search_picked.Goals as goal

pub read_round-requires : goal.read_round-requires
read_round-requires g c =
    (omega arith, (c.requires.known, (c.pick-pick.ensures.picking, shape_there g.row.V c.args.self.now c.args.books.now c.requires.layout)))

pub returns-clause-ended : goal.returns-clause-ended
returns-clause-ended g c =
    let h = c.read_round.ensures.picked in
    let told = c.read_victim.ensures h.0 h.1.picking in
    picked_ended g.row.V c.read_round.new.books c.read_round.new.pick c.args.self.now c.read_round.new.self h.0 c.read_victim.result (c.requires.layout ∙ ap (layout_of g.row.V) (sym c.read_round.ensures.shape)) c.requires.some h.1 (c.read_round.ensures.most ∙ c.pick-pick.ensures.keys g.row.V (state_at g.row.V c.args.self.now) c.requires.known) h.2 told.1
