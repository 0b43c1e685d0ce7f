use Rattle.std.proofs.Common.{ap, sym, ◌∙◌}
use Rattle.mc_words.specs.Checks.{shape_of}
use Rattle.mc_theory.specs.declared.act.Act.TheVariants.{Item}
use Rattle.mc_shared.specs.Records.{Opening}
use Rattle.mc_shared.proofs.SeatSteps.{named_in, after_plain}
use Rattle.mc_shared.proofs.writer_calls.write_item.Goals as goal

pub item_place-at-requires-clause-item : goal.item_place-at-requires-clause-item
item_place-at-requires-clause-item g c =
    (named_in g.row.V (shape_of c.cells.inside.checked) c.args.cells.now c.args.writer.now (Item c.args.i c.args.j c.args.word) (ap (λ (o : Opening). o.layout) (sym c.cells.view_is) ∙ c.cells.invariant.0) c.requires.of c.known.ensures.run c.requires.allowed).0

pub invariant_of-writer : goal.invariant_of-writer
invariant_of-writer g c =
    after_plain c.writer.invariant c.writer.view_is c.cells.view_is c.cells.invariant.0 c.requires.of c.store_as_writer.new.seat.me (Item c.args.i c.args.j c.args.word) 0 tt c.requires.allowed c.store_as_writer.ensures.acts c.store_as_writer.ensures.noted
