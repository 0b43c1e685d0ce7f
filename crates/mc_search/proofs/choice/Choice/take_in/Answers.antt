use Rattle.std.proofs.Common.{inl, inr}
use Rattle.mc_search.proofs.ItemBits.{clear_from}
use Rattle.mc_search.proofs.choice.Choice.take_in.Goals as goal

pub add-requires-clause-absent : goal.add-requires-clause-absent
add-requires-clause-absent c = clear_from c.args.self.now.proven.words.items c.args.item (λ set. c.requires.idle (inr set))

pub add-requires-else-take-clause-absent : goal.add-requires-else-take-clause-absent
add-requires-else-take-clause-absent c = clear_from c.args.self.now.fresh.words.items c.args.item (λ set. c.requires.idle (inl set))
