use Rattle.mc_search.proofs.ItemBits.{clear_from}
use Rattle.mc_search.proofs.choice.Choice.renew.Goals as goal

pub add-requires-clause-absent : goal.add-requires-clause-absent
add-requires-clause-absent c =
    clear_from c.args.self.now.fresh.words.items c.args.item (λ set. c.requires.kept.apart c.args.item set c.requires.proven)
