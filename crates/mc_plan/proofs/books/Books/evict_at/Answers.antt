use Rattle.mc_plan.proofs.Calls.Evictions.{is_evicted}
use Rattle.mc_plan.proofs.books.Books.evict_at.Goals as goal

pub returns-clause-evicted : goal.returns-clause-evicted
returns-clause-evicted g c m old same cleared =
    let b = c.args.self.now in
    is_evicted g.row.V b m c.args.item c.victim-victim.result c.give_noted.new.self b.checked.sound old cleared (c.victim-victim.ensures.victim b.hand m old same) c.requires.unspent
    c.give_noted.ensures.kept c.give_noted.ensures.policy c.give_noted.ensures.items c.give_noted.ensures.gives
