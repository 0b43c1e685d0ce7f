use Rattle.mc_theory.proofs.Lists.HandTurns.{turn_over, turn_on}
use Rattle.mc_plan.proofs.books.evicting.past.Goals as goal

pub returns-then-next-items : goal.returns-then-next-items
returns-then-next-items c = turn_over c.args.item c.args.items c.if-next-items.true

pub returns : goal.returns
returns c = turn_on c.args.item c.args.items c.requires c.if-next-items.false
