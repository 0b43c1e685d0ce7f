use Rattle.mc_plan.proofs.Calls.UsedItems.{keys_in_use}
use Rattle.mc_plan.proofs.books.Books.key_count.Goals as goal

pub used-requires : goal.used-requires
used-requires c = c.requires.2.kept

pub returns : goal.returns
returns c = λ V s of. keys_in_use V c.args.self.now s of c.used.result c.used.ensures
