use Rattle.std.proofs.Common.{subst}
use Rattle.mc_search.specs.declared.free.FreeList.{FreeList}
use Rattle.mc_search.specs.Free.{IsInList}
use Rattle.mc_plan.proofs.Calls.AfterPlan.{books_kept}
use Rattle.mc_plan.proofs.books.Books.after_read.Goals as goal

pub returns-clause-books : goal.returns-clause-books
returns-clause-books c V s old = books_kept V c.args.self.now s c.after.new.self old c.after.ensures.kept c.after.ensures.policy c.after.ensures.list

pub returns-clause-waits : goal.returns-clause-waits
returns-clause-waits c V k v s room waits = record {
  known = books_kept V c.args.self.now s c.after.new.self waits.known c.after.ensures.kept c.after.ensures.policy c.after.ensures.list;
  key = waits.key;
  value = waits.value;
  unspent = waits.unspent;
  absent = waits.absent;
  least = waits.least;
  none = λ i free. waits.none i (subst (λ (l : FreeList). IsInList l i) c.after.ensures.list free);
}
