use Rattle.std.proofs.Common.{arith}
use Rattle.mc_cache.proofs.NewWriters.{rested_new}
use Rattle.refusals.proofs.loading.see_entries.Goals as goal

pub put_both-requires-clause-rested : goal.put_both-requires-clause-rested
put_both-requires-clause-rested c =
    rested_new 1 c.in-Ok.checked c.in-Ok-new.books c.in-Ok-open.seat c.in-Ok-open.cells c.in-Ok-open.ensures.writer c.in-Ok-open.ensures.cells c.in-Ok-new.ensures.shape
    (c.in-Ok-new.ensures.books 1 (record { some = omega (arith); most = omega (arith) }))
