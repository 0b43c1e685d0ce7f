use Rattle.std.proofs.Common.{refl}
use Rattle.std.proofs.lemmas.List.{get_or_default}
use Rattle.mc_load.proofs.refusing.refused_lookup.Goals as goal

pub returns-in-Some-clause-some : goal.returns-in-Some-clause-some
returns-in-Some-clause-some g c = (
  c.loop-n.n,
  refl,
  record {
    below = c.loop-n-test.true;
    reader = _;
    is = get_or_default c.args.reader_threads.now c.loop-n.n _ _ c.loop-n-test.true;
    refused = c.in-Some.is;
    first = c.loop-n.invariant;
  },
)
