use Rattle.std.proofs.Common.{◌∙◌, ap, refl}
use Rattle.std.proofs.lemmas.List.{get_or_default}
use Rattle.mc_load.specs.declared.turn_thread.TurnThread.{TurnThread}
use Rattle.mc_load.proofs.refusing.refused_try.Goals as goal

pub returns-in-Some-clause-some : goal.returns-in-Some-clause-some
returns-in-Some-clause-some g c = (
  c.loop-n.n,
  record {
    below = c.loop-n-test.true;
    writer = _;
    is = get_or_default c.args.turn_threads.now c.loop-n.n _ _ c.loop-n-test.true;
    named = refl;
    refused = ap (λ (t : TurnThread g.row.V). t.refused) (get_or_default c.args.turn_threads.now c.loop-n.n _ _ c.loop-n-test.true) ∙ c.in-Some.is;
  },
)
