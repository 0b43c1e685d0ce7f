use Rattle.std.proofs.Common.{rules, refl}
use Rattle.mc_load.proofs.Tries.{tried_none}
use Rattle.mc_load.proofs.ready.turn_thread_of.Goals as goal

pub returns : goal.returns
returns g c = λ s of. record {
  trying = search rules;
  tried = search rules;
  made = tried_none g.row.V s c.args.load c.args.number _ c.none.ensures.0 c.none.ensures.1 c.in_ok-journal.ensures.items;
  refused = refl;
  room = search rules;
}
