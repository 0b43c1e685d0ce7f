use Rattle.std.proofs.Common.{◌≡◌}
use Rattle.mc_door.proofs.writes.try_within.Given as goal

abbrev pub invariant-loop : goal.invariant-loop
invariant-loop g l = record {
  same : g.S.Caller.role l.side ≡ g.S.Caller.role l.fn.side;
}
