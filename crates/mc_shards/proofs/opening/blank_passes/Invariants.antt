use Rattle.std.proofs.Common.{◌≡◌, [], length}
use Rattle.std.specs.List.{All}
use Rattle.mc_shards.specs.Inside.Dealt.{AreDealt}
use Rattle.mc_shards.proofs.opening.blank_passes.Given as goal

abbrev pub invariant-loop-n : goal.invariant-loop-n
invariant-loop-n g l = record {
  many : length l.given.items ≡ l.n;
  blank : All (AreDealt []) l.given.items;
}
