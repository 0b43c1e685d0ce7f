use Rattle.std.specs.Prelude.{slice_get}
use Rattle.std.proofs.Common.{ℕ, ◌≡◌, ◌+◌, ◌*◌, ◌<◌, ◌≤◌, drop, length}
use Rattle.mc_shards.specs.Counted.{keys_in_all}
use Rattle.mc_shards.specs.Plain.{AllBegin, seens}
use Rattle.mc_shards.specs.Sharded.{ArePassOf}
use Rattle.mc_shards.specs.Unlisted.{HaveMetFrom}
use Rattle.mc_shards.proofs.pass.Pass.try_len.Given as goal

abbrev pub invariant-loop-left : goal.invariant-loop-left
invariant-loop-left g l = record {
  of : ArePassOf l.shards l.self;
  begins : AllBegin (seens g.row.V l.fn.self) (seens g.row.V l.self);
  met : HaveMetFrom g.row.V l.left l.fn.self l.self;
  below : (i : ℕ) → i < l.left → slice_get l.self i ≡ slice_get l.fn.self i;
  few : l.left ≤ length l.shards.tables;
  counted : l.many ≡ keys_in_all (drop l.left (seens g.row.V l.self));
  room : l.many + l.shards.shape.items * l.left ≤ l.most;
}

abbrev pub decreases-loop-left : goal.decreases-loop-left
decreases-loop-left g l = l.left
