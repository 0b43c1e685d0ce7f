use Rattle.std.specs.Prelude.{slice_get}
use Rattle.std.proofs.Common.{ℕ, ◌≡◌, ◌<◌, ◌≤◌, drop, length}
use Rattle.mc_words.specs.Shapes.{HasShards}
use Rattle.mc_shards.specs.Inside.Listed.{AreListed}
use Rattle.mc_shards.specs.Plain.{AllBegin, seens}
use Rattle.mc_shards.specs.Sharded.{ArePassOf}
use Rattle.mc_shards.specs.Unlisted.{HaveMetFrom}
use Rattle.mc_shards.proofs.pass.Pass.list_all.Given as goal

abbrev pub invariant-loop-left : goal.invariant-loop-left
invariant-loop-left g l = record {
  of : ArePassOf l.shards l.self;
  begins : AllBegin (seens g.row.V l.fn.self) (seens g.row.V l.self);
  met : HaveMetFrom g.row.V l.left l.fn.self l.self;
  below : (i : ℕ) → i < l.left → slice_get l.self i ≡ slice_get l.fn.self i;
  few : l.left ≤ length l.shards.tables;
  many : HasShards (length l.shards.tables);
  listed : AreListed g.row.V l.shards.shape.mix (length l.shards.tables) l.left (drop l.left (seens g.row.V l.self)) l.all.items;
}

abbrev pub decreases-loop-left : goal.decreases-loop-left
decreases-loop-left g l = l.left
