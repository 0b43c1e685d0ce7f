use Rattle.std.proofs.Common.{ℕ, ◌-◌, List, arith, drop, length, refl, subst, sym}
use Rattle.mc_words.specs.Shapes.{HasShards}
use Rattle.mc_shards.proofs.ListedShards.{begins_more, changes_as, listed_all, listed_more, listed_none, met_more, met_none, not_listed, still_below, stopped}
use Rattle.mc_shards.proofs.OneMap.{all_begin_same}
use Rattle.mc_shards.specs.Inside.Listed.{AreListed}
use Rattle.mc_shards.specs.Plain.{seens}
use Rattle.mc_shards.specs.Unlisted.{HasNotListed}
use Rattle.mc_shards.proofs.pass.Pass.list_all.Goals as goal

pub loop-left-init : goal.loop-left-init
loop-left-init g c = record {
  of = c.requires.of;
  begins = all_begin_same (seens g.row.V c.args.self.now);
  met = met_none g.row.V c.args.shards.now c.args.self.now c.count-left.result c.requires.of c.count-left.ensures.count;
  below = λ i less. refl;
  few = omega (arith, c.count-left.ensures.count);
  many = subst HasShards c.count-left.ensures.count c.count-left.ensures.power;
  listed = subst (λ (es : List (ℕ × List ℕ)). AreListed g.row.V c.args.shards.now.shape.mix (length c.args.shards.now.tables) c.count-left.result (drop c.count-left.result (seens g.row.V c.args.self.now)) es) (sym c.new-all.ensures.items)
      (listed_none g.row.V c.args.shards.now c.args.self.now c.count-left.result c.requires.of c.count-left.ensures.count);
}

pub loop-left-preserved : goal.loop-left-preserved
loop-left-preserved g c =
    let was = c.loop-left.invariant in
    let hs = seens g.row.V c.loop-left.self in
    let hs' = seens g.row.V c.list_shard.new.self in
    record {
      of = c.list_shard.ensures.of;
      begins = begins_more g.row.V (c.loop-left.left - 1) (seens g.row.V c.args.self.now) hs hs' was.begins c.list_shard.ensures.begins;
      met = met_more g.row.V (c.loop-left.left - 1) c.loop-left.left c.args.self.now c.loop-left.self c.list_shard.new.self (omega (arith, c.loop-left-test.true)) was.below was.met c.in-Ok.ensures.met;
      below = λ i less. still_below (c.loop-left.left - 1) c.loop-left.left i c.args.self.now c.loop-left.self c.list_shard.new.self _ (omega (arith, c.loop-left-test.true)) was.below c.list_shard.ensures.met less;
      few = omega (arith, was.few);
      many = was.many;
      listed = listed_more g.row.V c.args.shards.now.shape.mix (length c.args.shards.now.tables) c.loop-left.left (c.loop-left.left - 1) hs hs' c.loop-left.all.items c.list_shard.new.all.items (omega (arith, c.loop-left-test.true)) was.listed
          c.in-Ok.ensures.listed;
    }

pub returns-in-Err-clause-begins : goal.returns-in-Err-clause-begins
returns-in-Err-clause-begins g c =
    begins_more g.row.V (c.loop-left.left - 1) (seens g.row.V c.args.self.now) (seens g.row.V c.loop-left.self) (seens g.row.V c.list_shard.new.self) c.loop-left.invariant.begins c.list_shard.ensures.begins

pub returns-in-Err-clause-stopped : goal.returns-in-Err-clause-stopped
returns-in-Err-clause-stopped g c =
    let was = c.loop-left.invariant in
    stopped g.row.V (c.loop-left.left - 1) c.loop-left.left c.args.self.now c.loop-left.self c.list_shard.new.self c.in-Err.why (omega (arith, c.loop-left-test.true)) was.below was.met
    (changes_as (c.loop-left.left - 1) c.loop-left.self c.list_shard.new.self _ (λ r r'. HasNotListed g.row.V c.in-Err.why r r') (λ r r' t. not_listed (Unit {0}) g.row.V c.in-Err.why r r' t) c.in-Err.ensures.met)

pub returns-clause-plain : goal.returns-clause-plain
returns-clause-plain g c =
    let was = c.loop-left.invariant in
    listed_all g.row.V c.args.shards.now c.loop-left.self c.loop-left.left c.loop-left.all.items was.many was.of (omega (arith, c.loop-left-test.false)) was.listed
