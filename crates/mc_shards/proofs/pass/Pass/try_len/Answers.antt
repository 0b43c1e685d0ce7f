use Rattle.std.proofs.Common.{ℕ, ◌≡◌, ◌-◌, ◌*◌, arith, ap, refl}
use Rattle.mc_cache.specs.Plain.{Begins}
use Rattle.mc_cache.specs.Turns.{HasMetAtDesk}
use Rattle.mc_cache.specs.declared.desk.DeskError.TheVariants as desk
use Rattle.mc_shards.proofs.CountedShards.{counted_more, counted_none, room_left}
use Rattle.mc_shards.proofs.ListedShards.{begins_more, changes_as, met_more, met_none, still_below, stopped}
use Rattle.mc_shards.proofs.OneMap.{all_begin_same}
use Rattle.mc_shards.specs.Plain.{seens}
use Rattle.mc_shards.proofs.pass.Pass.try_len.Goals as goal

pub loop-left-init : goal.loop-left-init
loop-left-init g c = record {
  of = c.requires.of;
  begins = all_begin_same (seens g.row.V c.args.self.now);
  met = met_none g.row.V c.args.shards.now c.args.self.now c.count-left.result c.requires.of c.count-left.ensures.count;
  below = λ i less. refl;
  few = omega (arith, c.count-left.ensures.count);
  counted = counted_none g.row.V c.args.shards.now c.args.self.now c.count-left.result c.requires.of c.count-left.ensures.count;
  room = omega (arith, c.capacity-most.ensures, ap (λ (n : ℕ). c.args.shards.now.shape.items * n) c.count-left.ensures.count);
}

pub loop-left-preserved : goal.loop-left-preserved
loop-left-preserved g c =
    let was = c.loop-left.invariant in
    let hs = seens g.row.V c.loop-left.self in
    let hs' = seens g.row.V c.len_at.new.self in
    record {
      of = c.len_at.ensures.of;
      begins = begins_more g.row.V (c.loop-left.left - 1) (seens g.row.V c.args.self.now) hs hs' was.begins (changes_as _ _ _ _ (λ h h'. Begins h h') (λ h h' t. t.0) c.len_at.ensures.plain);
      met = met_more g.row.V (c.loop-left.left - 1) c.loop-left.left c.args.self.now c.loop-left.self c.len_at.new.self (omega (arith, c.loop-left-test.true)) was.below was.met
          (changes_as _ _ _ _ (λ r r'. HasMetAtDesk g.row.V r r') (λ r r' t. t.1) c.in-Some.ensures.met);
      below = λ i less. still_below (c.loop-left.left - 1) c.loop-left.left i c.args.self.now c.loop-left.self c.len_at.new.self _ (omega (arith, c.loop-left-test.true)) was.below c.len_at.ensures.met less;
      few = omega (arith, was.few);
      counted = counted_more g.row.V c.loop-left.left (c.loop-left.left - 1) hs hs' c.loop-left.many c.in-Some.more (omega (arith, c.loop-left-test.true)) was.counted c.in-Some.ensures.plain;
      room = room_left c.args.shards.now.shape.items c.loop-left.left (c.loop-left.left - 1) c.capacity-most.result c.loop-left.many c.in-Some.more (omega (arith, c.loop-left-test.true)) c.in-Some.ensures.few was.room;
    }

pub returns-in-None-clause-begins : goal.returns-in-None-clause-begins
returns-in-None-clause-begins g c =
    begins_more g.row.V (c.loop-left.left - 1) (seens g.row.V c.args.self.now) (seens g.row.V c.loop-left.self) (seens g.row.V c.len_at.new.self) c.loop-left.invariant.begins (changes_as _ _ _ _ (λ h h'. Begins h h') (λ h h' t. t.0) c.len_at.ensures.plain)

pub returns-in-None-clause-stopped : goal.returns-in-None-clause-stopped
returns-in-None-clause-stopped g c =
    let was = c.loop-left.invariant in (
      c.loop-left.left - 1,
      stopped g.row.V (c.loop-left.left - 1) c.loop-left.left c.args.self.now c.loop-left.self c.len_at.new.self desk.Held (omega (arith, c.loop-left-test.true)) was.below was.met
          (changes_as _ _ _ _ (λ r r'. r' ≡ r) (λ r r' t. t.0) c.in-None.ensures.met),
    )
