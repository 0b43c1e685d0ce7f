use Rattle.std.proofs.Common.{ℕ, ◌<◌, ◌≤◌, List, length, get_or, take, arith, refl, subst, sym}
use Rattle.std.proofs.lemmas.List.{length-set, take_all, take_more, take_more_set}
use Rattle.mc_words.specs.declared.history.Reply.{Reply}
use Rattle.mc_shards.specs.Plain.{seens}
use Rattle.mc_shards.specs.Sharded.{HaveLookedAt}
use Rattle.mc_shards.proofs.Many.{looked_more, one_more}
use Rattle.mc_shards.proofs.OneMap.{all_begin_same}
use Rattle.mc_shards.proofs.pass.Pass.get_many.Goals as goal

pub loop-n-init : goal.loop-n-init
loop-n-init g c = record {
  of = c.requires.of;
  looked = refl;
  many = c.requires.many;
  begins = all_begin_same (seens g.row.V c.args.self.now);
  answered = λ i l. absurd (omega (arith, l));
}

pub loop-n-preserved : goal.loop-n-preserved
loop-n-preserved g c =
    let V = g.row.V in
    let n = c.loop-n.n in
    let keys = c.args.keys.now in
    let was = c.loop-n.invariant in
    let below : n < length keys = omega (arith, c.loop-n-test.true) in
    let key = take_more keys n 0 below in
    let reply = take_more_set c.loop-n.replies n c.get.result (omega (arith, below, was.many)) in
    let more = one_more g.row.V c.args.shards.now c.args.self.now c.loop-n.self (seens g.row.V c.args.self.now) (seens g.row.V c.get.new.self) c.args.keys.now c.loop-n.replies c.loop-n.n c.get.result refl was.of (omega (arith, c.loop-n-test.true, was.many)) was.begins was.answered c.get.ensures.plain in
    record {
      of = c.get.ensures.of;
      looked = subst (λ (y : List ℕ × List (Reply V)). HaveLookedAt V c.args.shards.now y.0 c.args.self.now c.get.new.self y.1) (λ j. (sym key j, sym reply j))
          (looked_more V c.args.shards.now (take n keys) (get_or keys n 0) c.args.self.now c.loop-n.self c.get.new.self (take n c.loop-n.replies) c.get.result was.looked c.get.ensures.looked);
      many = omega (arith, was.many, length-set c.loop-n.replies c.loop-n.n c.get.result);
      begins = more.0;
      answered = more.1;
    }

pub returns-clause-looked : goal.returns-clause-looked
returns-clause-looked g c =
    let V = g.row.V in
    let n = c.loop-n.n in
    let keys = c.args.keys.now in
    let ends : length keys ≤ n = omega (arith, c.loop-n-test.false) in
    subst (λ (y : List ℕ × List (Reply V)). HaveLookedAt V c.args.shards.now y.0 c.args.self.now c.loop-n.self y.1)
    (λ j. (take_all n keys ends j, take_all n c.loop-n.replies (omega (arith, ends, c.loop-n.invariant.many)) j)) c.loop-n.invariant.looked
