use Rattle.std.proofs.Common.{rules, ℕ, ◌≡◌, ◌+◌, subst}
use Rattle.mc_load.specs.Turns.{IsTryOf, drawn_turn}
use Rattle.mc_shards.specs.Sharded.{Sharded}
use Rattle.mc_load.specs.Inside.Handles.{place_of}
use Rattle.mc_load.specs.Inside.Tries.{tries_of}
use Rattle.mc_load.proofs.Tries.{tried_more}
use Rattle.mc_load.proofs.turn_thread.TurnThreadWork.run.Goals as goal

pub loop-n-preserved : goal.loop-n-preserved
loop-n-preserved g c =
    let V = g.row.V in
    let load = c.args.load in
    let sh = place_of c.args.self.now.handle in
    let n = c.loop-n.n in
    let before = tries_of c.loop-n.self in
    let after = tries_of c.make_call-at.new.self in
    let place : c.from-call.result + 1 ≡ n + 1 = search rules in
    let one = subst (λ (w : ℕ). IsTryOf V sh (drawn_turn V load w n) before after) c.loop-n.invariant.trying.number (subst (λ (s : Sharded). IsTryOf V s (drawn_turn V load c.loop-n.self.number n) before after) c.loop-n.invariant.trying.of (c.make_call-at.ensures.made load n place c.loop-n.invariant.tried.drawn)) in
    record {
      trying = search rules;
      tried = search rules;
      made = tried_more V sh load c.args.self.now.number n before after c.loop-n.invariant.made one;
      refused = search rules;
      room = search rules;
    }
