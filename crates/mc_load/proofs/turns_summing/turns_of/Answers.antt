use Rattle.std.proofs.Common.{rules, ◌≡◌, ◌+◌, ap, arith, get_or}
use Rattle.std.proofs.lemmas.List.{get_or_default}
use Rattle.mc_load.specs.declared.turn_thread.TurnThread.{TurnThread}
use Rattle.mc_load.specs.declared.turns.Turns.{Turns}
use Rattle.mc_load.proofs.Each.{each_written}
use Rattle.mc_load.proofs.turns_summing.turns_of.Goals as goal

pub loop-n-preserved : goal.loop-n-preserved
loop-n-preserved g c =
    let place = c.loop-n-test.true in
    let few = c.requires.few in
    let many = c.loop-n.invariant.many in
    record {
      many = search rules;
      each = each_written (λ n (t : Turns). t.held + t.answered ≡ c.args.load.writes) c.loop-n.turns c.loop-n.n _ (omega (arith, place, few, many)) c.loop-n.invariant.each (c.requires.tried c.loop-n.n _ place).counted;
      those = λ k d under.
          each_written (λ n (t : Turns). (e : TurnThread g.row.V) → t ≡ (get_or c.args.turn_threads.now n e).turns) c.loop-n.turns c.loop-n.n _ (omega (arith, place, few, many)) (λ j f low. c.loop-n.invariant.those j f low)
          (λ e. ap (λ (t : TurnThread g.row.V). t.turns) (get_or_default c.args.turn_threads.now c.loop-n.n _ e place)) k d under;
    }
