use Rattle.std.proofs.Common.{ℕ, arith, rules, subst}
use Rattle.mc_check.specs.Inside.Mentions.{AreInTime}
use Rattle.mc_check.proofs.SortedMentions.{in_time}
use Rattle.mc_check.proofs.mentions.mentions_in_time.Goals as goal

pub returns : goal.returns
returns g c =
    in_time c.args.history.now c.loop-n.mentions.items (search rules) (subst (λ (n : ℕ). AreInTime c.args.history.now n c.loop-n.mentions.items) (omega (arith, c.loop-n-test.false, c.loop-n.auto.n-end)) c.loop-n.invariant)
