use Rattle.std.proofs.Common.{ℕ, arith, subst}
use Rattle.mc_check.specs.Inside.Mentions.{IsBound}
use Rattle.mc_check.proofs.SortedMentions.{none_before, other_before, last_before}
use Rattle.mc_check.proofs.mentions.last_mention.Goals as goal

pub returns-then-count-eq0 : goal.returns-then-count-eq0
returns-then-count-eq0 c = λ V h a within.
    let n = c.count_before-count.result in
    let bound = subst (λ (b : ℕ). IsBound c.args.mentions.now b n) c.rank.ensures (c.count_before-count.ensures.bound a.sorted) in
    none_before h c.args.mentions.now c.args.key c.args.moment n a bound c.if-count-eq0.true

pub returns-then-last-key : goal.returns-then-last-key
returns-then-last-key c = λ V h a within.
    let n = c.count_before-count.result in
    let bound = subst (λ (b : ℕ). IsBound c.args.mentions.now b n) c.rank.ensures (c.count_before-count.ensures.bound a.sorted) in
    last_before h c.args.mentions.now c.args.key c.args.moment n _ within a bound (omega (arith, c.if-count-eq0.false)) c.if-last-key.true

pub returns-else-last-key : goal.returns-else-last-key
returns-else-last-key c = λ V h a within.
    let n = c.count_before-count.result in
    let bound = subst (λ (b : ℕ). IsBound c.args.mentions.now b n) c.rank.ensures (c.count_before-count.ensures.bound a.sorted) in
    other_before h c.args.mentions.now c.args.key c.args.moment n _ within a bound (omega (arith, c.if-count-eq0.false)) c.if-last-key.false
