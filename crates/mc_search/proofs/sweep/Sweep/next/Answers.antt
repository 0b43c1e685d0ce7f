use Rattle.std.proofs.Common.{◌∙◌, inl, inr, sym}
use Rattle.mc_search.specs.Sweeps.{next_item}
use Rattle.mc_search.proofs.SweepReadings.{next_none, next_some}
use Rattle.mc_search.proofs.sweep.Sweep.next.Goals as goal
use Rattle.mc_search.proofs.sweep.Sweep.next.Goals.{then-is_some-via-then-is_some, then-is_some-via-else-is_some+then-self-eq0}

pub returns-then-is_some-clause-value : goal.returns-then-is_some-clause-value
unfolding next_item
returns-then-is_some-clause-value c =
    let s = c.args.self.now in
    sym (elim c.then-is_some.branch [
      | then-is_some-via-then-is_some w ↦ next_none s.victim s.left s.hand (inl (sym c.is_some.ensures ∙ w.if-is_some.true))
      | then-is_some-via-else-is_some+then-self-eq0 w ↦ next_none s.victim s.left s.hand (inr w.if-self-eq0.true)
    ])

pub returns-clause-value : goal.returns-clause-value
unfolding next_item
returns-clause-value c =
    let s = c.args.self.now in
    sym (next_some s.victim s.left s.hand (sym c.is_some.ensures ∙ c.if-is_some.false) c.if-self-eq0.false)
