use Rattle.std.proofs.Common.{ℕ, ◌-◌, ◌+◌, ap, get_or, length, arith}
use Rattle.mc_plan.specs.declared.answer.Why.{Why}
use Rattle.mc_plan.specs.declared.answer.Why.TheVariants.{NoPath}
use Rattle.cefrodil.proofs.Loaded.{one_told}
use Rattle.cefrodil.proofs.loading.tell_left.Goals as goal

pub loop-told-preserved : goal.loop-told-preserved
loop-told-preserved c =
    let left = c.args.left.now in let d : ℕ × Why = (0, NoPath) in let at : ℕ = length left - 1 - c.loop-told.told in let l : ℕ × Why = get_or left at d in
    λ rest sum. one_told left c.loop-told.statuses rest c.status_of_left.result d l (c.loop-told.invariant (rest + 1) (omega (arith, sum))) (omega (arith, sum))
    (ap (λ (k : ℕ). get_or left k d) (omega (arith, sum))) c.status_of_left.ensures (omega (arith, c.requires.named at d (omega arith), c.loop-told.auto.statuses))

pub returns : goal.returns
returns c = c.loop-told.invariant 0 (omega arith)
