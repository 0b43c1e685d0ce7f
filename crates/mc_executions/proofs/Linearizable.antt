-- Calls are linearizable.
use mathlib.Core.Logic.{dite}
use native.Mathlib.Decide.{dec_le}
use Rattle.std.proofs.Common.{◌≡◌, ℕ, suc, ◌<◌, arith}
use Rattle.mc_words.specs.declared.policy.Policy.{Policy}
use Rattle.mc_words.specs.declared.shape.Shape.{Shape}
use Rattle.mc_shared.specs.Views.{layout_with}
use Rattle.mc_executions.specs.Executions.{TableState, IsExecution}
use Rattle.mc_executions.specs.Linearizable.{CallsAreLinearizable, TakesEffect}
use Rattle.mc_executions.proofs.TimedChanges.{changes_are_steps, many_rise}

module _ (V : ℕ) {policy : Policy} (sh : Shape) (states : ℕ → TableState) (run : IsExecution (layout_with V policy sh) states) where
  -- a change of a greater number takes effect at a later step
  later : (c c' m m' : ℕ) → TakesEffect V sh states run c m → TakesEffect V sh states run c' m' → c < c' → m < m'
  later c c' m m' x y less = dite (dec_le m' m)
      (λ le. let rise = many_rise V sh states run m' m le in absurd (omega (arith, rise, x.0, y.0, less)))
      (λ no. omega (arith, no))

  same : (c m m' : ℕ) → TakesEffect V sh states run c m → TakesEffect V sh states run c m' → m ≡ m'
  same c m m' x y = dite (dec_le (suc m) m')
      (λ le. let rise = many_rise V sh states run (suc m) m' le in absurd (omega (arith, rise, x.1, y.0)))
      (λ no. dite (dec_le (suc m') m)
      (λ le. let rise = many_rise V sh states run (suc m') m le in absurd (omega (arith, rise, y.1, x.0)))
      (λ no'. omega (arith, no, no')))

pub calls_are_linearizable : (V : ℕ) → CallsAreLinearizable V
calls_are_linearizable V policy sh states run lookups writes looked wrote = record {
  lookup = λ n x at.
      let y = looked n x at in
      let held = y.4.held in
      (held.0, omega (arith, y.2, held.1), omega (arith, y.3, held.2), held.3);
  change = λ n c w at low high.
      let y = wrote n w at in
      let m = changes_are_steps V policy sh states run w.called w.returned c y.1.0 y.1.1 y.0 y.1.2 y.1.3 (omega (arith, y.1.4, low)) (omega (arith, y.1.5, high)) in
      (m.0, m.1, m.2, (m.3, m.4));
  in_order = later V sh states run;
  once = same V sh states run;
}
