-- In every execution moments are in the order of time.
use Rattle.std.proofs.Common.{ℕ, ◌≤◌, List, length, ap, arith}
use Rattle.mc_words.specs.declared.history.Reply.{Reply}
use Rattle.mc_words.specs.declared.history.Reply.TheVariants.{Found, Absent, Busy}
use Rattle.mc_theory.specs.Lists.{Made, state_of}
use Rattle.mc_theory.specs.Plain.{IsBetween}
use Rattle.mc_shared.specs.Views.{layout_with}
use Rattle.mc_executions.specs.TimeOrder.{IsAt, MomentsKeepOrder, WritesAreSeen}
use Rattle.mc_executions.proofs.ExecutionRuns.{acts_are}
use Rattle.mc_executions.proofs.TimedChanges.{many_rise}

moment_high : {V : ℕ} (reply : Reply V) (m lo hi : ℕ) → IsAt reply m → IsBetween lo hi reply → m ≤ hi
moment_high (Found v at since) m lo hi e b = omega (arith, e, b.1)
moment_high (Absent at) m lo hi e b = omega (arith, e, b.1)
moment_high Busy m lo hi e b = absurd e

moment_low : {V : ℕ} (reply : Reply V) (m lo hi : ℕ) → IsAt reply m → IsBetween lo hi reply → lo ≤ m
moment_low (Found v at since) m lo hi e b = omega (arith, e, b.0)
moment_low (Absent at) m lo hi e b = omega (arith, e, b.0)
moment_low Busy m lo hi e b = absurd e

pub moments_keep_order : (V : ℕ) → MomentsKeepOrder V
moments_keep_order V policy sh states run k first last k' first' last' m m' reply reply' one two order at at' =
    let high = moment_high reply m _ _ at one.between in
    let low = moment_low reply' m' _ _ at' two.between in
    omega (arith, high, many_rise V sh states run last first' order, low)

pub writes_are_seen : (V : ℕ) → WritesAreSeen V
writes_are_seen V policy sh states run k first last m n reply acts one at h =
    let same = ap (λ (z : List Made). length (state_of V sh z).history) (acts_are (layout_with V policy sh) states run n acts h) in (
      λ le. omega (arith, moment_low reply m _ _ at one.between, many_rise V sh states run n first le, same),
      λ le. omega (arith, moment_high reply m _ _ at one.between, many_rise V sh states run last n le, same),
    )
