-- Lookups of shards in time.
use mathlib.Core.Logic.{dite}
use native.Mathlib.Decide.{ℕ_discrete}
use Rattle.std.proofs.Common.{◌≡◌, ⊎_elim, ℕ, zero, suc, ◌+◌, ◌-◌, ◌≤◌, List, [], ap, sym, ◌∙◌, subst, arith}
use Rattle.std.specs.Prelude.{slice_index_or}
use Rattle.mc_words.specs.History.{map_value}
use Rattle.mc_words.specs.Keys.{shard_of}
use Rattle.mc_words.specs.declared.history.Change.{Change}
use Rattle.mc_words.specs.declared.history.Reply.{Reply}
use Rattle.mc_words.specs.declared.history.Reply.TheVariants.{Found, Absent, Busy}
use Rattle.mc_words.specs.declared.mix.Mix.{Mix}
use Rattle.mc_shards.specs.Plain.{Tells, history_of}
use Rattle.mc_executions.specs.ShardedTime.{AreStepsOf, ShardsAreTimed}
use Rattle.mc_executions.specs.TimedLookups.{HoldsNow, history_at}

-- each number of steps that a shard makes between two times is that at some time between them
meets : (steps : ℕ → ℕ → ℕ) (s : ℕ) → AreStepsOf steps → (d i c : ℕ) → steps i s ≤ c → c ≤ steps (i + d) s → (n : ℕ) × (i ≤ n) × (n ≤ i + d) × (steps n s ≡ c)
meets steps s are zero i c low high = let here : i + 0 ≡ i = omega arith in (i, omega arith, omega arith, omega (arith, low, high, ap (λ (n : ℕ). steps n s) here))
meets steps s are (suc d) i c low high = dite (ℕ_discrete (steps i s) c)
    (λ e. (i, omega arith, omega arith, e))
    (λ ne.
    let more : steps (suc i) s ≤ c = ⊎_elim (λ same. omega (arith, same, low)) (λ one. omega (arith, one, low, ne)) (are.one i s) in
    let x = meets steps s are d (suc i) c more (subst (λ (n : ℕ). c ≤ steps n s) (omega arith) high) in
    (x.0, omega (arith, x.1), omega (arith, x.2), x.3))

-- what the map of the key's shard holds is what the one map holds
tells : {V : ℕ} (mix : Mix) (hs : List (List (Change V))) (h : List (Change V)) (k : ℕ) (reply : Reply V) → history_of mix hs k ≡ h → HoldsNow h k reply → Tells mix hs k reply
tells mix hs h k (Found v at since) same now = ap (λ (z : List (Change _)). map_value z k) same ∙ now.0
tells mix hs h k (Absent at) same now = ap (λ (z : List (Change _)). map_value z k) same ∙ now.0
tells mix hs h k Busy same now = tt

pub shards_are_timed : (V : ℕ) → ShardsAreTimed V
shards_are_timed V policy sh count states runs steps hs i j k first last reply are histories le inside begins ends timed =
    let s = shard_of sh.mix count k in
    let m = timed.held in
    let whole : i + (j - i) ≡ j = omega (arith, le) in
    let high : m.0 ≤ steps j s = omega (arith, ends, m.2) in
    let x = meets steps s are (j - i) i m.0 (omega (arith, begins, m.1)) (subst (λ (n : ℕ). m.0 ≤ steps n s) (sym whole) high) in
    let here : history_of sh.mix (hs x.0) k ≡ history_at V sh (states s) (runs s) m.0 =
    ap (λ (n : ℕ). slice_index_or (hs x.0) (shard_of sh.mix n k) []) (histories.many x.0) ∙ (histories.each x.0 s inside ∙ ap (history_at V sh (states s) (runs s)) x.3) in
    (x.0, x.1, omega (arith, x.2, le), omega (arith, x.3, m.1), omega (arith, x.3, m.2), tells sh.mix (hs x.0) _ k reply here m.3)
