-- Along an execution each step makes at most one change of the map. So a number of changes that is reached is that of some state.
use mathlib.Core.Logic.{dite}
use native.Mathlib.Decide.{ℕ_discrete, dec_le}
use Rattle.std.proofs.Common.{◌≡◌, ℕ, zero, suc, ◌+◌, ◌-◌, ◌<◌, ◌≤◌, List, ◌++◌, length, take, ap, sym, ◌∙◌, subst, arith, length-append}
use Rattle.std.proofs.Math.Seq.{take-append_seam}
use Rattle.mc_words.specs.declared.policy.Policy.{Policy}
use Rattle.mc_words.specs.History.{IsTrueAnswer, map_value}
use Rattle.mc_words.specs.declared.history.Change.{Change}
use Rattle.mc_words.specs.declared.history.Reply.{Reply}
use Rattle.mc_words.specs.declared.history.Reply.TheVariants.{Found, Absent, Busy}
use Rattle.mc_words.specs.declared.shape.Shape.{Shape}
use Rattle.mc_theory.specs.Effects.{change_of, history_after}
use Rattle.mc_theory.specs.Lists.{Made, state_of}
use Rattle.mc_theory.specs.Phases.{Phase, Placed, Renewing, Removed}
use Rattle.mc_theory.specs.Plain.{IsBetween}
use Rattle.mc_theory.specs.States.{State}
use Rattle.mc_theory.specs.declared.act.Act.{Act}
use Rattle.mc_theory.specs.declared.act.Act.TheVariants as act
use Rattle.mc_theory.proofs.Lists.Fronts.{state_append, state_push}
use Rattle.mc_theory.proofs.Lists.Histories.{history_all}
use Rattle.mc_shared.specs.Views.{IsFrontOf, layout_with}
use Rattle.mc_executions.specs.Executions.{TableState, IsExecution}
use Rattle.mc_executions.specs.TimedLookups.{HoldsNow, history_at}
use Rattle.mc_executions.specs.TimeOrder.{ChangesAreSteps}
use Rattle.mc_executions.proofs.ExecutionRuns.{move, front_between, acts_are}
use Rattle.mc_executions.proofs.ExecutionSteps.{LogStep, rests, grows}
use Rattle.mc_executions.proofs.StepMoves.{log_step}

-- a deed makes at most one change
few : (V : ℕ) (p : Phase) → length (change_of {V = V} p) ≤ 1
few V (Placed k i xs) = omega arith
few V (Renewing k xs) = omega arith
few V (Removed k e) = omega arith
few V _ = omega arith

short : {V : ℕ} (h : List (Change V)) (p : Phase) (a : Act) → (length h ≤ length (history_after h p a)) × (length (history_after h p a) ≤ length h + 1)
short {V} h p act.Moment = let one = few V p in let all = length-append h (change_of p) in (omega (arith, all), omega (arith, all, one))
short h p (act.Open k d) = (omega arith, omega arith)
short h p (act.Slot q x) = (omega arith, omega arith)
short h p (act.Item i j x) = (omega arith, omega arith)
short h p act.Close = (omega arith, omega arith)
short h p (act.Hand i) = (omega arith, omega arith)
short h p (act.Mark i) = (omega arith, omega arith)

-- the history of a front begins that of the whole
pub begins_all : (V : ℕ) (sh : Shape) (xs ys : List Made) → IsFrontOf xs ys → (more : List (Change V)) × ((state_of V sh ys).history ≡ (state_of V sh xs).history ++ more)
begins_all V sh xs ys p =
    let h = history_all sh (state_of V sh xs) p.0 in
    (h.0, ap (λ (s : State V). s.history) (ap (state_of V sh) p.1 ∙ state_append V sh xs p.0) ∙ h.1)

-- the reply is true of a history whose first changes, as many as it names, are these. So their map holds it
now_of : {V : ℕ} (h all : List (Change V)) (k at : ℕ) (reply : Reply V) → ((more : List (Change V)) × (all ≡ h ++ more)) → at ≡ length h → (IsBetween at at reply) → IsTrueAnswer all k reply → HoldsNow h k reply
now_of h all k at (Found v n since) p e b t =
    let many : n ≡ length h = omega (arith, e, b.0, b.1) in
    let same : take n all ≡ h = (λ i. take (many i) (p.1 i)) ∙ take-append_seam h p.0 in
    (ap (λ (z : List (Change _)). map_value z k) (sym same) ∙ t.1, omega (arith, e, b.0, b.1))
now_of h all k at (Absent n) p e b t =
    let many : n ≡ length h = omega (arith, e, b.0, b.1) in
    let same : take n all ≡ h = (λ i. take (many i) (p.1 i)) ∙ take-append_seam h p.0 in
    (ap (λ (z : List (Change _)). map_value z k) (sym same) ∙ t.1, omega (arith, e, b.0, b.1))
now_of h all k at Busy p e b t = tt

module _ (V : ℕ) {policy : Policy} (sh : Shape) (states : ℕ → TableState) (run : IsExecution (layout_with V policy sh) states) where
  abbrev many : ℕ → ℕ
  many n = length (history_at V sh states run n)

  many_step : (n : ℕ) → (many n ≤ many (suc n)) × (many (suc n) ≤ many n + 1)
  many_step n = by_log (log_step (move (layout_with V policy sh) states run n))
    where
      by_log : LogStep (layout_with V policy sh) (states n) (states (suc n)) (run.ruled n) (run.ruled (suc n)) → (many n ≤ many (suc n)) × (many (suc n) ≤ many n + 1)
      by_log (rests e) = let same = ap (λ (z : List Made). length (state_of V sh z).history) e in (omega (arith, same), omega (arith, same))
      by_log (grows m seat note knows step e honest) =
          let s : State V = state_of V sh ((run.ruled n).log) in
          let same = ap (λ (z : List Made). length (state_of V sh z).history) e ∙ ap (λ (z : State V). length z.history) (state_push V sh ((run.ruled n).log) m) in
          let h = short s.history s.phase m.act in
          (omega (arith, same, h.0), omega (arith, same, h.1))

  -- later states have no fewer changes
  pub many_rise : (m n : ℕ) → m ≤ n → many m ≤ many n
  many_rise m n le =
      let h = begins_all V sh ((run.ruled m).log) ((run.ruled n).log) (front_between (layout_with V policy sh) states run m n le) in
      omega (arith, ap length h.1, length-append (history_at V sh states run m) h.0)

  reach : (d i c : ℕ) → many i ≤ c → c ≤ many (i + d) → (n : ℕ) × (i ≤ n) × (n ≤ i + d) × (many n ≡ c)
  reach zero i c low high = let here : i + 0 ≡ i = omega arith in (i, omega arith, omega arith, omega (arith, low, high, ap many here))
  reach (suc d) i c low high = dite (ℕ_discrete (many i) c)
      (λ e. (i, omega arith, omega arith, e))
      (λ ne.
      let more = (many_step i).1 in
      let x = reach d (suc i) c (omega (arith, low, ne, more)) (subst (λ (n : ℕ). c ≤ many n) (omega arith) high) in
      (x.0, omega (arith, x.1), omega (arith, x.2), x.3))

  -- there is a state between i and j with this number of changes
  pub reached : (i j c : ℕ) → i ≤ j → many i ≤ c → c ≤ many j → (n : ℕ) × (i ≤ n) × (n ≤ j) × (many n ≡ c)
  reached i j c le low high =
      let x = reach (j - i) i c low (subst (λ (n : ℕ). c ≤ many n) (omega (arith, le)) high) in
      (x.0, x.1, omega (arith, x.2, le), x.3)

  make : (d i n : ℕ) → many i ≤ n → n < many (i + d) → (m : ℕ) × (i ≤ m) × (m < i + d) × (many m ≡ n) × (many (suc m) ≡ suc n)
  make zero i n low high = let here : i + 0 ≡ i = omega arith in absurd (omega (arith, low, high, ap many here))
  make (suc d) i n low high = dite (dec_le (many (suc i)) n)
      (λ le.
      let x = make d (suc i) n le (subst (λ (k : ℕ). n < many k) (omega arith) high) in
      (x.0, omega (arith, x.1), omega (arith, x.2), x.3, x.4))
      (λ no. let one = (many_step i).1 in (i, omega arith, omega arith, omega (arith, no, low, one), omega (arith, no, low, one)))

  pub made : (i j n : ℕ) → i ≤ j → many i ≤ n → n < many j → (m : ℕ) × (i ≤ m) × (m < j) × (many m ≡ n) × (many (suc m) ≡ suc n)
  made i j n le low high =
      let x = make (j - i) i n low (subst (λ (k : ℕ). n < many k) (omega (arith, le)) high) in
      (x.0, x.1, omega (arith, x.2, le), x.3, x.4)

  -- a reply that is true between two states is what the map holds in a state between them
  pub holds_between : (k first last : ℕ) (reply : Reply V) → first ≤ last → IsTrueAnswer (history_at V sh states run last) k reply → IsBetween (many first) (many last) reply →
      (n : ℕ) × (first ≤ n) × (n ≤ last) × HoldsNow (history_at V sh states run n) k reply
  holds_between k first last (Found v at since) le t b =
      let x = reached first last at le b.0 b.1 in
      let h = begins_all V sh ((run.ruled x.0).log) ((run.ruled last).log) (front_between (layout_with V policy sh) states run x.0 last x.2) in
      (x.0, x.1, x.2, now_of (history_at V sh states run x.0) (history_at V sh states run last) k at (Found v at since) h (sym x.3) (omega arith, omega arith) t)
  holds_between k first last (Absent at) le t b =
      let x = reached first last at le b.0 b.1 in
      let h = begins_all V sh ((run.ruled x.0).log) ((run.ruled last).log) (front_between (layout_with V policy sh) states run x.0 last x.2) in
      (x.0, x.1, x.2, now_of (history_at V sh states run x.0) (history_at V sh states run last) k at (Absent at) h (sym x.3) (omega arith, omega arith) t)
  holds_between k first last Busy le t b = (first, omega arith, le, tt)

pub changes_are_steps : (V : ℕ) → ChangesAreSteps V
changes_are_steps V policy sh states run i j n before after le h h' low high =
    let was = ap (λ (z : List Made). length (state_of V sh z).history) (acts_are (layout_with V policy sh) states run i before h) in
    let is = ap (λ (z : List Made). length (state_of V sh z).history) (acts_are (layout_with V policy sh) states run j after h') in
    made V sh states run i j n le (omega (arith, was, low)) (omega (arith, is, high))
