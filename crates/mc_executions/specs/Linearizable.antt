-- Linearizability (Herlihy and Wing, 1990): each call takes effect at one moment between call and return, and each answer is what the calls
-- that took effect before it, one after the other, make of the map.
use Rattle.std.specs.Prelude.{◌≡◌, ℕ, suc, ◌<◌, ◌≤◌, List, Some, length, slice_get}
use Rattle.mc_words.specs.declared.policy.Policy.{Policy}
use Rattle.mc_words.specs.declared.history.Reply.{Reply}
use Rattle.mc_words.specs.declared.shape.Shape.{Shape}
use Rattle.mc_theory.specs.Lists.{Made, state_of}
use Rattle.mc_shared.specs.Views.{layout_with}
use Rattle.mc_executions.specs.Executions.{TableState, IsExecution, HasActs}
use Rattle.mc_executions.specs.TimedLookups.{HoldsNow, IsTimed, history_at}

-- a lookup as its caller sees it: the states at which it was called and returned, its key and its answer
pub record LookupCall (V : ℕ) : Type 0 where
  pub called : ℕ
  pub returned : ℕ
  pub key : ℕ
  pub reply : Reply V

-- A call of the writer: how many changes the map had when it was called, and when it returned. A put that evicts makes two: each is cut off as
-- a call of its own
pub record WriterCall : Type 0 where
  pub called : ℕ
  pub returned : ℕ
  pub before : ℕ
  pub after : ℕ

-- change c, from 0 on, takes effect at the step from this state
abbrev pub TakesEffect : (V : ℕ) {policy : Policy} (sh : Shape) (states : ℕ → TableState) → IsExecution (layout_with V policy sh) states → ℕ → ℕ → Type 0
TakesEffect V sh states run c m = (length (history_at V sh states run m) ≡ c) × (length (history_at V sh states run (suc m)) ≡ suc c)

-- Each lookup has a moment within its call: a state in which the map holds what it answers. Each change has one within its call: a step. The
-- map in a state is what the changes make of it that took effect before, in the order of their numbers, and that is the order of their steps.
-- So a call that returned before another one was called takes effect before it
pub record IsLinearizable (V : ℕ) {policy : Policy} (sh : Shape) (states : ℕ → TableState) (run : IsExecution (layout_with V policy sh) states) (lookups : List (LookupCall V)) (writes : List WriterCall) : Type 0 where
  pub lookup : (n : ℕ) (x : LookupCall V) → slice_get lookups n ≡ Some x →
      (m : ℕ) × (x.called ≤ m) × (m ≤ x.returned) × HoldsNow (history_at V sh states run m) x.key x.reply
  pub change : (n c : ℕ) (w : WriterCall) → slice_get writes n ≡ Some w → w.before ≤ c → c < w.after →
      (m : ℕ) × (w.called ≤ m) × (m < w.returned) × TakesEffect V sh states run c m
  pub in_order : (c c' m m' : ℕ) → TakesEffect V sh states run c m → TakesEffect V sh states run c' m' → c < c' → m < m'
  pub once : (c m m' : ℕ) → TakesEffect V sh states run c m → TakesEffect V sh states run c m' → m ≡ m'

-- any lookups whose answers are true within their calls, as the calls of readers ensure, and any calls of the writer are linearizable
abbrev pub CallsAreLinearizable : ℕ → Type 0
CallsAreLinearizable V =
    (policy : Policy) (sh : Shape) (states : ℕ → TableState) (run : IsExecution (layout_with V policy sh) states) (lookups : List (LookupCall V)) (writes : List WriterCall) →
    ((n : ℕ) (x : LookupCall V) → slice_get lookups n ≡ Some x → (first : ℕ) × (last : ℕ) × (x.called ≤ first) × (last ≤ x.returned) × IsTimed V sh states run x.key x.reply first last) →
    ((n : ℕ) (w : WriterCall) → slice_get writes n ≡ Some w → (w.called ≤ w.returned) × ((acts : List Made) × (acts' : List Made) × HasActs (states w.called) acts × HasActs (states w.returned) acts' ×
    (w.before ≡ length (state_of V sh acts).history) × (w.after ≡ length (state_of V sh acts').history))) →
    IsLinearizable V sh states run lookups writes
