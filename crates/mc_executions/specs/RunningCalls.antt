-- What the clauses `timed` of running calls say: when an answer is true, in whatever execution.
use Rattle.std.specs.Prelude.{◌≡◌, ℕ, suc, ◌<◌, ◌≤◌, List, length}
use Rattle.mc_words.specs.declared.policy.Policy.{Policy}
use Rattle.mc_words.specs.declared.history.Reply.{Reply}
use Rattle.mc_words.specs.declared.shape.Shape.{Shape}
use Rattle.mc_theory.specs.Lists.{Made, state_of}
use Rattle.mc_shared.specs.Records.{ReaderRecord}
use Rattle.mc_shared.specs.Views.{layout_with}
use Rattle.mc_executions.specs.Executions.{TableState, IsExecution, HasReader, HasActs}
use Rattle.mc_executions.specs.TimedLookups.{AllTimedIn, IsTimed, IsTimedAt, history_at}

-- the reply is true between two states, from i to j
abbrev pub IsTimedWithin : (V : ℕ) {policy : Policy} (sh : Shape) (states : ℕ → TableState) → IsExecution (layout_with V policy sh) states → ℕ → ℕ → ℕ → Reply V → Type 0
IsTimedWithin V sh states run i j k reply = (first : ℕ) × (last : ℕ) × (i ≤ first) × (first ≤ last) × (last ≤ j) × IsTimed V sh states run k reply first last

-- A lookup by a reader: if its record is the one in state i and the other in state j, the reply is true between two states from i to j
abbrev pub LookupIsTimed : (V : ℕ) → Shape → ℕ → ReaderRecord → ReaderRecord → Reply V → Type 0
LookupIsTimed V sh k old new reply =
    (policy : Policy) (states : ℕ → TableState) (run : IsExecution (layout_with V policy sh) states) (i j : ℕ) → i ≤ j → HasReader old (states i) → HasReader new (states j) →
    IsTimedWithin V sh states run i j k reply

-- lookups of many keys: each reply is true at a moment of its own, and each lookup begins after the one before
abbrev pub ManyLookupsAreTimed : (V : ℕ) → Shape → List ℕ → ReaderRecord → ReaderRecord → List (Reply V) → Type 0
ManyLookupsAreTimed V sh keys old new replies =
    (policy : Policy) (states : ℕ → TableState) (run : IsExecution (layout_with V policy sh) states) (i j : ℕ) → i ≤ j → HasReader old (states i) → HasReader new (states j) →
    AllTimedIn V sh states run i j keys replies

-- A lookup with the writer at hand: if its acts are the one list in state i and the other in state j, the reply is true in each state between
abbrev pub IsTimedThroughout : (V : ℕ) → Shape → ℕ → List Made → List Made → Reply V → Type 0
IsTimedThroughout V sh k acts acts' reply =
    (policy : Policy) (states : ℕ → TableState) (run : IsExecution (layout_with V policy sh) states) (i j : ℕ) → HasActs (states i) acts → HasActs (states j) acts' → IsTimedAt V sh states run i j k reply

-- A call by the writer: each change that the map gets by it, the one after n others, takes effect at one step of the call
abbrev pub ChangesAreTimed : (V : ℕ) → Shape → List Made → List Made → Type 0
ChangesAreTimed V sh acts acts' =
    (policy : Policy) (states : ℕ → TableState) (run : IsExecution (layout_with V policy sh) states) (i j n : ℕ) → i ≤ j → HasActs (states i) acts → HasActs (states j) acts' →
    length (state_of V sh acts).history ≤ n → n < length (state_of V sh acts').history →
    (m : ℕ) × (i ≤ m) × (m < j) × (length (history_at V sh states run m) ≡ n) × (length (history_at V sh states run (suc m)) ≡ suc n)
