-- Moments of lookups, by any readers, and of changes are in the order of time.
use Rattle.std.specs.Prelude.{◌≡◌, ℕ, suc, List, ◌++◌, ◌<◌, ◌≤◌, length}
use Rattle.mc_words.specs.declared.policy.Policy.{Policy}
use Rattle.mc_words.specs.declared.history.Reply.{Reply}
use Rattle.mc_words.specs.declared.history.Reply.TheVariants.{Found, Absent, Busy}
use Rattle.mc_words.specs.declared.shape.Shape.{Shape}
use Rattle.mc_theory.specs.Lists.{Made, state_of}
use Rattle.mc_theory.specs.Readings.{Reading}
use Rattle.mc_shared.specs.TableRule.{Ruled}
use Rattle.mc_shared.specs.Views.{layout_with}
use Rattle.mc_shared.specs.declared.layout.Layout.{Layout}
use Rattle.mc_executions.specs.Executions.{TableState, IsExecution, HasRecord, HasActs}
use Rattle.mc_executions.specs.TimedLookups.{IsTimed, history_at}

-- whatever proof there is that a state keeps the rule, its list of acts is the same. So the acts that were made are a function of the state
abbrev pub LogIsOne : Type 0
LogIsOne = (l : Layout) (s : TableState) (r r' : Ruled l s) → (r.log ≡ r'.log) × (r.tally ≡ r'.tally)

-- a reader has one record
abbrev pub RecordIsOne : Type 0
RecordIsOne = (l : Layout) (s : TableState) (number : ℕ) (done done' : List Reading) → Ruled l s → HasRecord number s done → HasRecord number s done' → done ≡ done'

-- a record passes through each of its parts
abbrev pub RecordsPass : Type 0
RecordsPass =
    (l : Layout) (states : ℕ → TableState) (run : IsExecution l states) (i j number : ℕ) (done xs ys : List Reading) → i ≤ j → HasRecord number (states i) done → HasRecord number (states j) (done ++ xs ++ ys) →
    (m : ℕ) × (i ≤ m) × (m ≤ j) × HasRecord number (states m) (done ++ xs)

-- the moment of the reply: the number of changes after which it is what the map held
abbrev pub IsAt : {V : ℕ} → Reply V → ℕ → Type 0
IsAt (Found v at since) m = m ≡ at
IsAt (Absent at) m = m ≡ at
IsAt Busy m = ⊥

-- if the last step for one reply comes no later than the first for another, its moment is no later either, whichever readers asked
abbrev pub MomentsKeepOrder : ℕ → Type 0
MomentsKeepOrder V =
    (policy : Policy) (sh : Shape) (states : ℕ → TableState) (run : IsExecution (layout_with V policy sh) states) (k first last k' first' last' m m' : ℕ) (reply reply' : Reply V) →
    IsTimed V sh states run k reply first last → IsTimed V sh states run k' reply' first' last' → last ≤ first' → IsAt reply m → IsAt reply' m' → m ≤ m'

-- Take a state n at which the writer's record is `acts`: a lookup that begins no earlier sees all their changes, and one that ends no later
-- sees no others
abbrev pub WritesAreSeen : ℕ → Type 0
WritesAreSeen V =
    (policy : Policy) (sh : Shape) (states : ℕ → TableState) (run : IsExecution (layout_with V policy sh) states) (k first last m n : ℕ) (reply : Reply V) (acts : List Made) →
    IsTimed V sh states run k reply first last → IsAt reply m → HasActs (states n) acts →
    (n ≤ first → length (state_of V sh acts).history ≤ m) × (last ≤ n → m ≤ length (state_of V sh acts).history)

-- The writer's record grows between states i and j. Each change that it gets takes effect at one step between them
abbrev pub ChangesAreSteps : ℕ → Type 0
ChangesAreSteps V =
    (policy : Policy) (sh : Shape) (states : ℕ → TableState) (run : IsExecution (layout_with V policy sh) states) (i j n : ℕ) (before after : List Made) → i ≤ j → HasActs (states i) before → HasActs (states j) after →
    length (state_of V sh before).history ≤ n → n < length (state_of V sh after).history →
    (m : ℕ) × (i ≤ m) × (m < j) × (length (history_at V sh states run m) ≡ n) × (length (history_at V sh states run (suc m)) ≡ suc n)
