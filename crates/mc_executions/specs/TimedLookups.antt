-- When the answers of lookups are true: in a state between two steps of the lookup.
use Rattle.std.specs.Prelude.{◌≡◌, ℕ, suc, List, [], ◌∷◌, ◌++◌, ◌^◌, ◌<◌, ◌≤◌, All, length, Some, None}
use Rattle.mc_words.specs.declared.policy.Policy.{Policy}
use Rattle.mc_words.specs.History.{IsTrueAnswer, map_value}
use Rattle.mc_words.specs.Shapes.{IsShape}
use Rattle.mc_words.specs.declared.history.Change.{Change}
use Rattle.mc_words.specs.declared.history.Reply.{Reply}
use Rattle.mc_words.specs.declared.history.Reply.TheVariants.{Found, Absent, Busy}
use Rattle.mc_words.specs.declared.shape.Shape.{Shape}
use Rattle.mc_theory.specs.Lists.{Made, state_of}
use Rattle.mc_theory.specs.Lookups.{IsLookup}
use Rattle.mc_theory.specs.Plain.{IsBetween}
use Rattle.mc_theory.specs.Readings.{Reading}
use Rattle.mc_shared.specs.ExactLaws.{IsLookedUp}
use Rattle.mc_shared.specs.Records.{ReaderRecord, WriterRecord}
use Rattle.mc_shared.specs.Views.{layout_with}
use Rattle.mc_reader.specs.Records.{HasLooked, HaveLooked}
use Rattle.mc_writer.specs.WriterCalls.{HasGot}
use Rattle.mc_cache.specs.Beside.{HasLookedBeside}
use Rattle.mc_cache.specs.Turns.{HasFallenBack}
use Rattle.mc_executions.specs.Executions.{TableState, IsExecution, HasRecord, HasReader, HasActs, log_at}

-- the changes of the map that were made by state n
abbrev pub history_at : (V : ℕ) {policy : Policy} (sh : Shape) (states : ℕ → TableState) → IsExecution (layout_with V policy sh) states → ℕ → List (Change V)
history_at V sh states run n = (state_of V sh (log_at run n)).history

-- the map of these changes holds of the key what the reply says, and the reply has their number
abbrev pub HoldsNow : {V : ℕ} → List (Change V) → ℕ → Reply V → Type 0
HoldsNow h k (Found v at since) = (map_value h k ≡ Some (v ++ since ∷ [])) × (at ≡ length h)
HoldsNow h k (Absent at) = (map_value h k ≡ None) × (at ≡ length h)
HoldsNow h k Busy = Unit {0}

-- The reply for the key is true between states `first` and `last`: it is what the map held after some number of changes, no fewer than
-- were made by the one state and no more than were made by the other. So the map holds it in a state between them
pub record IsTimed (V : ℕ) {policy : Policy} (sh : Shape) (states : ℕ → TableState) (run : IsExecution (layout_with V policy sh) states) (k : ℕ) (reply : Reply V) (first last : ℕ) : Type 0 where
  pub truth : IsTrueAnswer (history_at V sh states run last) k reply
  pub between : IsBetween (length (history_at V sh states run first)) (length (history_at V sh states run last)) reply
  pub held : (n : ℕ) × (first ≤ n) × (n ≤ last) × HoldsNow (history_at V sh states run n) k reply

-- A lookup that a reader made between states i and j, by which its record grew from `done` by rs. The step from state `first` entered its
-- first reading, and the one from state `last` its last entry
pub record LooksBetween (V : ℕ) {policy : Policy} (sh : Shape) (states : ℕ → TableState) (run : IsExecution (layout_with V policy sh) states) (i j number k tries : ℕ) (done rs : List Reading) (reply : Reply V) : Type 0 where
  pub first : ℕ
  pub last : ℕ
  pub begins : i ≤ first
  pub in_order : first ≤ last
  pub ends : last < j
  pub looked : IsLookedUp V sh k tries (log_at run first) (log_at run last) reply
  pub is : (looked.rs ≡ rs) × (looked.begins.number ≡ number) × (looked.begins.done ≡ done)
  pub first_step : (looked.s ≡ states first) × (looked.t ≡ states (suc first))
  pub last_step : (looked.s' ≡ states last) × (looked.t' ≡ states (suc last))
  pub timed : IsTimed V sh states run k reply first last

-- Each lookup of each reader is one. A lookup with no try left reads nothing and is Busy
abbrev pub LookupsAreTimed : ℕ → Type 0
LookupsAreTimed V =
    (policy : Policy) (sh : Shape) (states : ℕ → TableState) (run : IsExecution (layout_with V policy sh) states) (i j number k tries : ℕ) (done rs : List Reading) (reply : Reply V) →
    IsShape sh → k < 2 ^ 64 → 0 < tries → i ≤ j → HasRecord number (states i) done → HasRecord number (states j) (done ++ rs) → IsLookup V sh k tries rs reply →
    LooksBetween V sh states run i j number k tries done rs reply

-- a reply is true at a moment between two steps of its call, if states i and j are the ones at which the call began and returned
abbrev pub IsTimedIn : (V : ℕ) {policy : Policy} (sh : Shape) (states : ℕ → TableState) → IsExecution (layout_with V policy sh) states → ℕ → ℕ → ℕ → Reply V → Type 0
IsTimedIn V sh states run i j k reply = (first : ℕ) × (last : ℕ) × (i ≤ first) × (first ≤ last) × (last < j) × IsTimed V sh states run k reply first last

-- what `get` ensures of a reader's record is such a lookup
abbrev pub GetsAreTimed : ℕ → Type 0
GetsAreTimed V =
    (policy : Policy) (sh : Shape) (states : ℕ → TableState) (run : IsExecution (layout_with V policy sh) states) (i j k : ℕ) (before after : ReaderRecord) (reply : Reply V) → IsShape sh → k < 2 ^ 64 → i ≤ j →
    HasRecord before.number (states i) before.done → HasRecord after.number (states j) after.done → HasLooked V sh k before after reply → IsTimedIn V sh states run i j k reply

-- each reply is true at a moment of its own, and each lookup begins after the one before
abbrev pub AllTimedIn : (V : ℕ) {policy : Policy} (sh : Shape) (states : ℕ → TableState) → IsExecution (layout_with V policy sh) states → ℕ → ℕ → List ℕ → List (Reply V) → Type 0
AllTimedIn V sh states run i j [] [] = Unit {0}
AllTimedIn V sh states run i j (k ∷ ks) (y ∷ ys) = (m : ℕ) × (i ≤ m) × (m ≤ j) × IsTimedIn V sh states run i m k y × AllTimedIn V sh states run m j ks ys
AllTimedIn V sh states run i j [] (y ∷ ys) = ⊥
AllTimedIn V sh states run i j (k ∷ ks) [] = ⊥

-- what `get_many` ensures are lookups one after the other
abbrev pub ManyAreTimed : ℕ → Type 0
ManyAreTimed V =
    (policy : Policy) (sh : Shape) (states : ℕ → TableState) (run : IsExecution (layout_with V policy sh) states) (i j : ℕ) (keys : List ℕ) (before after : ReaderRecord) (replies : List (Reply V)) → IsShape sh → All (λ k. k < 2 ^ 64) keys → i ≤ j →
    HasRecord before.number (states i) before.done → HasRecord after.number (states j) after.done → HaveLooked V sh keys before after replies → AllTimedIn V sh states run i j keys replies

-- ---- lookups with the writer at hand: no change is made from state i to state j, and the reply is true at each state between
abbrev pub IsTimedAt : (V : ℕ) {policy : Policy} (sh : Shape) (states : ℕ → TableState) → IsExecution (layout_with V policy sh) states → ℕ → ℕ → ℕ → Reply V → Type 0
IsTimedAt V sh states run i j k reply = (n : ℕ) → i ≤ n → n ≤ j → IsTimed V sh states run k reply n n

-- what the writer's own `get` ensures
abbrev pub WritersGetsAreTimed : ℕ → Type 0
WritersGetsAreTimed V =
    (policy : Policy) (sh : Shape) (states : ℕ → TableState) (run : IsExecution (layout_with V policy sh) states) (i j k : ℕ) (before after : WriterRecord) (reply : Reply V) →
    HasActs (states i) before.acts → HasActs (states j) after.acts → HasGot V sh k before after reply → IsTimedAt V sh states run i j k reply

-- what `get_beside` ensures
abbrev pub BesideIsTimed : ℕ → Type 0
BesideIsTimed V =
    (policy : Policy) (sh : Shape) (states : ℕ → TableState) (run : IsExecution (layout_with V policy sh) states) (i j k : ℕ) (acts : List Made) (before after : ReaderRecord) (reply : Reply V) →
    HasActs (states i) acts → HasActs (states j) acts → HasLookedBeside V sh k acts before after reply → IsTimedAt V sh states run i j k reply

-- What `get_or_desk` ensures where the lookup was busy: the reader's records at call and return are enough, since the busy lookup read a
-- word after the call
abbrev pub FallbacksAreTimed : ℕ → Type 0
FallbacksAreTimed V =
    (policy : Policy) (sh : Shape) (states : ℕ → TableState) (run : IsExecution (layout_with V policy sh) states) (i j k : ℕ) (old new : ReaderRecord) (reply : Reply V) → IsShape sh → k < 2 ^ 64 → i ≤ j →
    HasReader old (states i) → HasReader new (states j) → HasFallenBack V sh k old new reply → IsTimed V sh states run k reply i j
