-- Each execution is a trace of the sequential model: with the same acts, and with the lookups that its readers made.
use Rattle.std.specs.Prelude.{◌≡◌, ◌≢◌, ℕ, ◌*◌, ◌-◌, ◌^◌, ◌<◌, ◌≤◌, ◌==◌, if◌then◌else◌, List, [], ◌∷◌, ◌++◌, Option, Some, None, slice_get}
use Rattle.mc_words.specs.declared.policy.Policy.{Policy}
use Rattle.mc_words.specs.Shapes.{IsShape}
use Rattle.mc_words.specs.declared.history.Reply.{Reply}
use Rattle.mc_words.specs.declared.shape.Shape.{Shape}
use Rattle.mc_theory.specs.Lists.{state_of}
use Rattle.mc_theory.specs.Lookups.{IsLookup}
use Rattle.mc_theory.specs.Readings.{Reading}
use Rattle.mc_theory.specs.Traces.{Trace, Ended, OpenLookup, StepsAll, first_trace}
use Rattle.mc_theory.specs.declared.access.Access.TheVariants.{Mark}
use Rattle.mc_theory.specs.declared.event.Event.{Event}
use Rattle.mc_shared.specs.ExactFronts.{IsReading}
use Rattle.mc_shared.specs.Views.{layout_with}
use Rattle.mc_executions.specs.Executions.{TableState, IsExecution, HasRecord, log_at}

-- a part of a reader's record: a lookup that has ended, or a mark by itself, which a lookup beside the writer makes
pub data Part (V : ℕ) : Type 0 where
  looked : (key : ℕ) (read : List Reading) (reply : Reply V) → Part V
  marked : (mark : Reading) → Part V

-- what a reader's record is made of: its parts, the newest first, and the key of the lookup that runs, with what it has read
pub record Parts (V : ℕ) : Type 0 where
  pub ended : List (Part V)
  pub running : Option (ℕ × List Reading)

abbrev pub no_parts : {V : ℕ} → Parts V
no_parts = record { ended = []; running = None }

-- the entries of these parts, the oldest first
abbrev pub read_by : {V : ℕ} → List (Part V) → List Reading
read_by [] = []
read_by (looked k rs reply ∷ ps) = read_by ps ++ rs
read_by (marked r ∷ ps) = read_by ps ++ r ∷ []

abbrev pub read_so_far : Option (ℕ × List Reading) → List Reading
read_so_far None = []
read_so_far (Some run) = run.1

abbrev pub IsPart : (V : ℕ) → Shape → Part V → Type 0
IsPart V sh (looked k rs reply) = (k < 2 ^ 64) × IsLookup V sh k sh.tries rs reply
IsPart V sh (marked r) = (i : ℕ) × (r.access ≡ Mark i)

abbrev pub AreParts : (V : ℕ) → Shape → List (Part V) → Type 0
AreParts V sh [] = Unit {0}
AreParts V sh (p ∷ ps) = IsPart V sh p × AreParts V sh ps

-- a lookup that runs has read something, and something is left to read
abbrev pub Runs : (V : ℕ) → Shape → Option (ℕ × List Reading) → Type 0
Runs V sh None = Unit {0}
Runs V sh (Some run) = (run.0 < 2 ^ 64) × (run.1 ≢ []) × ((next : Reading) × (rest : List Reading) × (reply : Reply V) × IsLookup V sh run.0 sh.tries (run.1 ++ next ∷ rest) reply)

-- the record is made of these parts
pub record IsMadeOf (V : ℕ) (sh : Shape) (done : List Reading) (p : Parts V) : Type 0 where
  pub is : done ≡ read_by p.ended ++ read_so_far p.running
  pub each : AreParts V sh p.ended
  pub runs : Runs V sh p.running

-- so is the record of each reader, and who hasn't come yet has made nothing
pub record AreMadeOf (V : ℕ) (sh : Shape) (s : TableState) (readers : ℕ) (parts : ℕ → Parts V) : Type 0 where
  pub known : (a : ℕ) (done : List Reading) → HasRecord a s done → IsMadeOf V sh done (parts a)
  pub others : (a : ℕ) → readers ≤ a → parts a ≡ no_parts

-- ---- the same in a trace
-- of a mark the trace has the front of its step, and the record one before it or the same
abbrev pub IsSame : Reading → Reading → Type 0
IsSame r q = (q.access ≡ r.access) × (q.word ≡ r.word) × (IsReading r.access → q.front ≡ r.front)

abbrev pub AreSame : List Reading → List Reading → Type 0
AreSame [] [] = Unit {0}
AreSame (r ∷ rs) (q ∷ qs) = IsSame r q × AreSame rs qs
AreSame _ _ = ⊥

-- the lookups that this reader ended, the oldest first
abbrev pub ended_by : {V : ℕ} → ℕ → List (Ended V) → List (Ended V)
ended_by a [] = []
ended_by a (e ∷ es) = if e.told.reader == a then e ∷ ended_by a es else ended_by a es

abbrev pub IsEnded : {V : ℕ} → ℕ → List Reading → Reply V → Ended V → Type 0
IsEnded k rs reply e = (e.told.key ≡ k) × (e.told.reply ≡ reply) × AreSame rs e.read

-- these are the lookups of the parts, one for one
abbrev pub AreEnded : {V : ℕ} → List (Part V) → List (Ended V) → Type 0
AreEnded [] es = es ≡ []
AreEnded (looked k rs reply ∷ ps) es = (before : List (Ended _)) × (e : Ended _) × (es ≡ before ++ e ∷ []) × IsEnded k rs reply e × AreEnded ps before
AreEnded (marked r ∷ ps) es = AreEnded ps es

abbrev pub IsOpen : Option (ℕ × List Reading) → Option (Option OpenLookup) → Type 0
IsOpen None o = o ≡ Some None
IsOpen (Some run) o = (opened : OpenLookup) × (o ≡ Some (Some opened)) × (opened.key ≡ run.0) × (opened.sofar ≡ run.1)

-- some events lead from a new trace to this one: it has these acts, and the lookups of these parts, and no others
pub record IsTraceOf (V : ℕ) {policy : Policy} (sh : Shape) (states : ℕ → TableState) (run : IsExecution (layout_with V policy sh) states) (n readers : ℕ) (parts : ℕ → Parts V) : Type 0 where
  pub events : List Event
  pub trace : Trace V
  pub leads : StepsAll V sh (first_trace V sh readers) events trace
  pub acts : trace.acts ≡ log_at run n
  pub ended : (a : ℕ) → AreEnded (parts a).ended (ended_by a trace.ended)
  pub running : (a : ℕ) → a < readers → IsOpen (parts a).running (slice_get trace.readers a)

-- Each execution, up to any state, is such a trace, if the readers' records are made of lookups and of single marks. Each step is at most
-- two events, so its events can be counted by a u64 if the steps can
abbrev pub ExecutionsAreTraces : ℕ → Type 0
ExecutionsAreTraces V =
    (policy : Policy) (sh : Shape) (states : ℕ → TableState) (run : IsExecution (layout_with V policy sh) states) (n readers : ℕ) (parts : ℕ → Parts V) →
    IsShape sh → 2 * n < 2 ^ 64 - 1 → (state_of V sh (log_at run n)).version_steps < sh.limit → (run.ruled n).tally.readers ≤ readers →
    AreMadeOf V sh (states n) (run.ruled n).tally.readers parts → IsTraceOf V sh states run n readers parts
