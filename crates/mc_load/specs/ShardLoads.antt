-- What a load of shards with writers in turns reports, and why there may be no report.
use Rattle.std.specs.Prelude.{ℕ, ◌≡◌, ◌==◌, ◌+◌, ◌*◌, ◌<◌, ◌≤◌, ◌⊎◌, All, List, filter, length, slice_index_or, sum_by, if◌then◌else◌}
use Rattle.mc_words.specs.Keys.{shard_of}
use Rattle.mc_words.specs.Readers.{most_readers}
use Rattle.mc_words.specs.Shapes.{HasShards, IsShape, RefusesShape}
use Rattle.mc_words.specs.declared.history.Change.{Change}
use Rattle.mc_words.specs.declared.mix.Mix.{Mix}
use Rattle.mc_words.specs.declared.shape.Shape.{Shape}
use Rattle.mc_check.specs.declared.record.Record.{Record}
use Rattle.mc_cache.specs.declared.opening.OpenError.{OpenError}
use Rattle.mc_cache.specs.declared.opening.OpenError.TheVariants as opening
use Rattle.mc_shards.specs.Sharded.{Sharded}
use Rattle.mc_load.specs.Loads.{AreDrawn, AreTrue, HasKeys, is_absent, is_busy, is_found, total_of}
use Rattle.mc_load.specs.LastMoments.{IsLastOf}
use Rattle.mc_load.specs.Lookups.{HasGot}
use Rattle.mc_load.specs.declared.asked.Load.{Load}
use Rattle.mc_load.specs.declared.error.LoadError.{LoadError}
use Rattle.mc_load.specs.declared.error.LoadError.TheVariants as error
use Rattle.mc_load.specs.Turns.{AreOneHistory, HasMadeTries, Tries, journals_in}
use Rattle.mc_load.specs.declared.turns.Turns.{Turns}
use Rattle.mc_load.specs.declared.turns.DeskReport.{DeskReport}
use Rattle.mc_load.specs.declared.turns.TurnsRun.{TurnsRun}

-- ---- the workers

-- the most writers
abbrev pub most_writers : ℕ
most_writers = 8

abbrev pub HasWriters : ℕ → Type 0
HasWriters writers = (1 ≤ writers) × (writers ≤ most_writers)

-- each reader and each writer has a reader of each shard
abbrev pub HasSeats : ℕ → ℕ → Type 0
HasSeats readers writers = (1 ≤ readers) × (readers + writers ≤ most_readers)

-- the worker that a writer is, by its number, which is counted from 0: the first, or one after the readers
abbrev pub who_of : ℕ → ℕ → ℕ
who_of readers writer = if writer == 0 then 0 else readers + writer

-- ---- what is reported

-- reader r has looked up the requested number of keys, each the one that was drawn
pub record HasAsked {V : ℕ} (load : Load) (r : ℕ) (records : List (Record V)) : Type 0 where
  pub many : length records ≡ load.lookups
  pub drawn : AreDrawn load r records

-- the answers for a shard's keys
abbrev pub answers_in : {V : ℕ} → Mix → ℕ → ℕ → List (Record V) → List (Record V)
answers_in {V} mix shards n records = filter (λ (r : Record V). shard_of mix shards r.key == n) records

-- no answer of shard n was wrong: the changes of its keys by all writers are one history, up to this last moment, and each answer about its
-- keys is true of it
pub record IsRightIn {V : ℕ} (mix : Mix) (shards : ℕ) (tries : List (Tries V)) (answers : List (List (Record V))) (last n : ℕ) : Type 0 where
  pub history : List (Change V)
  pub one : AreOneHistory (journals_in mix shards n tries) history
  pub whole : length history ≡ last
  pub told : (r : ℕ) (d : List (Record V)) → r < length answers → AreTrue history (answers_in mix shards n (slice_index_or answers r d))

-- the readers and the writers of these shards have made all their calls, each answer is that of a lookup, the totals add up, and if nothing
-- is wrong all answers are right, shard by shard
pub record ReportsTurns (V : ℕ) (load : Load) (shards writers : ℕ) (told : DeskReport) : Type 0 where
  pub opened : Sharded
  pub shape : opened.shape ≡ load.shape
  pub tables : length opened.tables ≡ shards
  pub tries : List (Tries V)
  pub many : length tries ≡ writers
  pub made : (w : ℕ) (d : Tries V) → w < length tries → HasMadeTries V opened load w (slice_index_or tries w d)
  pub held : told.held ≡ sum_by (λ (t : Tries V). t.turns.held) tries
  pub answered : told.answered ≡ sum_by (λ (t : Tries V). t.turns.answered) tries
  pub changes : told.changes ≡ sum_by (λ (t : Tries V). length t.journal) tries
  pub answers : List (List (Record V))
  pub readers : length answers ≡ load.readers
  pub looked : (r : ℕ) (d : List (Record V)) → r < length answers → HasAsked load r (slice_index_or answers r d)
  pub got : All (λ (records : List (Record V)). HasGot opened records) answers
  pub found : told.found ≡ total_of is_found answers
  pub absent : told.absent ≡ total_of is_absent answers
  pub busy : told.busy ≡ total_of is_busy answers
  pub right : told.wrong ≡ 0 → (n : ℕ) → n < shards → (last : ℕ) × IsLastOf V opened n last × IsRightIn load.shape.mix shards tries answers last n
  pub lookups : told.lookups ≡ load.readers * load.lookups
  pub sum : told.found + told.absent + told.busy ≡ told.lookups
  pub calls : told.calls ≡ writers * load.writes
  pub turns : told.held + told.answered ≡ told.calls
  pub few : told.changes ≤ 2 * told.answered

-- and these are the turns of each writer
pub record RunsTurns (V : ℕ) (load : Load) (shards writers : ℕ) (told : TurnsRun) : Type 0 where
  pub report : ReportsTurns V load shards writers told.report
  pub each : (n : ℕ) (d : Turns) → n < writers → (slice_index_or told.turns n d).held + (slice_index_or told.turns n d).answered ≡ load.writes
  pub those : (n : ℕ) (d : Turns) (e : Tries V) → n < writers → slice_index_or told.turns n d ≡ (slice_index_or report.tries n e).turns

-- ---- what is refused

-- a call of a writer or of a reader
abbrev pub IsCallInTurns : Load → ℕ → ℕ → ℕ → Type 0
IsCallInTurns load writers who call =
    (1 ≤ call) × (((1 ≤ who) × (who ≤ load.readers) × (call ≤ load.lookups)) ⊎ (((w : ℕ) × (w < writers) × (who ≡ who_of load.readers w)) × (call ≤ load.writes)))

-- the first fault of what shards are opened with, after their number
abbrev pub RefusesSeats : Shape → ℕ → ℕ → OpenError → Type 0
RefusesSeats sh readers writers (opening.Shape why) = RefusesShape sh why
RefusesSeats sh readers writers opening.Readers = IsShape sh × (¬ HasSeats readers writers)
RefusesSeats sh readers writers opening.NoMemory = IsShape sh × HasSeats readers writers

-- the request has no fault
pub record CanTakeTurns (load : Load) (shards writers : ℕ) : Type 0 where
  pub some : HasWriters writers
  pub keys : HasKeys load.keys
  pub parts : HasShards shards
  pub shape : IsShape load.shape
  pub seats : HasSeats load.readers writers

-- the first fault of the request; if there is none, memory was refused, or the gate refused a call that it may refuse
abbrev pub RefusesTurns : (ℕ → ℕ → Type 0) → Load → ℕ → ℕ → LoadError → Type 0
RefusesTurns may load shards writers error.Writers = ¬ HasWriters writers
RefusesTurns may load shards writers error.Keys = HasWriters writers × (¬ HasKeys load.keys)
RefusesTurns may load shards writers error.Shards = HasWriters writers × HasKeys load.keys × (¬ HasShards shards)
RefusesTurns may load shards writers (error.Open why) = HasWriters writers × HasKeys load.keys × HasShards shards × RefusesSeats load.shape load.readers writers why
RefusesTurns may load shards writers error.NoMemory = CanTakeTurns load shards writers
RefusesTurns may load shards writers (error.Gate who call) = CanTakeTurns load shards writers × IsCallInTurns load writers who call × may who call
