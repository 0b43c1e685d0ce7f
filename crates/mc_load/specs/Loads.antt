-- What a load reports, and why there may be no report.
use Rattle.std.specs.Prelude.{ℕ, zero, suc, ◌≡◌, ◌+◌, ◌*◌, ◌^◌, ◌<◌, ◌≤◌, ◌⊎◌, All, Bool, true, false, count_by, sum_by, List, [], length, slice_index_or, Option, Some, None}
use Rattle.mc_words.specs.History.{IsLegal, IsTrueAnswer}
use Rattle.mc_words.specs.Shapes.{IsShape}
use Rattle.mc_words.specs.declared.history.Change.{Change}
use Rattle.mc_words.specs.declared.history.Reply.{Reply}
use Rattle.mc_words.specs.declared.history.Reply.TheVariants as reply
use Rattle.mc_words.specs.declared.shape.Shape.{Shape}
use Rattle.mc_theory.specs.Lists.{Made, state_of}
use Rattle.mc_plan.specs.declared.answer.Answer.{Answer}
use Rattle.mc_shared.specs.Records.{WriterRecord}
use Rattle.mc_writer.specs.WriterCalls.{HasCalled}
use Rattle.mc_check.specs.declared.record.Record.{Record}
use Rattle.mc_cache.specs.Openings.{RefusesOpening}
use Rattle.mc_words.specs.Readers.{HasReaders}
use Rattle.mc_load.specs.Draws.{drawn_call, drawn_key}
use Rattle.mc_load.specs.Lookups.{HasGot, one_shard}
use Rattle.mc_load.specs.declared.error.LoadError.{LoadError}
use Rattle.mc_load.specs.declared.error.LoadError.TheVariants as error
use Rattle.mc_load.specs.declared.report.Report.{Report}
use Rattle.mc_load.specs.declared.asked.Load.{Load}

-- a new writer has made this many calls, one after the other, each the one that was drawn
unfoldable pub HasMade : (V : ℕ) → Load → ℕ → WriterRecord → Type 0
HasMade V load zero w = w.acts ≡ []
HasMade V load (suc n) w = (before : WriterRecord) × (told : Answer) × HasMade V load n before × HasCalled V load.shape (drawn_call V load n) before w told

-- each answer is true of the history
abbrev pub AreTrue : {V : ℕ} → List (Change V) → List (Record V) → Type 0
AreTrue {V} h records = All (λ (r : Record V). IsTrueAnswer h r.key r.reply) records

-- reader r has looked up these keys, each the one that was drawn
abbrev pub AreDrawn : {V : ℕ} → Load → ℕ → List (Record V) → Type 0
AreDrawn {V} load r records = (n : ℕ) (d : Record V) → n < length records → (slice_index_or records n d).key ≡ drawn_key load (r + 1) n

-- the answers of reader r: one to each of its lookups, which is true of the history
pub record HasLookedUp {V : ℕ} (load : Load) (h : List (Change V)) (r : ℕ) (records : List (Record V)) : Type 0 where
  pub many : length records ≡ load.lookups
  pub drawn : AreDrawn load r records
  pub told : AreTrue h records

-- the history of these acts
abbrev pub history_after : (V : ℕ) → Shape → List Made → List (Change V)
history_after V sh acts = (state_of V sh acts).history

-- the moment of an answer, if it has one
abbrev pub at_of : {V : ℕ} → Reply V → Option ℕ
at_of (reply.Found v at since) = Some at
at_of (reply.Absent at) = Some at
at_of reply.Busy = None

-- the kinds of answers
abbrev pub is_found : {V : ℕ} → Reply V → Bool
is_found (reply.Found v at since) = true
is_found (reply.Absent at) = false
is_found reply.Busy = false

abbrev pub is_absent : {V : ℕ} → Reply V → Bool
is_absent (reply.Found v at since) = false
is_absent (reply.Absent at) = true
is_absent reply.Busy = false

abbrev pub is_busy : {V : ℕ} → Reply V → Bool
is_busy (reply.Found v at since) = false
is_busy (reply.Absent at) = false
is_busy reply.Busy = true

-- how many answers of all readers have this kind
abbrev pub total_of : {V : ℕ} → (Reply V → Bool) → List (List (Record V)) → ℕ
total_of {V} kind answers = sum_by (λ (records : List (Record V)). count_by (λ (r : Record V). kind r.reply) records) answers

-- the writer and the readers have made all their calls, each answer is that of a lookup, none was wrong, and the totals add up
pub record Reports (V : ℕ) (load : Load) (told : Report) : Type 0 where
  pub writer : WriterRecord
  pub shape : writer.of.layout.shape ≡ load.shape
  pub made : HasMade V load told.writes writer
  pub writes : told.writes ≡ load.writes
  pub changes : told.changes ≡ length (history_after V load.shape writer.acts)
  pub legal : IsLegal load.shape.items (history_after V load.shape writer.acts)
  pub few : told.changes ≤ 2 * load.writes
  pub answers : List (List (Record V))
  pub readers : length answers ≡ load.readers
  pub looked : (r : ℕ) (d : List (Record V)) → r < length answers → HasLookedUp load (history_after V load.shape writer.acts) r (slice_index_or answers r d)
  pub got : All (λ (records : List (Record V)). HasGot (one_shard writer.of) records) answers
  pub found : told.found ≡ total_of is_found answers
  pub absent : told.absent ≡ total_of is_absent answers
  pub busy : told.busy ≡ total_of is_busy answers
  pub lookups : told.lookups ≡ load.readers * load.lookups
  pub sum : told.found + told.absent + told.busy ≡ told.lookups
  pub wrong : told.wrong ≡ 0

abbrev pub HasKeys : ℕ → Type 0
HasKeys keys = (1 ≤ keys) × (keys ≤ 2 ^ 32)

-- the most keys of a reader's call
abbrev pub most_at_once : ℕ
most_at_once = 64

abbrev pub MayAskAtOnce : ℕ → Type 0
MayAskAtOnce many = (1 ≤ many) × (many ≤ most_at_once)

-- a call of the writer, which is worker 0, or of a reader
abbrev pub IsCall : Load → ℕ → ℕ → Type 0
IsCall load who call = (1 ≤ call) × (((who ≡ 0) × (call ≤ load.writes)) ⊎ ((1 ≤ who) × (who ≤ load.readers) × (call ≤ load.lookups)))

-- the first fault of the request; if there is none, memory was refused, or the gate refused a call that it may refuse
abbrev pub RefusesLoad : (ℕ → ℕ → Type 0) → Load → LoadError → Type 0
RefusesLoad may load error.Writers = ⊥
RefusesLoad may load error.Shards = ⊥
RefusesLoad may load error.Keys = ¬ HasKeys load.keys
RefusesLoad may load (error.Open why) = HasKeys load.keys × RefusesOpening load.shape load.readers why
RefusesLoad may load error.NoMemory = HasKeys load.keys × IsShape load.shape × HasReaders load.readers
RefusesLoad may load (error.Gate who call) = HasKeys load.keys × IsShape load.shape × HasReaders load.readers × IsCall load who call × may who call
