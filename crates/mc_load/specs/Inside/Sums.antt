-- What the workers of a load in turns have done when all have ended.
use Rattle.std.specs.Prelude.{ℕ, ◌≡◌, ◌≤◌, ◌<◌, List, length, map, slice_index_or, vec_len}
use Rattle.mc_words.specs.Readers.{most_readers}
use Rattle.mc_words.specs.Shapes.{HasShards}
use Rattle.mc_words.specs.declared.history.Change.{Change}
use Rattle.mc_words.specs.declared.mix.Mix.{Mix}
use Rattle.mc_shards.specs.Sharded.{Sharded}
use Rattle.mc_load.specs.Loads.{AreTrue}
use Rattle.mc_load.specs.declared.asked.Load.{Load}
use Rattle.mc_load.specs.ShardLoads.{answers_in, most_writers}
use Rattle.mc_load.specs.Turns.{HasMadeTries, Tries}
use Rattle.mc_load.specs.Inside.Seats.{CanAudit}
use Rattle.mc_load.specs.Inside.Tries.{HaveTriedWhole, tries_of}
use Rattle.mc_load.specs.Inside.Workers.{AreReadersIn, HaveAllGot, HaveAllNoted}
use Rattle.mc_load.specs.declared.reader_thread.ReaderThread.{ReaderThread}
use Rattle.mc_load.specs.declared.turns_ready.Seated.{Seated}
use Rattle.mc_load.specs.declared.turn_thread.TurnThread.{TurnThread}

-- the answers about a shard's keys are true of the history
abbrev pub AreTrueIn : {V : ℕ} → Mix → ℕ → ℕ → List (Change V) → List (ReaderThread V) → Type 0
AreTrueIn {V} mix shards shard h ls = (n : ℕ) (d : ReaderThread V) → n < length ls → AreTrue h (answers_in mix shards shard (slice_index_or ls n d).records.items)

-- the tries of all writers
abbrev pub all_tries : {V : ℕ} → List (TurnThread V) → List (Tries V)
all_tries {V} ts = map (λ (t : TurnThread V). tries_of t) ts

-- each has made those that were drawn
abbrev pub HaveAllMade : (V : ℕ) → Sharded → Load → List (TurnThread V) → Type 0
HaveAllMade V s load ts = (n : ℕ) (d : TurnThread V) → n < length ts → HasMadeTries V s load n (tries_of (slice_index_or ts n d))

-- every worker has made its calls, and can be checked
pub record HasRun {V : ℕ} (opened : Sharded) (load : Load) (shards writers : ℕ) (s : Seated V) : Type 0 where
  pub allowed : HasShards shards
  pub shape : opened.shape ≡ load.shape
  pub tables : length opened.tables ≡ shards
  pub readers : vec_len s.reader_threads ≡ load.readers
  pub few : load.readers ≤ most_readers
  pub noted : HaveAllNoted load s.reader_threads.items
  pub places : AreReadersIn opened s.reader_threads.items
  pub got : HaveAllGot opened s.reader_threads.items
  pub many : vec_len s.turn_threads ≡ writers
  pub most : writers ≤ most_writers
  pub tried : HaveTriedWhole load s.turn_threads.items
  pub made : HaveAllMade V opened load s.turn_threads.items
  pub audit : CanAudit V load writers s.audit
