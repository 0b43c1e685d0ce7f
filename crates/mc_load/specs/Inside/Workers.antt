-- The writer and the readers at work, between two calls.
use Rattle.std.specs.Prelude.{ℕ, ◌≡◌, ◌+◌, ◌*◌, ◌≤◌, ◌<◌, All, List, None, Some, IfNone, IfSome, length, map, slice_index_or, vec_capacity, vec_len}
use Rattle.mc_theory.specs.Lists.{IsLawful}
use Rattle.mc_words.specs.Readers.{most_readers}
use Rattle.mc_shared.specs.Records.{Opening, ReaderRecord}
use Rattle.mc_shards.specs.Sharded.{Sharded}
use Rattle.mc_check.specs.declared.record.Record.{Record}
use Rattle.mc_load.specs.Draws.{drawn_key}
use Rattle.mc_load.specs.Loads.{AreDrawn, HasMade, history_after}
use Rattle.mc_load.specs.Drawn.{HasDrawn}
use Rattle.mc_load.specs.ShardLoads.{HasAsked}
use Rattle.mc_load.specs.Inside.Drawn.{AreNext}
use Rattle.mc_load.specs.Inside.Handles.{AreAllTold, cache_of, place_of, records_of}
use Rattle.mc_load.specs.Lookups.{AreLookups, HasGot}
use Rattle.mc_load.specs.declared.asked.Load.{Load}
use Rattle.mc_load.specs.declared.reader_thread.ReaderThread.{ReaderThread}
use Rattle.mc_load.specs.declared.writer_thread.WriterThread.{WriterThread}

-- the writer is this cache's, and the changes that were written down are the history
pub record IsWriting (V : ℕ) (o : Opening) (w : WriterThread V) : Type 0 where
  pub of : w.writer.of ≡ o
  pub lawful : IsLawful V o.layout.shape w.writer.acts
  pub kept : w.journal.items ≡ history_after V o.layout.shape w.writer.acts

-- the writer has made n calls, those that were drawn
pub record HasWritten (V : ℕ) (load : Load) (n : ℕ) (w : WriterThread V) : Type 0 where
  pub drawn : HasDrawn load 0 (2 * n) w.draws
  pub made : HasMade V load n w.writer

-- the writer may begin: there is room for what its calls can change
pub record CanWrite (V : ℕ) (load : Load) (w : WriterThread V) : Type 0 where
  pub shape : w.cache.now.layout.shape ≡ load.shape
  pub writing : IsWriting V w.cache.now w
  pub written : HasWritten V load 0 w
  pub empty : vec_len w.journal ≡ 0
  pub room : 2 * load.writes ≤ vec_capacity w.journal
  pub refused : w.refused ≡ None

-- it has made all its calls, or the gate refused one
pub record HasEndedWriting (V : ℕ) (may : ℕ → ℕ → Type 0) (load : Load) (before after : WriterThread V) : Type 0 where
  pub cache : after.cache ≡ before.cache
  pub writing : IsWriting V after.cache.now after
  pub written : IfNone after.refused (HasWritten V load load.writes after)
  pub few : vec_len after.journal ≤ 2 * load.writes
  pub refused : IfSome after.refused (λ call. (1 ≤ call) × (call ≤ load.writes) × may 0 call)

-- the keys that the reader has written down are those that were drawn
abbrev pub HasNotedDrawn : (V : ℕ) → Load → ReaderThread V → Type 0
HasNotedDrawn V load l = AreDrawn load l.number l.records.items

-- and it has drawn no others
pub record HasLookedUpDrawn (V : ℕ) (load : Load) (l : ReaderThread V) : Type 0 where
  pub drawn : HasDrawn load (l.number + 1) (length l.records.items) l.draws
  pub keys : HasNotedDrawn V load l

-- the answers that it has written down are those of its lookups in these shards, from these records of its pass on
abbrev pub HasLookedFrom : (V : ℕ) → Sharded → List ReaderRecord → ReaderThread V → Type 0
HasLookedFrom V s before l = AreLookups s before (records_of l.handle) l.records.items

-- this key is drawn for its next lookup, these for its next ones
abbrev pub IsNextOf : (V : ℕ) → Load → ReaderThread V → ℕ → Type 0
IsNextOf V load l key = key ≡ drawn_key load (l.number + 1) (length l.records.items)

abbrev pub AreNextOf : (V : ℕ) → Load → ReaderThread V → List ℕ → Type 0
AreNextOf V load l keys = AreNext load (l.number + 1) (length l.records.items) keys

-- reader n may begin: there is room for its answers
pub record IsReady (V : ℕ) (load : Load) (n : ℕ) (l : ReaderThread V) : Type 0 where
  pub told : AreAllTold V l.handle l.records.items
  pub drawn : HasDrawn load (n + 1) 0 l.draws
  pub number : l.number ≡ n
  pub refused : l.refused ≡ None
  pub empty : vec_len l.records ≡ 0
  pub room : load.lookups ≤ vec_capacity l.records

-- reader n has made all its lookups, or the gate refused one
pub record HasEnded (V : ℕ) (load : Load) (n : ℕ) (l : ReaderThread V) : Type 0 where
  pub told : AreAllTold V l.handle l.records.items
  pub keys : AreDrawn load n l.records.items
  pub number : l.number ≡ n
  pub whole : l.refused ≡ None → length l.records.items ≡ load.lookups
  pub refused : IfSome l.refused (λ call. (1 ≤ call) × (call ≤ load.lookups))

-- so it may begin, and has ended, by its own number
abbrev pub CanLook : (V : ℕ) → Load → ReaderThread V → Type 0
CanLook V load l = IsReady V load l.number l × (l.number < most_readers)

pub record HasLooked (V : ℕ) (may : ℕ → ℕ → Type 0) (load : Load) (before after : ReaderThread V) : Type 0 where
  pub ended : HasEnded V load before.number after
  pub cache : cache_of after.handle ≡ cache_of before.handle
  pub place : place_of after.handle ≡ place_of before.handle
  pub looked : HasLookedFrom V (place_of before.handle) (records_of before.handle) after
  pub refused : IfSome after.refused (λ call. may (before.number + 1) call)

-- the answers that the readers wrote down
abbrev pub answers_of : {V : ℕ} → List (ReaderThread V) → List (List (Record V))
answers_of {V} ls = map (λ (l : ReaderThread V). l.records.items) ls

abbrev pub AreReady : (V : ℕ) → Load → List (ReaderThread V) → Type 0
AreReady V load ls = (n : ℕ) (d : ReaderThread V) → n < length ls → IsReady V load n (slice_index_or ls n d)

abbrev pub HaveEnded : (V : ℕ) → Load → List (ReaderThread V) → Type 0
HaveEnded V load ls = (n : ℕ) (d : ReaderThread V) → n < length ls → HasEnded V load n (slice_index_or ls n d)

-- each looks up in this cache, which has no desk
abbrev pub AreReadersOf : {V : ℕ} → Opening → List (ReaderThread V) → Type 0
AreReadersOf {V} o ls = All (λ (l : ReaderThread V). cache_of l.handle ≡ Some o) ls

-- each looks up in these shards
abbrev pub AreReadersIn : {V : ℕ} → Sharded → List (ReaderThread V) → Type 0
AreReadersIn {V} s ls = All (λ (l : ReaderThread V). place_of l.handle ≡ s) ls

-- each has got its answers by lookups in these shards
abbrev pub HaveAllGot : {V : ℕ} → Sharded → List (ReaderThread V) → Type 0
HaveAllGot {V} s ls = All (λ (l : ReaderThread V). HasGot s l.records.items) ls

-- the gate let every call through
abbrev pub AreWhole : {V : ℕ} → List (ReaderThread V) → Type 0
AreWhole {V} ls = All (λ (l : ReaderThread V). l.refused ≡ None) ls

-- every reader has written down the requested number of answers, those of the keys that were drawn
abbrev pub HaveAllNoted : {V : ℕ} → Load → List (ReaderThread V) → Type 0
HaveAllNoted {V} load ls = (n : ℕ) (d : ReaderThread V) → n < length ls → HasAsked load n (slice_index_or ls n d).records.items
