-- What clauses see of a handle that holds the turn of every shard.
use Rattle.std.specs.Prelude.{ℕ, ◌≡◌, List, map}
use Rattle.mc_shared.specs.Records.{ReaderRecord, WriterRecord}
use Rattle.mc_words.specs.declared.history.Change.{Change}
use Rattle.mc_cache.specs.Plain.{history}
use Rattle.mc_shards.specs.Lending.{Lock}
use Rattle.mc_shards.specs.Loadings.{HaveMet}
use Rattle.mc_shards.specs.Plain.{AllBegin, seens}
use Rattle.mc_shards.specs.Sharded.{ArePassOf, Sharded}

-- the records of its readers and of the writers, one of each shard, and the locks that it has taken
pub record Holding : Type 0 where
  pub readers : List ReaderRecord
  pub writers : List WriterRecord
  pub locks : List Lock

-- it has the readers of these shards, and the turn of each
pub record IsHolderOf (s : Sharded) (h : Holding) : Type 0 where
  pub readers : ArePassOf s h.readers
  pub writers : map (λ w. w.of) h.writers ≡ s.tables
  pub locks : h.locks ≡ s.locks

-- the histories of the shards: nobody else changes them
abbrev pub histories : (V : ℕ) → Holding → List (List (Change V))
histories V h = map (history V) h.writers

-- the turns were taken by this pass, and it has met each writer
pub record HasBegunToHold (V : ℕ) (s : Sharded) (rs : List ReaderRecord) (h : Holding) : Type 0 where
  pub of : IsHolderOf s h
  pub met : HaveMet h.writers h.readers
  pub begins : AllBegin (seens V rs) (histories V h)
