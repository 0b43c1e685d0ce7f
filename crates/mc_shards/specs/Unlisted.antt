-- Why the entries of shards are not listed, and their keys not counted.
use Rattle.std.specs.Prelude.{ℕ, ◌≡◌, ◌+◌, ◌<◌, ◌≤◌, List, Some, slice_get}
use Rattle.mc_words.specs.declared.no_memory.NoMemory.{NoMemory}
use Rattle.mc_shared.specs.Records.{ReaderRecord}
use Rattle.mc_cache.specs.Turns.{HasMetAtDesk}
use Rattle.mc_cache.specs.declared.desk.DeskError.{DeskError}
use Rattle.mc_cache.specs.declared.desk.DeskError.TheVariants as desk

-- why a shard was not listed, if its reader had the one record and now has the other: the try was held, and the reader was left alone; or
-- the list could not be stored, and the reader has seen all
abbrev pub HasNotListed : (V : ℕ) → DeskError NoMemory → ReaderRecord → ReaderRecord → Type 0
HasNotListed V desk.Held r r' = r' ≡ r
HasNotListed V (desk.Call why) r r' = HasMetAtDesk V r r'

-- from this shard on, each reader had the one record, met the writer, and now has the other
abbrev pub HaveMetFrom : (V : ℕ) → ℕ → List ReaderRecord → List ReaderRecord → Type 0
HaveMetFrom V n rs rs' = (i : ℕ) (r r' : ReaderRecord) → n ≤ i → slice_get rs i ≡ Some r → slice_get rs' i ≡ Some r' → HasMetAtDesk V r r'

-- the shards were asked from the last one back, and this one was not listed, or not counted, for this reason: the readers of the shards behind
-- it have met the writer, and those of the shards before it were left alone
pub record StopsAt (V shard : ℕ) (rs rs' : List ReaderRecord) (why : DeskError NoMemory) : Type 0 where
  pub before : ReaderRecord
  pub after : ReaderRecord
  pub was : slice_get rs shard ≡ Some before
  pub is : slice_get rs' shard ≡ Some after
  pub failed : HasNotListed V why before after
  pub asked : HaveMetFrom V (shard + 1) rs rs'
  pub left : (i : ℕ) → i < shard → slice_get rs' i ≡ slice_get rs i

-- one of the shards was not listed, or not counted, for this reason
abbrev pub HasStopped : (V : ℕ) → List ReaderRecord → List ReaderRecord → DeskError NoMemory → Type 0
HasStopped V rs rs' why = (shard : ℕ) × StopsAt V shard rs rs' why
