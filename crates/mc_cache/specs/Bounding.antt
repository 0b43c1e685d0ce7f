-- A put into a table that is to hold at most so many keys, though it has items for more.
use Rattle.std.specs.Prelude.{ℕ, ◌≡◌, ◌<◌, ◌≤◌, ◌++◌, ◌∷◌, [], List, length, None, Some, Result, Ok, Err, IfOk}
use Rattle.mc_words.specs.History.{key_count, map_value}
use Rattle.mc_words.specs.declared.history.Change.{Change}
use Rattle.mc_words.specs.declared.history.Change.TheVariants as change
use Rattle.mc_words.specs.declared.shape.Shape.{Shape}
use Rattle.mc_plan.specs.Loads.{changes_by}
use Rattle.mc_plan.specs.WholeCalls.{KeptCall, PutCall}
use Rattle.mc_plan.specs.declared.answer.Answer.TheVariants as answer
use Rattle.mc_plan.specs.declared.answer.EvictError.{EvictError}
use Rattle.mc_shared.specs.Records.{WriterRecord}
use Rattle.mc_writer.specs.Evictions.{HasTriedToEvict}
use Rattle.mc_writer.specs.WriterCalls.{HasCalled, HasFoundPresent}
use Rattle.mc_writer.specs.declared.entry.Entry.{Entry}
use Rattle.mc_writer.specs.declared.entry.Evict.TheVariants.{Evicted}
use Rattle.mc_cache.specs.Failing.{EvictFails, PutFails, SwapFails}
use Rattle.mc_cache.specs.Plain.{HasStamp, PutMeans, history, moment_of}
use Rattle.mc_cache.specs.Taking.{Holds, SwapMeans, swap_answer}
use Rattle.mc_cache.specs.declared.bounding.Bounded.{Bounded}
use Rattle.mc_cache.specs.declared.bounding.Bounded.TheVariants as bounded
use Rattle.mc_cache.specs.declared.bounding.BoundedPut.{BoundedPut}
use Rattle.mc_cache.specs.declared.bounding.BoundedPut.TheVariants as bounded_put
use Rattle.mc_cache.specs.declared.bounding.BoundedError.{BoundedError}
use Rattle.mc_cache.specs.declared.bounding.BoundedError.TheVariants as error

-- the key is not there, and the map holds as many keys as it is to hold, and one at least
pub record IsCrowded {V : ℕ} (h : List (Change V)) (k most : ℕ) : Type 0 where
  pub absent : map_value h k ≡ None
  pub many : most ≤ key_count h
  pub some : 0 < key_count h

-- what it does: a put, if the map is not crowded; else an eviction, and then, if that took an entry out, a put that evicts none
abbrev pub HasPutBounded : (V : ℕ) → Shape → ℕ → List ℕ → ℕ → WriterRecord → WriterRecord → Result (Bounded V) EvictError → Type 0
HasPutBounded V sh k v most w w' (Ok (bounded.Swapped told)) = (IsCrowded (history V w) k most → ⊥) × HasCalled V sh (PutCall k v) w w' (swap_answer told)
HasPutBounded V sh k v most w w' (Ok (bounded.Evicted old put)) =
    IsCrowded (history V w) k most × ((mid : WriterRecord) × (at : ℕ) × HasTriedToEvict V sh w mid (Ok (Evicted at old)) × HasCalled V sh (KeptCall k v) mid w' (answer.Kept put))
HasPutBounded V sh k v most w w' (Err why) = IsCrowded (history V w) k most × HasTriedToEvict V sh w w' (Err why)

-- what that means: the entry that left is what the map held of its key, and the put comes after it. If none could leave, nothing has changed
abbrev pub BoundedMeans : (V : ℕ) → List (Change V) → List (Change V) → ℕ → List ℕ → ℕ → Result (Bounded V) EvictError → Type 0
BoundedMeans V h h' k v most (Ok (bounded.Swapped told)) = (IsCrowded h k most → ⊥) × SwapMeans V h h' k v told
BoundedMeans V h h' k v most (Ok (bounded.Evicted old put)) =
    IsCrowded h k most × Holds h old.key (Some old) × (h' ≡ (h ++ change.Evict old.key ∷ []) ++ changes_by k v put) × IfOk put (λ told. moment_of told ≡ length h')
BoundedMeans V h h' k v most (Err why) = IsCrowded h k most × (h' ≡ h)

-- it fails as the put or the eviction does
abbrev pub BoundedFails : {V : ℕ} → Shape → List (Change V) → ℕ → ℕ → Result (Bounded V) EvictError → Type 0
BoundedFails sh h made k (Ok (bounded.Swapped told)) = SwapFails sh h made k told
BoundedFails sh h made k (Ok (bounded.Evicted old put)) = Unit {0}
BoundedFails {V} sh h made k (Err why) = EvictFails {V = V} sh h made (Err why)

-- a put only if the key is absent: if it is there, its stamp is returned
abbrev pub HasPutAbsentBounded : (V : ℕ) → Shape → ℕ → List ℕ → ℕ → WriterRecord → WriterRecord → Result (Bounded V) BoundedError → Type 0
HasPutAbsentBounded V sh k v most w w' (Ok done) = (map_value (history V w) k ≡ None) × HasPutBounded V sh k v most w w' (Ok done)
HasPutAbsentBounded V sh k v most w w' (Err (error.Evict why)) = (map_value (history V w) k ≡ None) × HasPutBounded V sh k v most w w' (Err why)
HasPutAbsentBounded V sh k v most w w' (Err (error.Present since)) = HasFoundPresent V sh k w w' since

abbrev pub AbsentBoundedMeans : (V : ℕ) → List (Change V) → List (Change V) → ℕ → List ℕ → ℕ → Result (Bounded V) BoundedError → Type 0
AbsentBoundedMeans V h h' k v most (Ok done) = (map_value h k ≡ None) × BoundedMeans V h h' k v most (Ok done)
AbsentBoundedMeans V h h' k v most (Err (error.Evict why)) = (map_value h k ≡ None) × BoundedMeans V h h' k v most (Err why)
AbsentBoundedMeans V h h' k v most (Err (error.Present since)) = HasStamp h k since × (h' ≡ h)

abbrev pub AbsentBoundedFails : {V : ℕ} → Shape → List (Change V) → ℕ → ℕ → Result (Bounded V) BoundedError → Type 0
AbsentBoundedFails sh h made k (Ok done) = BoundedFails sh h made k (Ok done)
AbsentBoundedFails {V} sh h made k (Err (error.Evict why)) = BoundedFails {V = V} sh h made k (Err why)
AbsentBoundedFails sh h made k (Err (error.Present since)) = Unit {0}

-- ---- the same without the entries that gave way
abbrev pub HasPutWithin : (V : ℕ) → Shape → ℕ → List ℕ → ℕ → WriterRecord → WriterRecord → Result BoundedPut EvictError → Type 0
HasPutWithin V sh k v most w w' (Ok (bounded_put.Put told)) = (IsCrowded (history V w) k most → ⊥) × HasCalled V sh (PutCall k v) w w' (answer.Put told)
HasPutWithin V sh k v most w w' (Ok (bounded_put.Evicted other put)) =
    IsCrowded (history V w) k most × ((mid : WriterRecord) × (at : ℕ) × (old : Entry V) × (other ≡ old.key) × HasTriedToEvict V sh w mid (Ok (Evicted at old)) × HasCalled V sh (KeptCall k v) mid w' (answer.Kept put))
HasPutWithin V sh k v most w w' (Err why) = IsCrowded (history V w) k most × HasTriedToEvict V sh w w' (Err why)

abbrev pub PutWithinMeans : (V : ℕ) → List (Change V) → List (Change V) → ℕ → List ℕ → ℕ → Result BoundedPut EvictError → Type 0
PutWithinMeans V h h' k v most (Ok (bounded_put.Put told)) = (IsCrowded h k most → ⊥) × PutMeans V h h' k v told
PutWithinMeans V h h' k v most (Ok (bounded_put.Evicted other put)) =
    IsCrowded h k most × ((old : Entry V) × Holds h other (Some old)) × (h' ≡ (h ++ change.Evict other ∷ []) ++ changes_by k v put) × IfOk put (λ told. moment_of told ≡ length h')
PutWithinMeans V h h' k v most (Err why) = IsCrowded h k most × (h' ≡ h)

abbrev pub PutWithinFails : (V : ℕ) → Shape → List (Change V) → ℕ → ℕ → Result BoundedPut EvictError → Type 0
PutWithinFails V sh h made k (Ok (bounded_put.Put told)) = PutFails sh h made k told
PutWithinFails V sh h made k (Ok (bounded_put.Evicted other put)) = Unit {0}
PutWithinFails V sh h made k (Err why) = EvictFails {V = V} sh h made (Err why)

abbrev pub HasPutAbsentWithin : (V : ℕ) → Shape → ℕ → List ℕ → ℕ → WriterRecord → WriterRecord → Result BoundedPut BoundedError → Type 0
HasPutAbsentWithin V sh k v most w w' (Ok done) = (map_value (history V w) k ≡ None) × HasPutWithin V sh k v most w w' (Ok done)
HasPutAbsentWithin V sh k v most w w' (Err (error.Evict why)) = (map_value (history V w) k ≡ None) × HasPutWithin V sh k v most w w' (Err why)
HasPutAbsentWithin V sh k v most w w' (Err (error.Present since)) = HasFoundPresent V sh k w w' since

abbrev pub PutAbsentWithinMeans : (V : ℕ) → List (Change V) → List (Change V) → ℕ → List ℕ → ℕ → Result BoundedPut BoundedError → Type 0
PutAbsentWithinMeans V h h' k v most (Ok done) = (map_value h k ≡ None) × PutWithinMeans V h h' k v most (Ok done)
PutAbsentWithinMeans V h h' k v most (Err (error.Evict why)) = (map_value h k ≡ None) × PutWithinMeans V h h' k v most (Err why)
PutAbsentWithinMeans V h h' k v most (Err (error.Present since)) = HasStamp h k since × (h' ≡ h)

abbrev pub PutAbsentWithinFails : (V : ℕ) → Shape → List (Change V) → ℕ → ℕ → Result BoundedPut BoundedError → Type 0
PutAbsentWithinFails V sh h made k (Ok done) = PutWithinFails V sh h made k (Ok done)
PutAbsentWithinFails V sh h made k (Err (error.Evict why)) = PutWithinFails V sh h made k (Err why)
PutAbsentWithinFails V sh h made k (Err (error.Present since)) = Unit {0}
