-- The meaning of the calls that also return the entry which they take out of the map: it is what the map held just before.
use Rattle.std.specs.Prelude.{ℕ, ◌≡◌, ◌≢◌, ◌++◌, ◌∷◌, [], List, length, None, Some, Result, Ok, Err, IfOk}
pub use Rattle.mc_writer.specs.GivenWay.{Holds, giving_way, put_if_of, put_of, removal_of}
use Rattle.mc_words.specs.History.{key_count, map_value}
use Rattle.mc_words.specs.declared.history.Change.{Change}
use Rattle.mc_words.specs.declared.history.Change.TheVariants as change
use Rattle.mc_plan.specs.declared.answer.AbsentError.{AbsentError}
use Rattle.mc_plan.specs.declared.answer.Answer.{Answer}
use Rattle.mc_plan.specs.declared.answer.Answer.TheVariants as answer
use Rattle.mc_plan.specs.declared.answer.EvictError.{EvictError}
use Rattle.mc_plan.specs.declared.answer.IfError.{IfError}
use Rattle.mc_plan.specs.declared.answer.IfError.TheVariants as why
use Rattle.mc_plan.specs.declared.answer.Put.{Put}
use Rattle.mc_plan.specs.declared.answer.PutError.{PutError}
use Rattle.mc_plan.specs.declared.answer.Remove.TheVariants as removal
use Rattle.mc_plan.specs.declared.answer.Spent.{Spent}
use Rattle.mc_writer.specs.declared.entry.Swapped.{Swapped}
use Rattle.mc_words.specs.declared.shape.Shape.{Shape}
use Rattle.mc_plan.specs.WholeCalls.{RemoveCall}
use Rattle.mc_shared.specs.Records.{WriterRecord}
use Rattle.mc_writer.specs.WriterCalls.{HasCalled}
use Rattle.mc_cache.specs.Plain.{PutIfAbsentMeans, PutIfMeans, PutMeans, RemovalMeans}
use Rattle.mc_writer.specs.declared.entry.Entry.{Entry}
use Rattle.mc_writer.specs.declared.entry.Evict.{Evict}
use Rattle.mc_writer.specs.declared.entry.Evict.TheVariants.{Evicted, Empty}
use Rattle.mc_writer.specs.declared.entry.Replaced.{Replaced}
use Rattle.mc_writer.specs.declared.entry.Take.{Take}
use Rattle.mc_writer.specs.declared.entry.Take.TheVariants.{Taken, NotThere}

-- what is answered, as answers of whole calls
abbrev pub swap_answer : {V : ℕ} → Result (Swapped V) PutError → Answer
swap_answer told = answer.Put (put_of told)

abbrev pub swap_if_answer : {V : ℕ} → Result (Replaced V) IfError → Answer
swap_if_answer told = answer.PutIf (put_if_of told)

abbrev pub take_answer : {V : ℕ} → Result (Take V) Spent → Answer
take_answer told = answer.Remove (removal_of told)

-- a put, and what the map held of the key that gave way
abbrev pub SwapMeans : (V : ℕ) → List (Change V) → List (Change V) → ℕ → List ℕ → Result (Swapped V) PutError → Type 0
SwapMeans V h h' k v told = PutMeans V h h' k v (put_of told) × IfOk told (λ swapped. Holds h (giving_way k swapped.put) swapped.old)

-- a put on a condition, and what the map held of its key
abbrev pub SwapIfMeans : (V : ℕ) → List (Change V) → List (Change V) → ℕ → ℕ → List ℕ → Result (Replaced V) IfError → Type 0
SwapIfMeans V h h' k since v told = PutIfMeans V h h' k since v (put_if_of told) × IfOk told (λ replaced. Holds h k (Some replaced.old))

-- the answer of the put of an absent key
abbrev pub absent_of : {V : ℕ} → Result (Swapped V) AbsentError → Result Put AbsentError
absent_of (Ok swapped) = Ok swapped.put
absent_of (Err why) = Err why

-- a put of a key only if it is absent, and what the map held of the key that gave way
abbrev pub SwapIfAbsentMeans : (V : ℕ) → List (Change V) → List (Change V) → ℕ → List ℕ → Result (Swapped V) AbsentError → Type 0
SwapIfAbsentMeans V h h' k v told = PutIfAbsentMeans V h h' k v (absent_of told) × IfOk told (λ swapped. Holds h (giving_way k swapped.put) swapped.old)

-- a removal, and what the map held of its key
abbrev pub TakeMeans : (V : ℕ) → List (Change V) → List (Change V) → ℕ → Result (Take V) Spent → Type 0
TakeMeans V h h' k (Ok (Taken at old)) = RemovalMeans V h h' k (Ok (removal.Removed at)) × Holds h k (Some old)
TakeMeans V h h' k (Ok (NotThere at)) = RemovalMeans V h h' k (Ok (removal.NotThere at))
TakeMeans V h h' k (Err spent) = RemovalMeans V h h' k (Err spent)

-- what a removal on a condition does: a removal, or nothing where the key's last put is another one than the caller had seen
abbrev pub HasTakenIf : (V : ℕ) → Shape → ℕ → WriterRecord → WriterRecord → Result (Replaced V) IfError → Type 0
HasTakenIf V sh k w w' (Ok replaced) = HasCalled V sh (RemoveCall k) w w' (answer.Remove (Ok (removal.Removed replaced.at)))
HasTakenIf V sh k w w' (Err (why.NotThere at)) = HasCalled V sh (RemoveCall k) w w' (answer.Remove (Ok (removal.NotThere at)))
HasTakenIf V sh k w w' (Err (why.Changed stands)) = w' ≡ w
HasTakenIf V sh k w w' (Err why.Spent) = (spent : Spent) × HasCalled V sh (RemoveCall k) w w' (answer.Remove (Err spent))

-- an eviction without a put: it takes out one entry, which is what the map held of its key, or the map holds none. One that fails has changed nothing
abbrev pub EvictMeans : (V : ℕ) → List (Change V) → List (Change V) → Result (Evict V) EvictError → Type 0
EvictMeans V h h' (Ok (Evicted at old)) = Holds h old.key (Some old) × (h' ≡ h ++ change.Evict old.key ∷ []) × (map_value h' old.key ≡ None) × (at ≡ length h')
EvictMeans V h h' (Ok (Empty at)) = (key_count h ≡ 0) × (h' ≡ h) × (at ≡ length h)
EvictMeans V h h' (Err why) = h' ≡ h

-- a removal on a condition, and what the map held of its key: its last put was the one that the caller had seen. That another one had changed
-- the key comes before that the limit could be passed
abbrev pub TakeIfMeans : (V : ℕ) → List (Change V) → List (Change V) → ℕ → ℕ → Result (Replaced V) IfError → Type 0
TakeIfMeans V h h' k since (Ok replaced) = RemovalMeans V h h' k (Ok (removal.Removed replaced.at)) × Holds h k (Some replaced.old) × (replaced.old.since ≡ since)
TakeIfMeans V h h' k since (Err (why.NotThere at)) = RemovalMeans V h h' k (Ok (removal.NotThere at))
TakeIfMeans V h h' k since (Err (why.Changed stands)) = ((stays : Entry V) × Holds h k (Some stays) × (stays.since ≡ stands)) × (stands ≢ since) × (h' ≡ h)
TakeIfMeans V h h' k since (Err why.Spent) = ((stays : Entry V) → Holds h k (Some stays) → stays.since ≡ since) × (h' ≡ h)
