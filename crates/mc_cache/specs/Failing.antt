-- When a call of the writer may fail: the clauses `fails`. They speak of the history and of a number in the writer's record: how many
-- version changes were made. A call that fails changes neither.
use Rattle.std.specs.Prelude.{ℕ, ◌≡◌, ◌+◌, ◌*◌, ◌<◌, ◌≤◌, List, length, None, Result, Ok, Err}
use Rattle.mc_words.specs.History.{key_count, map_value}
use Rattle.mc_words.specs.declared.history.Change.{Change}
use Rattle.mc_words.specs.declared.shape.Shape.{Shape}
use Rattle.mc_theory.specs.Lists.{state_of}
use Rattle.mc_plan.specs.declared.answer.AbsentError.{AbsentError}
use Rattle.mc_plan.specs.declared.answer.AbsentError.TheVariants as absent
use Rattle.mc_plan.specs.declared.answer.EvictError.{EvictError}
use Rattle.mc_plan.specs.declared.answer.EvictError.TheVariants as evict
use Rattle.mc_plan.specs.declared.answer.IfError.{IfError}
use Rattle.mc_plan.specs.declared.answer.IfError.TheVariants as why
use Rattle.mc_plan.specs.declared.answer.Put.{Put}
use Rattle.mc_plan.specs.declared.answer.PutError.{PutError}
use Rattle.mc_plan.specs.declared.answer.PutError.TheVariants.{NoPath, AllRecent, Spent}
use Rattle.mc_plan.specs.declared.answer.Remove.{Remove}
use Rattle.mc_plan.specs.declared.answer.Spent.{Spent as RemoveSpent}
use Rattle.mc_shared.specs.Records.{ReaderRecord, WriterRecord}
use Rattle.mc_cache.specs.declared.desk.DeskError.{DeskError}
use Rattle.mc_cache.specs.declared.desk.DeskError.TheVariants as desk
use Rattle.mc_writer.specs.declared.entry.Evict.{Evict}
use Rattle.mc_writer.specs.declared.entry.Replaced.{Replaced}
use Rattle.mc_writer.specs.declared.entry.Take.{Take}
use Rattle.mc_cache.specs.Taking.{put_if_of, put_of, removal_of}
use Rattle.mc_writer.specs.declared.entry.Swapped.{Swapped}

-- how many version changes a writer has made, and how many a reader has seen
unfoldable pub version_changes : (V : ℕ) → WriterRecord → ℕ
version_changes V w = (state_of V w.of.layout.shape w.acts).version_steps

unfoldable pub versions_seen : (V : ℕ) → ReaderRecord → ℕ
versions_seen V r = (state_of V r.of.layout.shape r.front).version_steps

-- n version changes were made, two or more for each change of the history, and `more` more could pass the limit
abbrev pub IsSpent : {V : ℕ} → Shape → List (Change V) → ℕ → ℕ → Type 0
IsSpent sh h made more = (2 * length h ≤ made) × (sh.limit < made + more)

-- a put may fail without a path or without an item only if its key is absent; without an item, only if the table holds as many keys as it
-- has items. A put makes two version changes for each of its moves, for its eviction and for itself
abbrev pub PutFails : {V : ℕ} → Shape → List (Change V) → ℕ → ℕ → Result Put PutError → Type 0
PutFails sh h made k (Ok told) = Unit {0}
PutFails sh h made k (Err NoPath) = map_value h k ≡ None
PutFails sh h made k (Err AllRecent) = (map_value h k ≡ None) × (key_count h ≡ sh.items)
PutFails sh h made k (Err Spent) = IsSpent sh h made (2 * (sh.depth + 2))

-- a put that puts a key only if it is absent may fail as a put may. A key that is there is no failure of the put
abbrev pub PutIfAbsentFails : {V : ℕ} → Shape → List (Change V) → ℕ → ℕ → Result Put AbsentError → Type 0
PutIfAbsentFails sh h made k (Ok told) = Unit {0}
PutIfAbsentFails sh h made k (Err (absent.Put why)) = PutFails sh h made k (Err why)
PutIfAbsentFails sh h made k (Err (absent.Present since)) = Unit {0}

-- a put on a condition, which overwrites, makes two version changes
abbrev pub PutIfFails : {V : ℕ} → Shape → List (Change V) → ℕ → Result ℕ IfError → Type 0
PutIfFails sh h made (Err why.Spent) = IsSpent sh h made 2
PutIfFails sh h made told = Unit {0}

-- and so does a removal
abbrev pub RemovalFails : {V : ℕ} → Shape → List (Change V) → ℕ → Result Remove RemoveSpent → Type 0
RemovalFails sh h made (Ok told) = Unit {0}
RemovalFails sh h made (Err spent) = IsSpent sh h made 2

-- a call that also returns what it takes out of the map may fail as the call without that
abbrev pub SwapFails : {V : ℕ} → Shape → List (Change V) → ℕ → ℕ → Result (Swapped V) PutError → Type 0
SwapFails sh h made k told = PutFails sh h made k (put_of told)

abbrev pub SwapIfFails : {V : ℕ} → Shape → List (Change V) → ℕ → Result (Replaced V) IfError → Type 0
SwapIfFails sh h made told = PutIfFails sh h made (put_if_of told)

abbrev pub TakeFails : {V : ℕ} → Shape → List (Change V) → ℕ → Result (Take V) RemoveSpent → Type 0
TakeFails sh h made told = RemovalFails sh h made (removal_of told)

abbrev pub TakeIfFails : {V : ℕ} → Shape → List (Change V) → ℕ → Result (Replaced V) IfError → Type 0
TakeIfFails sh h made told = PutIfFails sh h made (put_if_of told)

-- an eviction without a put makes two version changes. It may find no entry that gives way only if there is one
abbrev pub EvictFails : {V : ℕ} → Shape → List (Change V) → ℕ → Result (Evict V) EvictError → Type 0
EvictFails sh h made (Ok told) = Unit {0}
EvictFails sh h made (Err evict.AllRecent) = 0 < key_count h
EvictFails sh h made (Err evict.Spent) = IsSpent sh h made 2

-- a try for the turn may fail if the try was held, or as its call may fail
abbrev pub TurnFails : {T E : Type 0} → (Result T E → Type 0) → Result T (DeskError E) → Type 0
TurnFails Fails (Ok done) = Unit {0}
TurnFails Fails (Err desk.Held) = Unit {0}
TurnFails Fails (Err (desk.Call why)) = Fails (Err why)
