-- What the calls of a cache mean for whoever uses it: the clauses `plain`. They name no word of the table: they speak of two
-- histories, which are lists of changes of a map. The writer's has every change that was made. A reader's is the part of it that
-- the reader is known to have seen.
use Rattle.std.specs.Prelude.{ℕ, ◌≡◌, ◌≢◌, ◌+◌, ◌⊎◌, List, [], ◌∷◌, ◌++◌, length, Option, Some, None, IsSome, Result, Ok, Err}
pub use Rattle.mc_words.specs.History.{map_value, IsLegal, IsTrueAnswer}
pub use Rattle.mc_theory.specs.Plain.{IsBetween}
pub use Rattle.mc_search.specs.Entries.{AreEntriesOf}
use Rattle.mc_words.specs.declared.history.Change.{Change}
use Rattle.mc_words.specs.declared.history.Change.TheVariants as change
use Rattle.mc_words.specs.declared.history.Reply.{Reply}
use Rattle.mc_words.specs.declared.history.Reply.TheVariants.{Found, Absent, Busy}
use Rattle.mc_plan.specs.declared.answer.AbsentError.{AbsentError}
use Rattle.mc_plan.specs.declared.answer.AbsentError.TheVariants as absent
use Rattle.mc_plan.specs.declared.answer.IfError.{IfError}
use Rattle.mc_plan.specs.declared.answer.IfError.TheVariants as why
use Rattle.mc_plan.specs.declared.answer.Put.{Put}
use Rattle.mc_plan.specs.declared.answer.Put.TheVariants.{Stored, Renewed}
use Rattle.mc_plan.specs.declared.answer.PutError.{PutError}
use Rattle.mc_plan.specs.declared.answer.Remove.{Remove}
use Rattle.mc_plan.specs.declared.answer.Remove.TheVariants.{Removed, NotThere}
use Rattle.mc_plan.specs.declared.answer.Spent.{Spent}
use Rattle.mc_plan.specs.declared.answer.Why.{Why}
use Rattle.mc_theory.specs.Lists.{state_of}
use Rattle.mc_shared.specs.Records.{WriterRecord, ReaderRecord}
use Rattle.mc_cache.specs.declared.desk.DeskError.{DeskError}
use Rattle.mc_cache.specs.declared.desk.DeskError.TheVariants as desk

-- the history of a writer whose values have V words
unfoldable pub history : (V : ℕ) → WriterRecord → List (Change V)
history V w = (state_of V w.of.layout.shape w.acts).history

-- the history that a reader has seen
unfoldable pub seen : (V : ℕ) → ReaderRecord → List (Change V)
seen V r = (state_of V r.of.layout.shape r.front).history

-- the one history begins the other
abbrev pub Begins : {V : ℕ} → List (Change V) → List (Change V) → Type 0
Begins {V} h h' = (more : List (Change V)) × (h' ≡ h ++ more)

-- the reply is what the map of the history holds of the key, at its end
abbrev pub TellsNow : {V : ℕ} → List (Change V) → ℕ → Reply V → Type 0
TellsNow h k (Found v at since) = (map_value h k ≡ Some (v ++ since ∷ [])) × (at ≡ length h)
TellsNow h k (Absent at) = (map_value h k ≡ None) × (at ≡ length h)
TellsNow h k Busy = ⊥

-- a put that succeeds puts the key, and first evicts another one if it says so
abbrev pub put_changes : {V : ℕ} → ℕ → List ℕ → Put → List (Change V)
put_changes k v (Stored at moves None) = change.Put k v ∷ []
put_changes k v (Stored at moves (Some other)) = change.Evict other ∷ change.Put k v ∷ []
put_changes k v (Renewed at) = change.Put k v ∷ []

-- the key was there before only if it was renewed, and a key that was evicted was there
abbrev pub WasThere : {V : ℕ} → List (Change V) → ℕ → Put → Type 0
WasThere h k (Stored at moves None) = map_value h k ≡ None
WasThere h k (Stored at moves (Some other)) = (map_value h k ≡ None) × IsSome (map_value h other)
WasThere h k (Renewed at) = IsSome (map_value h k)

abbrev pub moment_of : Put → ℕ
moment_of (Stored at moves evicted) = at
moment_of (Renewed at) = at

-- a put led from the one history to the other, in which the key has the value, with the moment of this put as its stamp
pub record HasPut (V : ℕ) (h h' : List (Change V)) (k : ℕ) (v : List ℕ) (told : Put) : Type 0 where
  pub was : WasThere h k told
  pub grew : h' ≡ h ++ put_changes k v told
  pub holds : map_value h' k ≡ Some (v ++ moment_of told ∷ [])
  pub at : moment_of told ≡ length h'

-- what the answer of a put means: a refused one has changed nothing
abbrev pub PutMeans : (V : ℕ) → List (Change V) → List (Change V) → ℕ → List ℕ → Result Put PutError → Type 0
PutMeans V h h' k v (Ok told) = HasPut V h h' k v told
PutMeans V h h' k v (Err why) = h' ≡ h

-- the map of the history holds some value of the key, with this stamp after it
abbrev pub HasStamp : {V : ℕ} → List (Change V) → ℕ → ℕ → Type 0
HasStamp {V} h k since = (v : List ℕ) × (map_value h k ≡ Some (v ++ since ∷ [])) × (length v ≡ V)

-- a put on a condition led from the one history to the other: the key's last put was the one that the caller had seen
pub record HasPutIf (V : ℕ) (h h' : List (Change V)) (k since : ℕ) (v : List ℕ) (at : ℕ) : Type 0 where
  pub was : HasStamp h k since
  pub grew : h' ≡ h ++ change.Put k v ∷ []
  pub holds : map_value h' k ≡ Some (v ++ at ∷ [])
  pub at_end : at ≡ length h'

-- what the answer of a put on a condition means: a refused one has changed nothing
abbrev pub PutIfMeans : (V : ℕ) → List (Change V) → List (Change V) → ℕ → ℕ → List ℕ → Result ℕ IfError → Type 0
PutIfMeans V h h' k since v (Ok at) = HasPutIf V h h' k since v at
PutIfMeans V h h' k since v (Err why.Spent) = h' ≡ h
PutIfMeans V h h' k since v (Err (why.NotThere at)) = (map_value h k ≡ None) × (h' ≡ h) × (at ≡ length h)
PutIfMeans V h h' k since v (Err (why.Changed stands)) = HasStamp h k stands × (stands ≢ since) × (h' ≡ h)

-- what the answer of a put that requires an absent key means: if the key is there, its stamp is returned. One that puts nothing
-- has changed nothing
abbrev pub PutIfAbsentMeans : (V : ℕ) → List (Change V) → List (Change V) → ℕ → List ℕ → Result Put AbsentError → Type 0
PutIfAbsentMeans V h h' k v (Ok told) = (map_value h k ≡ None) × HasPut V h h' k v told
PutIfAbsentMeans V h h' k v (Err (absent.Put why)) = (map_value h k ≡ None) × (h' ≡ h)
PutIfAbsentMeans V h h' k v (Err (absent.Present since)) = HasStamp h k since × (h' ≡ h)

-- each of the entries, in order, is put, or is left and named by its index: the puts are all the changes, and no other index is named.
-- The first entry has the index n
abbrev pub TakesOrNames : {V : ℕ} → ℕ → List (ℕ × List ℕ) → List (Change V) → List (ℕ × Why) → Type 0
TakesOrNames n [] changes left = (changes ≡ []) × (left ≡ [])
TakesOrNames {V} n (e ∷ es) changes left =
    ((later : List (Change V)) × (changes ≡ change.Put e.0 e.1 ∷ later) × TakesOrNames (n + 1) es later left) ⊎
    ((reason : Why) × (others : List (ℕ × Why)) × (left ≡ (n, reason) ∷ others) × TakesOrNames (n + 1) es changes others)

-- what the answer of a removal means
abbrev pub RemovalMeans : (V : ℕ) → List (Change V) → List (Change V) → ℕ → Result Remove Spent → Type 0
RemovalMeans V h h' k (Ok (Removed at)) = IsSome (map_value h k) × (h' ≡ h ++ change.Remove k ∷ []) × (map_value h' k ≡ None) × (at ≡ length h')
RemovalMeans V h h' k (Ok (NotThere at)) = (map_value h k ≡ None) × (h' ≡ h) × (at ≡ length h)
RemovalMeans V h h' k (Err spent) = h' ≡ h

-- a reader has seen the one history before a lookup, and the other after it. The reply is what the map held after some number of
-- changes of the history now seen, no fewer than had been seen before
pub record HasAnswered (V : ℕ) (h h' : List (Change V)) (k : ℕ) (reply : Reply V) : Type 0 where
  pub begins : Begins h h'
  pub true : IsTrueAnswer h' k reply
  pub between : IsBetween (length h) (length h') reply

-- what a try for the turn, to look a key up, means for what its pass has seen: that begins what it has seen now, and the reply is what the
-- map holds of the key after that. If it was held, nothing more was seen
abbrev pub PeekMeans : (V : ℕ) → List (Change V) → List (Change V) → ℕ → Option (Reply V) → Type 0
PeekMeans V h h' k (Some reply) = Begins h h' × TellsNow h' k reply
PeekMeans V h h' k None = h' ≡ h

-- a reader has met the writer: what it had seen begins the writer's history, all of which it has seen now
pub record HasMet (V : ℕ) (h h' : List (Change V)) (all : List (Change V)) : Type 0 where
  pub begins : Begins h all
  pub now : h' ≡ all

-- what a try for the turn means for what its pass has seen: the call was made from a history that begins with what the pass had seen, and
-- all is seen now. If it was held, nothing was seen
abbrev pub TurnMeans : {T E : Type 0} {V : ℕ} → (List (Change V) → List (Change V) → Result T E → Type 0) → List (Change V) → List (Change V) → Result T (DeskError E) → Type 0
TurnMeans {V = V} Means h h' (Ok done) = (before : List (Change V)) × Begins h before × Means before h' (Ok done)
TurnMeans Means h h' (Err desk.Held) = h' ≡ h
TurnMeans {V = V} Means h h' (Err (desk.Call why)) = (before : List (Change V)) × Begins h before × Means before h' (Err why)
