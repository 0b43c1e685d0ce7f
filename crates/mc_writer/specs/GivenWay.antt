-- What the map held of a key that gave way to a put, or was taken out.
use Rattle.std.specs.Prelude.{ℕ, ◌≡◌, List, [], ◌∷◌, ◌++◌, Option, Some, None, Result, Ok, Err}
use Rattle.mc_words.specs.History.{map_value}
use Rattle.mc_words.specs.declared.history.Change.{Change}
use Rattle.mc_plan.specs.declared.answer.Put.{Put}
use Rattle.mc_plan.specs.declared.answer.Put.TheVariants.{Stored, Renewed}
use Rattle.mc_plan.specs.declared.answer.IfError.{IfError}
use Rattle.mc_plan.specs.declared.answer.PutError.{PutError}
use Rattle.mc_plan.specs.declared.answer.Remove.{Remove}
use Rattle.mc_plan.specs.declared.answer.Remove.TheVariants as removal
use Rattle.mc_plan.specs.declared.answer.Spent.{Spent}
use Rattle.mc_writer.specs.declared.entry.Entry.{Entry}
use Rattle.mc_writer.specs.declared.entry.Replaced.{Replaced}
use Rattle.mc_writer.specs.declared.entry.Swapped.{Swapped}
use Rattle.mc_writer.specs.declared.entry.Take.{Take}
use Rattle.mc_writer.specs.declared.entry.Take.TheVariants.{Taken, NotThere}

-- the map of the history holds this entry of the key, or nothing
abbrev pub Holds : {V : ℕ} → List (Change V) → ℕ → Option (Entry V) → Type 0
Holds h k (Some entry) = (entry.key ≡ k) × (map_value h k ≡ Some (entry.value ++ entry.since ∷ []))
Holds h k None = map_value h k ≡ None

-- the key whose entry gives way to a put of the key: the one that is evicted, or the key itself
abbrev pub giving_way : ℕ → Put → ℕ
giving_way k (Stored at moves (Some other)) = other
giving_way k (Stored at moves None) = k
giving_way k (Renewed at) = k

-- the answer of the put
abbrev pub put_of : {V : ℕ} → Result (Swapped V) PutError → Result Put PutError
put_of (Ok swapped) = Ok swapped.put
put_of (Err why) = Err why

-- the answer of the put on a condition, and that of the removal
abbrev pub put_if_of : {V : ℕ} → Result (Replaced V) IfError → Result ℕ IfError
put_if_of (Ok replaced) = Ok replaced.at
put_if_of (Err why) = Err why

abbrev pub removal_of : {V : ℕ} → Result (Take V) Spent → Result Remove Spent
removal_of (Ok (Taken at old)) = Ok (removal.Removed at)
removal_of (Ok (NotThere at)) = Ok (removal.NotThere at)
removal_of (Err spent) = Err spent

-- the entry that was taken out is what the map held of the key
abbrev pub HasTaken : {V : ℕ} → List (Change V) → ℕ → Take V → Type 0
HasTaken h k (Taken at old) = Holds h k (Some old)
HasTaken h k (NotThere at) = Unit {0}
