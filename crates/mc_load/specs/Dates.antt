-- What a turn changes of the map, by its answer, and when.
use Rattle.std.specs.Prelude.{ℕ, ◌≡◌, ◌+◌, ◌-◌, ◌<◌, List, [], ◌∷◌, Result, Ok, Err, Some, None, length, map, slice_index_or}
use Rattle.mc_words.specs.declared.history.Change.{Change}
use Rattle.mc_words.specs.declared.history.Change.TheVariants as change
use Rattle.mc_plan.specs.declared.answer.Put.{Put}
use Rattle.mc_plan.specs.declared.answer.Put.TheVariants.{Stored, Renewed}
use Rattle.mc_plan.specs.declared.answer.PutError.{PutError}
use Rattle.mc_plan.specs.declared.answer.Remove.{Remove}
use Rattle.mc_plan.specs.declared.answer.Remove.TheVariants.{Removed, NotThere}
use Rattle.mc_plan.specs.declared.answer.Spent.{Spent}
use Rattle.mc_cache.specs.declared.desk.DeskError.{DeskError}
use Rattle.mc_load.specs.declared.dated.Dated.{Dated}

abbrev pub dated : {V : ℕ} → ℕ → Change V → Dated V
dated at made = record { at = at; change = made }

abbrev pub put_dated : {V : ℕ} → ℕ → List ℕ → Result Put (DeskError PutError) → List (Dated V)
put_dated k v (Ok (Stored at moves None)) = dated at (change.Put k v) ∷ []
put_dated k v (Ok (Stored at moves (Some other))) = dated (at - 1) (change.Evict other) ∷ dated at (change.Put k v) ∷ []
put_dated k v (Ok (Renewed at)) = dated at (change.Put k v) ∷ []
put_dated k v (Err why) = []

abbrev pub removal_dated : {V : ℕ} → ℕ → Result Remove (DeskError Spent) → List (Dated V)
removal_dated k (Ok (Removed at)) = dated at (change.Remove k) ∷ []
removal_dated k (Ok (NotThere at)) = []
removal_dated k (Err why) = []

-- the changes without their moments
abbrev pub changes_of : {V : ℕ} → List (Dated V) → List (Change V)
changes_of {V} all = map (λ (d : Dated V). d.change) all

-- change n, counted from 0, is the one that ends with moment n + 1
abbrev pub AreMoments : {V : ℕ} → List (Dated V) → Type 0
AreMoments {V} all = (n : ℕ) (d : Dated V) → n < length all → (slice_index_or all n d).at ≡ n + 1
