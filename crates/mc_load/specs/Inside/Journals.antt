-- What a call of the writer changes of the map, by its answer.
use Rattle.std.specs.Prelude.{ℕ, List, [], ◌∷◌, Result, Ok, Err}
use Rattle.mc_words.specs.declared.history.Change.{Change}
use Rattle.mc_words.specs.declared.history.Change.TheVariants as change
use Rattle.mc_plan.specs.declared.answer.Put.{Put}
use Rattle.mc_cache.specs.Plain as plain
use Rattle.mc_plan.specs.declared.answer.PutError.{PutError}
use Rattle.mc_plan.specs.declared.answer.Remove.{Remove}
use Rattle.mc_plan.specs.declared.answer.Remove.TheVariants.{Removed, NotThere}
use Rattle.mc_plan.specs.declared.answer.Spent.{Spent}

abbrev pub put_changes : {V : ℕ} → ℕ → List ℕ → Result Put PutError → List (Change V)
put_changes k v (Ok told) = plain.put_changes k v told
put_changes k v (Err why) = []

abbrev pub remove_changes : {V : ℕ} → ℕ → Result Remove Spent → List (Change V)
remove_changes k (Ok (Removed at)) = change.Remove k ∷ []
remove_changes k (Ok (NotThere at)) = []
remove_changes k (Err spent) = []
