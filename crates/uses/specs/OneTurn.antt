-- Two puts in one turn.
use Rattle.std.specs.Prelude.{ℕ, List, Result}
use Rattle.mc_cache.specs.Change.{Change}
use Rattle.mc_cache.specs.Plain.{PutMeans}
use Rattle.mc_cache.specs.Put.{Put}
use Rattle.mc_cache.specs.PutError.{PutError}

-- one put, whatever it answered, and right after it the other: no change of anybody else is between them
pub record MeansBoth (h h' : List (Change 1)) (k l : ℕ) (v w : List ℕ) (told : Result Put PutError) : Type 0 where
  pub between : List (Change 1)
  pub first : Result Put PutError
  pub one : PutMeans 1 h between k v first
  pub other : PutMeans 1 between h' l w told
