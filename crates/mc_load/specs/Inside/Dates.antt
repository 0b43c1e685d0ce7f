-- The moment of an answer, and when it reports an eviction.
use Rattle.std.specs.Prelude.{ℕ, ⊤, ◌≤◌, Option, Some, None, Result, Ok, Err}
use Rattle.mc_plan.specs.declared.answer.Remove.{Remove}
use Rattle.mc_plan.specs.declared.answer.Remove.TheVariants.{Removed, NotThere}
use Rattle.mc_plan.specs.declared.answer.Put.{Put}
use Rattle.mc_plan.specs.declared.answer.Put.TheVariants.{Stored, Renewed}

-- if a put evicted a key, that was a change before it
abbrev pub IsAfterEviction : Put → Type 0
IsAfterEviction (Stored at moves None) = ⊤
IsAfterEviction (Stored at moves (Some other)) = 1 ≤ at
IsAfterEviction (Renewed at) = ⊤

-- the moment of an answer; an error has none
abbrev pub put_at : {E : Type 0} → Result Put E → Option ℕ
put_at (Ok (Stored at moves evicted)) = Some at
put_at (Ok (Renewed at)) = Some at
put_at (Err why) = None

abbrev pub removal_at : {E : Type 0} → Result Remove E → Option ℕ
removal_at (Ok (Removed at)) = Some at
removal_at (Ok (NotThere at)) = Some at
removal_at (Err why) = None
