-- What each answer of a call means for the table before it and after it.
use Rattle.std.specs.Prelude.{ℕ, List, Some, None, Result, Ok, Err}
use Rattle.mc_words.specs.declared.shape.Shape.{Shape}
use Rattle.mc_words.specs.Answers as means
use Rattle.mc_words.specs.Answers.{Quiet}
use Rattle.mc_plan.specs.declared.answer.IfError.{IfError}
use Rattle.mc_plan.specs.declared.answer.IfError.TheVariants as why
use Rattle.mc_plan.specs.declared.answer.Put.{Put}
use Rattle.mc_plan.specs.declared.answer.Put.TheVariants.{Stored, Renewed}
use Rattle.mc_plan.specs.declared.answer.PutError.{PutError}
use Rattle.mc_plan.specs.declared.answer.PutError.TheVariants.{NoPath, AllRecent, Spent}
use Rattle.mc_plan.specs.declared.answer.Remove.{Remove}
use Rattle.mc_plan.specs.declared.answer.Remove.TheVariants.{Removed, NotThere}
use Rattle.mc_plan.specs.declared.answer.Spent.{Spent as RemoveSpent}
use Rattle.mc_plan.specs.declared.answer.Why.{Why}
use Rattle.mc_plan.specs.declared.answer.Why.TheVariants as left

-- what the answer of a put means
abbrev pub PutAnswers : {V : ℕ} → Shape → Quiet V → ℕ → List ℕ → Result Put PutError → Quiet V → Type 0
PutAnswers {V} sh s k v (Ok (Stored at moves None)) t = means.Stores V sh s t k v at moves
PutAnswers {V} sh s k v (Ok (Stored at moves (Some evicted))) t = means.Replaces V sh s t k v at moves evicted
PutAnswers {V} sh s k v (Ok (Renewed at)) t = means.Renews V sh s t k v at
PutAnswers {V} sh s k v (Err NoPath) t = means.RefusesPath V sh s t k
PutAnswers {V} sh s k v (Err AllRecent) t = means.RefusesAll V sh s t k
PutAnswers {V} sh s k v (Err Spent) t = means.PutRefusedSpent sh s t

-- what the answer of a put that takes no other key's item means: if every item is in use, that is why
abbrev pub KeptAnswers : {V : ℕ} → Shape → Quiet V → ℕ → List ℕ → Result Put Why → Quiet V → Type 0
KeptAnswers {V} sh s k v (Ok (Stored at moves None)) t = means.Stores V sh s t k v at moves
KeptAnswers {V} sh s k v (Ok (Stored at moves (Some evicted))) t = ⊥
KeptAnswers {V} sh s k v (Ok (Renewed at)) t = means.Renews V sh s t k v at
KeptAnswers {V} sh s k v (Err left.NoPath) t = means.RefusesPath V sh s t k
KeptAnswers {V} sh s k v (Err left.NoItem) t = means.RefusesItem V sh s t k
KeptAnswers {V} sh s k v (Err left.Spent) t = means.PutRefusedSpent sh s t

-- why such a put stores nothing, if a put that swept for no item was refused
abbrev pub why_of : PutError → Why
why_of NoPath = left.NoPath
why_of AllRecent = left.NoItem
why_of Spent = left.Spent

-- what the answer of a put on a condition means: the key's stamp is `since`
abbrev pub IfAnswers : {V : ℕ} → Shape → Quiet V → ℕ → ℕ → List ℕ → Result ℕ IfError → Quiet V → Type 0
IfAnswers {V} sh s k since v (Ok at) t = means.IfRenews V sh s t k since v at
IfAnswers {V} sh s k since v (Err why.Spent) t = means.IfRefusedSpent sh s t
IfAnswers {V} sh s k since v (Err (why.NotThere at)) t = means.IfNotThere V sh s t k at
IfAnswers {V} sh s k since v (Err (why.Changed stands)) t = means.IfChanged V sh s t k since stands

-- what the answer of a removal means
abbrev pub RemoveAnswers : {V : ℕ} → Shape → Quiet V → ℕ → Result Remove RemoveSpent → Quiet V → Type 0
RemoveAnswers {V} sh s k (Ok (Removed at)) t = means.Removes V sh s t k at
RemoveAnswers {V} sh s k (Ok (NotThere at)) t = means.FindsNothing V sh s t k at
RemoveAnswers {V} sh s k (Err spent) t = means.RemoveRefusedSpent sh s t
