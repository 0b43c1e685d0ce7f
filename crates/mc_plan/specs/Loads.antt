-- Entries that are put one after the other into a table. None takes another's item.
use Rattle.std.specs.Prelude.{ℕ, ◌≡◌, ◌+◌, List, [], ◌∷◌, ◌++◌, Result, Ok, Err}
use Rattle.mc_words.specs.declared.policy.Policy.TheVariants.{Clock}
use Rattle.mc_words.specs.declared.policy.Policy.{Policy}
use Rattle.mc_words.specs.declared.history.Change.{Change}
use Rattle.mc_words.specs.declared.history.Change.TheVariants as change
use Rattle.mc_words.specs.declared.shape.Shape.{Shape}
use Rattle.mc_theory.specs.Lists.{Made, after_all}
use Rattle.mc_theory.specs.States.{State}
use Rattle.mc_plan.specs.WholeCalls.{AnsweredBy, KeptCall}
use Rattle.mc_plan.specs.declared.answer.Answer.TheVariants as answer
use Rattle.mc_plan.specs.declared.answer.Put.{Put}
use Rattle.mc_plan.specs.declared.answer.Why.{Why}

-- an entry that was put is a change of the history
abbrev pub changes_by : {V : ℕ} → ℕ → List ℕ → Result Put Why → List (Change V)
changes_by k v (Ok put) = change.Put k v ∷ []
changes_by k v (Err why) = []

-- and one that was left is named by its index, with the reason
abbrev pub left_by : ℕ → Result Put Why → List (ℕ × Why)
left_by n (Ok put) = []
left_by n (Err why) = (n, why) ∷ []

-- From this state on the acts are a whole call for each of the entries, one after the other in their order: a put that takes no other
-- key's item, in the state that those before it left. The changes are the puts that were made, and the entries of the others are left,
-- each with the first reason that applies. The first entry has the index n.
abbrev pub LoadsBy : (V : ℕ) → Shape → Policy → State V → ℕ → List (ℕ × List ℕ) → List Made → List (Change V) → List (ℕ × Why) → Type 0
LoadsBy V sh policy s n [] acts changes left = (acts ≡ []) × (changes ≡ []) × (left ≡ [])
LoadsBy V sh policy s n (e ∷ es) acts changes left =
    (told : Result Put Why) × (first : List Made) × (rest : List Made) × (later : List (Change V)) × (others : List (ℕ × Why)) ×
    (acts ≡ first ++ rest) × (changes ≡ changes_by e.0 e.1 told ++ later) × (left ≡ left_by n told ++ others) ×
    AnsweredBy V sh policy (KeptCall e.0 e.1) s first (answer.Kept told) × LoadsBy V sh policy (after_all sh s first) (n + 1) es rest later others

-- with CLOCK
abbrev pub Loads : (V : ℕ) → Shape → State V → ℕ → List (ℕ × List ℕ) → List Made → List (Change V) → List (ℕ × Why) → Type 0
Loads V sh = LoadsBy V sh Clock
