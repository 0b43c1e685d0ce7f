-- A checked shape, as contracts see it.
use Rattle.std.specs.Prelude.{ℕ, Option, Some, None}
use Rattle.mc_words.specs.declared.shape.Shape.{Shape}
use Rattle.mc_words.specs.declared.checked.Checked.{Checked}
use Rattle.mc_words.specs.declared.policy.Policy.{Policy}
use Rattle.mc_words.specs.Keys.{NamesUnder}

-- the shape that was checked
abbrev pub shape_of : Checked → Shape
shape_of c = c.shape

-- the policy by which a key gives way there
abbrev pub policy_of : Checked → Policy
policy_of c = c.policy

-- the tag and the item that the word of a slot names, or that it names none
abbrev pub Parts : Shape → ℕ → Option (ℕ × ℕ) → Type 0
Parts sh word (Some parts) = NamesUnder sh word parts.0 parts.1
Parts sh word None = (tag i : ℕ) → NamesUnder sh word tag i → ⊥
