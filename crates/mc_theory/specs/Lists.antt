-- Lists of acts: lawful ones, and the state after each front of one.
use Rattle.std.specs.Prelude.{ℕ, List, [], ◌∷◌, take}
use Rattle.mc_words.specs.declared.shape.Shape.{Shape}
use Rattle.mc_theory.specs.Acts.{IsAllowed}
use Rattle.mc_theory.specs.Effects.{after_act}
use Rattle.mc_theory.specs.States.{State, opening}
use Rattle.mc_theory.specs.declared.act.Act.{Act}

-- an act that was made, and the bit that it read if it is one of the hand
pub record Made : Type 0 where
  pub act : Act
  pub bit : ℕ

-- the state after these acts
abbrev pub after_all : {V : ℕ} → Shape → State V → List Made → State V
after_all sh s [] = s
after_all sh s (m ∷ ms) = after_all sh (after_act sh s m.act m.bit) ms

-- each of these acts is allowed after those before it
abbrev pub AreAllowed : {V : ℕ} → Shape → State V → List Made → Type 0
AreAllowed sh s [] = Unit {0}
AreAllowed sh s (m ∷ ms) = IsAllowed sh s m.act × AreAllowed sh (after_act sh s m.act m.bit) ms

-- the acts of a new table, each allowed after those before it. How many version changes there are is not bounded here
unfoldable pub IsLawful : (V : ℕ) → Shape → List Made → Type 0
IsLawful V sh acts = AreAllowed sh (opening V sh) acts

-- the state of a new table after all these acts
unfoldable pub state_of : (V : ℕ) → Shape → List Made → State V
state_of V sh acts = after_all sh (opening V sh) acts

-- and after the first f of them
unfoldable pub front : (V : ℕ) → Shape → List Made → ℕ → State V
front V sh acts f = after_all sh (opening V sh) (take f acts)
