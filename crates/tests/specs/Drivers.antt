-- A clerk beside a plain list of words, as the tests drive it.
use Rattle.std.specs.Prelude.{ℕ, ◌≡◌, List, Some}
use Rattle.mc_words.specs.declared.shape.Shape.{Shape}
use Rattle.mc_theory.specs.Lists.{Made, after_all}
use Rattle.mc_theory.specs.Phases.{Phase, deed_key}
use Rattle.mc_theory.specs.States.{State}
use Rattle.mc_theory.specs.declared.act.Act.{Act}
use Rattle.mc_theory.specs.declared.act.Act.TheVariants.{Open}
use Rattle.mc_plan.specs.declared.clerk.Clerk.{Clerk}
use Rattle.mc_plan.specs.WholeCalls.{Call}
use Rattle.mc_plan.specs.Clerks.{Knows, IsOn, shape_of_clerk}

-- the key of the last open
abbrev pub key_after : ℕ → Act → ℕ
key_after key (Open k d) = k
key_after key _ = key

-- a running deed changes this key
abbrev pub IsTied : ℕ → Phase → Type 0
IsTied key p = (k : ℕ) → deed_key p ≡ Some k → k ≡ key

-- the clerk knows the words
pub record IsBeside (clerk : Clerk 1) (sh : Shape) (words : List ℕ) : Type 0 where
  pub s : State 1
  pub knows : Knows 1 clerk s
  pub now : words ≡ s.words
  pub shape : shape_of_clerk clerk ≡ sh

-- the clerk is in a call, of which some acts were made on the words
pub record IsMaking (clerk : Clerk 1) (sh : Shape) (words : List ℕ) (key : ℕ) : Type 0 where
  pub call : Call
  pub s : State 1
  pub acts : List Made
  pub on : IsOn 1 clerk call s acts
  pub now : words ≡ (after_all (shape_of_clerk clerk) s acts).words
  pub tied : IsTied key (after_all (shape_of_clerk clerk) s acts).phase
  pub shape : shape_of_clerk clerk ≡ sh
