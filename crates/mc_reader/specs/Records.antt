-- What a lookup adds to a reader's record.
use Rattle.std.specs.Prelude.{ℕ, ◌≡◌, ◌+◌, ◌*◌, ◌≤◌, List, [], ◌∷◌, ◌++◌, length}
use Rattle.mc_words.specs.History.{IsTrueAnswer}
use Rattle.mc_words.specs.Places.{payload}
use Rattle.mc_words.specs.declared.history.Change.{Change}
use Rattle.mc_words.specs.declared.history.Reply.{Reply}
use Rattle.mc_words.specs.declared.shape.Shape.{Shape}
use Rattle.mc_theory.specs.Lookups.{IsLookup}
use Rattle.mc_theory.specs.Plain.{IsBetween}
use Rattle.mc_theory.specs.Readings.{AreRead, Reading, RiseTo}
use Rattle.mc_shared.specs.Records.{ReaderRecord}
use Rattle.mc_shared.specs.Views.{IsFrontOf}

-- the last of these fronts, from f on, is g: nothing later was seen
abbrev pub EndsAt : ℕ → List Reading → ℕ → Type 0
EndsAt f [] g = g ≡ f
EndsAt f (r ∷ rs) g = EndsAt r.front rs g

-- the reader keeps its number, and these readings were added, at fronts from the old one on that don't fall, each with the word
-- of its place at its front; they are a whole lookup of the key, with this reply
pub record HasLooked (V : ℕ) (sh : Shape) (k : ℕ) (before after : ReaderRecord) (reply : Reply V) : Type 0 where
  pub rs : List Reading
  pub of : after.of ≡ before.of
  pub number : after.number ≡ before.number
  pub done : after.done ≡ before.done ++ rs
  pub begins : IsFrontOf before.front after.front
  pub rise : RiseTo (length before.front) rs (length after.front)
  pub read : AreRead V sh after.front rs
  pub last : EndsAt (length before.front) rs (length after.front)
  pub looked : IsLookup V sh k sh.tries rs reply
  pub steps : length rs ≤ sh.tries * (19 + payload V) + 1

-- whole lookups of these keys were added, one after the other in the keys' order, with these replies, and nothing else
abbrev pub HaveLooked : (V : ℕ) → Shape → List ℕ → ReaderRecord → ReaderRecord → List (Reply V) → Type 0
HaveLooked V sh [] before after [] = after ≡ before
HaveLooked V sh (k ∷ ks) before after (r ∷ rs) = (mid : ReaderRecord) × HasLooked V sh k before mid r × HaveLooked V sh ks mid after rs
HaveLooked V sh [] before after (r ∷ rs) = ⊥
HaveLooked V sh (k ∷ ks) before after [] = ⊥

-- each key's reply is true of the history, and the number of changes that it names is between these two
abbrev pub AreTrueAnswers : {V : ℕ} → List (Change V) → ℕ → ℕ → List ℕ → List (Reply V) → Type 0
AreTrueAnswers h lo hi [] [] = Unit {0}
AreTrueAnswers h lo hi (k ∷ ks) (r ∷ rs) = IsTrueAnswer h k r × IsBetween lo hi r × AreTrueAnswers h lo hi ks rs
AreTrueAnswers h lo hi [] (r ∷ rs) = ⊥
AreTrueAnswers h lo hi (k ∷ ks) [] = ⊥
