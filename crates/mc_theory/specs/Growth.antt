-- What a longer list of acts leaves of a shorter one.
use Rattle.std.specs.Prelude.{ℕ, ◌≡◌, ◌≤◌, List, [], ◌∷◌, ◌++◌, length}
use Rattle.mc_words.specs.declared.history.Change.{Change}
use Rattle.mc_words.specs.declared.shape.Shape.{Shape}
use Rattle.mc_theory.specs.Acts.{IsAllowed}
use Rattle.mc_theory.specs.Effects.{after_act}
use Rattle.mc_theory.specs.Lists.{Made, IsLawful, after_all, state_of, front}
use Rattle.mc_theory.specs.Readings.{Reading, AreRead, RiseTo}
use Rattle.mc_theory.specs.States.{opening}

-- no acts are lawful, and a lawful list and one allowed act more is
pub record LawfulGrows (V : ℕ) : Type 0 where
  pub none : (sh : Shape) → IsLawful V sh []
  pub more : (sh : Shape) (acts : List Made) (m : Made) → IsLawful V sh acts → IsAllowed sh (state_of V sh acts) m.act → IsLawful V sh (acts ++ m ∷ [])

-- the state of a list is that of the opening, changed by one act after the other; the front of all acts is that state, also in a longer list
pub record StatesFollow (V : ℕ) : Type 0 where
  pub none : (sh : Shape) → state_of V sh [] ≡ opening V sh
  pub more : (sh : Shape) (acts : List Made) (m : Made) → state_of V sh (acts ++ m ∷ []) ≡ after_act sh (state_of V sh acts) m.act m.bit
  pub whole : (sh : Shape) (acts : List Made) (f : ℕ) → length acts ≤ f → front V sh acts f ≡ state_of V sh acts
  pub all : (sh : Shape) (acts more : List Made) → state_of V sh (acts ++ more) ≡ after_all sh (state_of V sh acts) more
  pub old : (sh : Shape) (acts more : List Made) → front V sh (acts ++ more) (length acts) ≡ state_of V sh acts

-- the old fronts of a longer list are the same
abbrev pub FrontsStay : ℕ → Type 0
FrontsStay V = (sh : Shape) (acts more : List Made) (f : ℕ) → f ≤ length acts → front V sh (acts ++ more) f ≡ front V sh acts f

-- readings of a list are readings of a longer one
abbrev pub ReadingsStay : ℕ → Type 0
ReadingsStay V =
    (sh : Shape) (acts more : List Made) (rs : List Reading) (d : ℕ) → RiseTo d rs (length acts) → AreRead V sh acts rs → AreRead V sh (acts ++ more) rs

-- fronts that don't fall may end later; a reading at a front that is no smaller may come after them, and one more that is read of the list
pub record ReadingsGrow (V : ℕ) : Type 0 where
  pub later : (f g h : ℕ) (rs : List Reading) → RiseTo f rs g → g ≤ h → RiseTo f rs h
  pub more : (f g : ℕ) (rs : List Reading) (r : Reading) → RiseTo f rs r.front → r.front ≤ g → RiseTo f (rs ++ r ∷ []) g
  pub read : (sh : Shape) (acts : List Made) (rs : List Reading) (r : Reading) → AreRead V sh acts rs → AreRead V sh acts (r ∷ []) → AreRead V sh acts (rs ++ r ∷ [])

-- the history of a front begins those of later fronts
abbrev pub HistoriesGrow : ℕ → Type 0
HistoriesGrow V =
    (sh : Shape) (acts : List Made) (f g : ℕ) → f ≤ g → (new : List (Change V)) × ((front V sh acts g).history ≡ (front V sh acts f).history ++ new)
