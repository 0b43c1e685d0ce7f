-- Readings: what a reader read, and at which front of the list of acts.
use Rattle.std.specs.Prelude.{ℕ, ◌≡◌, ◌≤◌, List, [], ◌∷◌}
use Rattle.mc_words.specs.Places.{item, moment, payload, slot, slot_number, version}
use Rattle.mc_words.specs.declared.shape.Shape.{Shape}
use Rattle.mc_theory.specs.Lists.{Made, front}
use Rattle.mc_theory.specs.declared.access.Access.{Access}
use Rattle.mc_theory.specs.declared.access.Access.TheVariants.{Version, Slot, Key, Value, Stamp, Moment, Mark}

-- what was read, and how many acts the writer had made then; of a mark only the access counts
pub record Reading : Type 0 where
  pub access : Access
  pub word : ℕ
  pub front : ℕ

-- the word is that of the place that the access names; a mark reads none
abbrev pub IsWordOf : ℕ → Shape → List ℕ → Access → ℕ → Type 0
IsWordOf V sh w (Version t) x = x ≡ version w t
IsWordOf V sh w (Slot p) x = x ≡ slot sh w (slot_number p)
IsWordOf V sh w (Key i) x = x ≡ item V sh w i 0
IsWordOf V sh w (Value i j) x = x ≡ item V sh w i j
IsWordOf V sh w (Stamp i) x = x ≡ item V sh w i (payload V)
IsWordOf V sh w Moment x = x ≡ moment w
IsWordOf V sh w (Mark i) x = Unit {0}

-- each word is that of its place at its front
abbrev pub AreRead : ℕ → Shape → List Made → List Reading → Type 0
AreRead V sh acts [] = Unit {0}
AreRead V sh acts (r ∷ rs) = IsWordOf V sh (front V sh acts r.front).words r.access r.word × AreRead V sh acts rs

-- the fronts do not fall, from f on, and end by g
abbrev pub RiseTo : ℕ → List Reading → ℕ → Type 0
RiseTo f [] g = f ≤ g
RiseTo f (r ∷ rs) g = (f ≤ r.front) × RiseTo r.front rs g
