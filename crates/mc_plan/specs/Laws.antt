-- The laws of plans.
use Rattle.std.specs.Prelude.{ℕ, ◌≡◌, All, List, length}
use Rattle.mc_words.specs.declared.place.Place.{Place}
use Rattle.mc_words.specs.declared.shape.Shape.{Shape}
use Rattle.mc_words.specs.History.{IsWord}
use Rattle.mc_words.specs.Shapes.{IsShape}
use Rattle.mc_plan.specs.Making.{ActsFill, ActsRenew, ActsRemove, ActsEvict}
use Rattle.mc_plan.specs.Moves.{ActsMove}
use Rattle.mc_plan.specs.Plans.{fill_acts, renew_acts, remove_acts, evict_acts, move_acts}

-- a value: V words
abbrev pub IsValue : ℕ → List ℕ → Type 0
IsValue V v = (length v ≡ V) × All IsWord v

abbrev pub FillsPut : ℕ → Type 0
FillsPut V =
    (sh : Shape) (k : ℕ) (v : List ℕ) (at i : ℕ) (p : Place) → IsShape sh → IsWord k → IsValue V v → IsWord at →
    ActsFill V sh k v at i p (fill_acts sh k v at i p)

abbrev pub RenewalsPut : ℕ → Type 0
RenewalsPut V =
    (sh : Shape) (k : ℕ) (v : List ℕ) (at i : ℕ) → IsShape sh → IsWord k → IsValue V v → IsWord at →
    ActsRenew V sh k v at i (renew_acts k v at i)

abbrev pub RemovalsTakeOut : ℕ → Type 0
RemovalsTakeOut V = (sh : Shape) (k : ℕ) (p : Place) → IsShape sh → IsWord k → ActsRemove V sh k p (remove_acts k p)

abbrev pub EvictionsTakeOut : ℕ → Type 0
EvictionsTakeOut V = (sh : Shape) (k : ℕ) (p : Place) → IsShape sh → IsWord k → ActsEvict V sh k p (evict_acts k p)

abbrev pub MovesKeepTheMap : ℕ → Type 0
MovesKeepTheMap V = (sh : Shape) (k word : ℕ) (from to : Place) → IsShape sh → IsWord k → ActsMove V sh k word from to (move_acts k word from to)
