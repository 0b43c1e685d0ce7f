-- Where the entry that gives way is: the acts that are due say so.
use Rattle.std.proofs.Common.{ℕ, ◌+◌, ◌<◌, ◌≤◌, List, [], ◌∷◌, ◌++◌, arith, length}
use Rattle.mc_words.specs.Keys.{stripe_of}
use Rattle.mc_words.specs.Places.{slot_number, version}
use Rattle.mc_words.specs.Shapes.{IsShape}
use Rattle.mc_words.specs.Standing.{Stands}
use Rattle.mc_words.specs.declared.place.Place.{Place}
use Rattle.mc_words.specs.declared.shape.Shape.{Shape}
use Rattle.mc_words.proofs.Frames.{same-with_version}
use Rattle.mc_words.proofs.Keys.{stripe_of-lt}
use Rattle.mc_theory.specs.Effects.{with_bump}
use Rattle.mc_theory.specs.Lists.{AreAllowed}
use Rattle.mc_theory.specs.States.{State}
use Rattle.mc_theory.specs.declared.act.Act.{Act}
use Rattle.mc_plan.specs.Decisions.{renewal_acts}
use Rattle.mc_plan.specs.Making.{as_made}
use Rattle.mc_plan.specs.Plans.{evict_acts, remove_acts}

-- making the version odd moves no key
stood : (V : ℕ) (sh : Shape) (w : List ℕ) (k e q i : ℕ) → IsShape sh → Stands V sh (with_bump sh w k) e q i → Stands V sh w e q i
stood V sh w k e q i shape = (same-with_version V sh w (stripe_of sh k) (version w (stripe_of sh k) + 1) e (stripe_of-lt sh k shape)).back q i

-- the value of a key is rewritten at the item at which the key stands
pub renewed_stands : (V : ℕ) (sh : Shape) (s : State V) (k at i : ℕ) (v : List ℕ) (later : List Act) → IsShape sh → 1 ≤ length v → AreAllowed sh s (as_made (renewal_acts k v at i ++ later)) → (q : ℕ) × Stands V sh s.words k q i
renewed_stands V sh s k at i [] later shape some allowed = absurd (omega (arith, some))
renewed_stands V sh s k at i (x ∷ xs) later shape some allowed =
    let stands : (q : ℕ) × Stands V sh (with_bump sh s.words k) k q i = allowed.1.0.3 in
    (stands.0, stood V sh s.words k k stands.0 i shape stands.1)

-- the slot that is cleared is the one in which the key stands
pub evicted_stands : (V : ℕ) (sh : Shape) (s : State V) (k : ℕ) (p : Place) (later : List Act) → IsShape sh → AreAllowed sh s (as_made (evict_acts k p ++ later)) → (p.slot < 4) × ((i : ℕ) × Stands V sh s.words k (slot_number p) i)
evicted_stands V sh s k p later shape allowed =
    let stands : (i : ℕ) × Stands V sh (with_bump sh s.words k) k (slot_number p) i = allowed.1.0.2 in
    (allowed.1.0.0, (stands.0, stood V sh s.words k k (slot_number p) stands.0 shape stands.1))

pub removed_stands : (V : ℕ) (sh : Shape) (s : State V) (k : ℕ) (p : Place) (later : List Act) → IsShape sh → AreAllowed sh s (as_made (remove_acts k p ++ later)) → (p.slot < 4) × ((i : ℕ) × Stands V sh s.words k (slot_number p) i)
removed_stands V sh s k p later shape allowed =
    let stands : (i : ℕ) × Stands V sh (with_bump sh s.words k) k (slot_number p) i = allowed.1.0.2 in
    (allowed.1.0.0, (stands.0, stood V sh s.words k k (slot_number p) stands.0 shape stands.1))
