-- What an act of the writer leaves.
use Rattle.std.specs.Prelude.{ℕ, ◌+◌, ◌%◌, ◌==◌, if◌then◌else◌, Bool, true, false, List, [], ◌∷◌, ◌++◌, Option, Some, None}
use Rattle.mc_words.specs.History.{value_of}
use Rattle.mc_words.specs.Keys.{stripe_of}
use Rattle.mc_words.specs.Places.{slot_number, moment, version, with_moment, with_version, with_slot, with_item}
use Rattle.mc_words.specs.declared.history.Change.{Change}
use Rattle.mc_words.specs.declared.history.Change.TheVariants.{Put, Remove, Evict}
use Rattle.mc_words.specs.declared.shape.Shape.{Shape}
use Rattle.mc_theory.specs.Phases.{Phase, Quiet, Filling, Keyed, Placed, Renewing, Removing, Removed, Moving, Moved, Closing, deed_key, first_phase}
use Rattle.mc_theory.specs.States.{State}
use Rattle.mc_theory.specs.declared.act.Act.{Act}
use Rattle.mc_theory.specs.declared.act.Act.TheVariants.{Open, Slot, Item, Moment, Close, Hand, Mark}

-- the version of the key's stripe is one more
abbrev pub with_bump : Shape → List ℕ → ℕ → List ℕ
with_bump sh w k = with_version w (stripe_of sh k) (version w (stripe_of sh k) + 1)

abbrev pub with_close : Shape → List ℕ → Option ℕ → List ℕ
with_close sh w None = w
with_close sh w (Some k) = with_bump sh w k

abbrev pub words_after : ℕ → Shape → List ℕ → Phase → Act → List ℕ
words_after V sh w p (Open k d) = with_bump sh w k
words_after V sh w p (Slot q x) = with_slot sh w (slot_number q) x
words_after V sh w p (Item i j x) = with_item V sh w i j x
words_after V sh w p Moment = with_moment w (moment w + 1)
words_after V sh w p Close = with_close sh w (deed_key p)
words_after V sh w p (Hand i) = w
words_after V sh w p (Mark i) = w

abbrev pub phase_after : Phase → Act → Phase
phase_after p (Open k d) = first_phase k d
phase_after (Filling k) (Item i j x) = Keyed k i []
phase_after (Keyed k i xs) (Item g j x) = Keyed k i (xs ++ x ∷ [])
phase_after (Keyed k i xs) (Slot q x) = Placed k i xs
phase_after (Placed k i xs) Moment = Closing k
phase_after (Renewing k xs) (Item i j x) = Renewing k (xs ++ x ∷ [])
phase_after (Renewing k xs) Moment = Closing k
phase_after (Removing k e) (Slot q x) = Removed k e
phase_after (Removed k e) Moment = Closing k
phase_after (Moving k) (Slot q x) = Moved k (slot_number q)
phase_after (Moved k p) (Slot q x) = Closing k
phase_after (Closing k) Close = Quiet
phase_after p _ = p

-- the change of a removal, or of an eviction
abbrev pub removal_of : {V : ℕ} → Bool → ℕ → Change V
removal_of false k = Remove k
removal_of true k = Evict k

-- the change of the running deed: it puts the value in the words that were written
abbrev pub change_of : {V : ℕ} → Phase → List (Change V)
change_of {V} (Placed k i xs) = Put k (value_of V xs) ∷ []
change_of {V} (Renewing k xs) = Put k (value_of V xs) ∷ []
change_of {V} (Removed k e) = removal_of e k ∷ []
change_of {V} _ = []

abbrev pub history_after : {V : ℕ} → List (Change V) → Phase → Act → List (Change V)
history_after h p Moment = h ++ change_of p
history_after h p _ = h

abbrev pub hand_after : Shape → ℕ → Act → ℕ
hand_after sh hand (Hand i) = (i + 1) % sh.items
hand_after sh hand _ = hand

abbrev pub cleared_after : Option ℕ → Act → ℕ → Option ℕ
cleared_after c (Open k d) bit = None
cleared_after c (Hand i) bit = if bit == 0 then Some i else None
cleared_after c _ bit = c

abbrev pub version_steps_after : ℕ → Act → ℕ
version_steps_after v (Open k d) = v + 1
version_steps_after v Close = v + 1
version_steps_after v _ = v

-- the state after an act; bit is what the hand read, if the act is one of the hand
abbrev pub after_act : {V : ℕ} → Shape → State V → Act → ℕ → State V
after_act {V} sh s a bit = record {
  words = words_after V sh s.words s.phase a;
  phase = phase_after s.phase a;
  hand = hand_after sh s.hand a;
  cleared = cleared_after s.cleared a bit;
  history = history_after s.history s.phase a;
  version_steps = version_steps_after s.version_steps a;
}
