-- What was decided, as the acts that it means and the answer.
use Rattle.std.specs.Prelude.{ℕ, List, [], ◌∷◌, ◌++◌, length, Option, Result, Ok, Err}
use Rattle.mc_words.specs.declared.place.Place.{Place}
use Rattle.mc_words.specs.declared.policy.Policy.{Policy}
use Rattle.mc_words.specs.declared.policy.Policy.TheVariants.{Clock, ScanResistant}
use Rattle.mc_words.specs.declared.shape.Shape.{Shape}
use Rattle.mc_theory.specs.declared.act.Act.{Act}
use Rattle.mc_theory.specs.declared.act.Act.TheVariants.{Mark}
use Rattle.mc_plan.specs.declared.answer.Put.{Put}
use Rattle.mc_plan.specs.declared.answer.Put.TheVariants.{Stored}
use Rattle.mc_plan.specs.declared.answer.Remove.{Remove}
use Rattle.mc_plan.specs.declared.answer.Remove.TheVariants.{Removed, NotThere}
use Rattle.mc_plan.specs.declared.answer.Spent.{Spent}
use Rattle.mc_plan.specs.declared.decision.Move.{Move}
use Rattle.mc_plan.specs.declared.decision.Moves.{Moves}
use Rattle.mc_plan.specs.declared.decision.Moves.TheVariants.{Unneeded, One, Listed}
use Rattle.mc_plan.specs.declared.decision.Removal.{Removal}
use Rattle.mc_plan.specs.declared.decision.Removal.TheVariants.{Refuse, TakeOut, Leave}
use Rattle.mc_plan.specs.declared.decision.Replacement.{Replacement}
use Rattle.mc_plan.specs.declared.decision.Storing.{Storing}
use Rattle.mc_plan.specs.Plans.{evict_acts, fill_acts, move_acts, remove_acts, renew_acts}

-- the acts of these moves, one after the other
abbrev pub acts_of_moves : List Move → List Act
acts_of_moves [] = []
acts_of_moves (m ∷ moves) = move_acts m.key m.word m.from m.to ++ acts_of_moves moves

-- the key's item has a new value, and is marked
abbrev pub renewal_acts : ℕ → List ℕ → ℕ → ℕ → List Act
renewal_acts k v at i = renew_acts k v at i ++ Mark i ∷ []

-- the mark of a new key's item, which only CLOCK makes
abbrev pub new_marks : Policy → ℕ → List Act
new_marks Clock i = Mark i ∷ []
new_marks ScanResistant i = []

-- the key is put at the item and into the place, and the item is marked by CLOCK
abbrev pub filling_acts : Policy → Shape → ℕ → List ℕ → ℕ → ℕ → Place → List Act
filling_acts policy sh k v at i p = fill_acts sh k v at i p ++ new_marks policy i

-- the moves, if those that the books list are these
abbrev pub moves_of : List Move → Moves → List Move
moves_of listed Unneeded = []
moves_of listed (One m) = m ∷ []
moves_of listed Listed = listed

-- the moves make room, and the key is put at the item and into the place
abbrev pub storing_acts : Policy → List Move → Shape → ℕ → List ℕ → Storing → List Act
storing_acts policy listed sh k v storing = acts_of_moves (moves_of listed storing.moves) ++ filling_acts policy sh k v storing.at storing.item storing.place

-- and before that another key is taken out
abbrev pub replacement_acts : Policy → List Move → Shape → ℕ → List ℕ → Replacement → List Act
replacement_acts policy listed sh k v r = evict_acts r.victim.key r.victim.place ++ storing_acts policy listed sh k v r.storing

-- the key is taken out, if there is something to do
abbrev pub removal_acts : ℕ → Removal → List Act
removal_acts k (Refuse spent) = []
removal_acts k (TakeOut place at) = remove_acts k place
removal_acts k (Leave at) = []

-- the answer of a put that stores a new key, and takes out this one for it
abbrev pub storing_told : List Move → Storing → Option ℕ → Put
storing_told listed storing evicted = Stored storing.at (length (moves_of listed storing.moves)) evicted

-- the answer of a removal
abbrev pub removal_told : Removal → Result Remove Spent
removal_told (Refuse spent) = Err spent
removal_told (TakeOut place at) = Ok (Removed at)
removal_told (Leave at) = Ok (NotThere at)
