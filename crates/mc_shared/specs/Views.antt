-- What a seat of a table knows. It exists in proofs alone.
use Rattle.std.specs.Prelude.{ℕ, ◌≡◌, ◌+◌, ◌==◌, List, [], ◌∷◌, ◌++◌, if◌then◌else◌}
use Rattle.mc_words.specs.Checks.{policy_of, shape_of}
use Rattle.mc_words.specs.declared.checked.Checked.{Checked}
use Rattle.mc_words.specs.declared.policy.Policy.{Policy}
use Rattle.mc_words.specs.declared.policy.Policy.TheVariants.{Clock}
use Rattle.mc_theory.specs.Lists.{Made, IsLawful, state_of}
use Rattle.mc_theory.specs.Readings.{Reading}
use Rattle.mc_theory.specs.States.{State}
use Rattle.mc_theory.specs.declared.act.Act.{Act}
use Rattle.mc_words.specs.declared.shape.Shape.{Shape}
use Rattle.mc_words.specs.declared.mix.Mix.TheVariants.{Plain}
use Rattle.mc_shared.specs.declared.layout.Layout.{Layout}

-- what was so when an act was made: how many marks readers had made of its item, if it is one of the hand, and how many
-- entries the record of each reader had, by the reader's number
pub record Note : Type 0 where
  pub marks : ℕ
  pub steps : List ℕ

-- how many readers there are, and a note for each act
pub record Tally : Type 0 where
  pub readers : ℕ
  pub notes : List Note

-- what was done on a seat: the acts that were made with their tally, or a reader's number, the last front that it saw, and what it read and marked
pub data Role : Type 0 where
  -- it was joined to the writer's
  Spent : Role
  Writes : (acts : List Made) (tally : Tally) → Role
  Reads : (number : ℕ) (front : List Made) (done : List Reading) → Role
  -- the writer's, with a reader's joined to it
  Both : (acts : List Made) (tally : Tally) (number : ℕ) (front : List Made) (done : List Reading) → Role

-- of a table with this many readers, and no acts
abbrev pub tally_for : ℕ → Tally
tally_for n = record { readers = n; notes = [] }

abbrev pub new_tally : Tally
new_tally = tally_for 0

abbrev pub with_reader : Tally → Tally
with_reader t = record { readers = t.readers + 1; notes = t.notes }

abbrev pub with_note : Tally → Note → Tally
with_note t n = record { readers = t.readers; notes = t.notes ++ n ∷ [] }

-- of which tables it is one, and what was done
pub record View : Type 0 where
  pub layout : Layout
  pub role : Role

abbrev pub view_as : Layout → Role → View
view_as l r = record { layout = l; role = r }

abbrev pub writer_view : Layout → List Made → Tally → View
writer_view l acts tally = view_as l (Writes acts tally)

abbrev pub reader_view : Layout → ℕ → List Made → List Reading → View
reader_view l number front done = view_as l (Reads number front done)

-- the writer's seat of a new table
abbrev pub new_writer_view : Layout → View
new_writer_view l = writer_view l [] new_tally

-- what no seat of a table knows
abbrev pub spent_view : View
spent_view = view_as (record { shape = record { buckets = 0; items = 0; stripes = 0; depth = 0; tries = 0; limit = 0; mix = Plain }; width = 0; policy = Clock }) Spent

abbrev pub acts_in : Role → List Made
acts_in Spent = []
acts_in (Writes acts tally) = acts
acts_in (Reads number front done) = []
acts_in (Both acts tally number front done) = acts

abbrev pub tally_in : Role → Tally
tally_in Spent = new_tally
tally_in (Writes acts tally) = tally
tally_in (Reads number front done) = new_tally
tally_in (Both acts tally number front done) = tally

abbrev pub number_in : Role → ℕ
number_in Spent = 0
number_in (Writes acts tally) = 0
number_in (Reads number front done) = number
number_in (Both acts tally number front done) = number

abbrev pub front_in : Role → List Made
front_in Spent = []
front_in (Writes acts tally) = []
front_in (Reads number front done) = front
front_in (Both acts tally number front done) = front

abbrev pub done_in : Role → List Reading
done_in Spent = []
done_in (Writes acts tally) = []
done_in (Reads number front done) = done
done_in (Both acts tally number front done) = done

-- 1 if a reader of this number has the seat, or was joined to it
abbrev pub seated_in : ℕ → Role → ℕ
seated_in a Spent = 0
seated_in a (Writes acts tally) = 0
seated_in a (Reads number front done) = if number == a then 1 else 0
seated_in a (Both acts tally number front done) = if number == a then 1 else 0

-- it is the role of the writer's seat, alone or with a reader's joined to it
abbrev pub IsWriters : Role → Type 0
IsWriters Spent = ⊥
IsWriters (Writes acts tally) = Unit {0}
IsWriters (Reads number front done) = ⊥
IsWriters (Both acts tally number front done) = Unit {0}

abbrev pub acts_of : View → List Made
acts_of v = acts_in v.role

abbrev pub tally_of : View → Tally
tally_of v = tally_in v.role

abbrev pub number_of : View → ℕ
number_of v = number_in v.role

abbrev pub front_of : View → List Made
front_of v = front_in v.role

abbrev pub done_of : View → List Reading
done_of v = done_in v.role

-- the acts of this layout are lawful
abbrev pub AreLawful : Layout → List Made → Type 0
AreLawful l acts = IsLawful l.width l.shape acts

-- the state after these acts
abbrev pub layout_state : (l : Layout) → List Made → State l.width
layout_state l acts = state_of l.width l.shape acts

abbrev pub with_bit : Act → ℕ → Made
with_bit a bit = record { act = a; bit = bit }

-- one list begins the other
abbrev pub IsFrontOf : List Made → List Made → Type 0
IsFrontOf front acts = (more : List Made) × (acts ≡ front ++ more)

-- the layout of a table of this shape and policy, if a value has V words
abbrev pub layout_with : ℕ → Policy → Shape → Layout
layout_with V policy sh = record { shape = sh; width = V; policy = policy }

abbrev pub layout_of : ℕ → Checked → Layout
layout_of V c = layout_with V (policy_of c) (shape_of c)
