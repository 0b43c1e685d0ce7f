-- An example: a put and a lookup of the same key that overlap, and what the laws say of the lookup.
use Rattle.std.specs.Prelude.{◌≡◌, ℕ, ◌≤◌, List, [], ◌∷◌, ◌++◌, length}
use Rattle.mc_words.specs.declared.policy.Policy.TheVariants.{Clock}
use Rattle.mc_words.specs.declared.history.Reply.{Reply}
use Rattle.mc_words.specs.declared.history.Reply.TheVariants.{Found}
use Rattle.mc_words.specs.declared.mix.Mix.TheVariants.{Plain}
use Rattle.mc_words.specs.declared.place.Place.{Place}
use Rattle.mc_words.specs.declared.shape.Shape.{Shape}
use Rattle.mc_theory.specs.Lists.{Made, state_of}
use Rattle.mc_theory.specs.Lookups.{IsLookup}
use Rattle.mc_theory.specs.Readings.{Reading}
use Rattle.mc_theory.specs.declared.access.Access.{Access}
use Rattle.mc_theory.specs.declared.access.Access.TheVariants as access
use Rattle.mc_theory.specs.declared.act.Act.TheVariants.{Open, Slot, Item, Moment, Close}
use Rattle.mc_theory.specs.declared.act.Deed.TheVariants as deed
use Rattle.mc_shared.specs.Views.{with_bit, layout_with}
use Rattle.mc_executions.specs.Executions.{TableState, IsExecution, HasRecord, HasActs}
use Rattle.mc_executions.specs.TimedLookups.{LooksBetween}

-- two buckets, one item and one stripe
abbrev pub small : Shape
small = record { buckets = 2; items = 1; stripes = 1; depth = 0; tries = 2; limit = 100; mix = Plain }

abbrev pub first_slot : Place
first_slot = record { bucket = 0; slot = 0 }

-- the put of key 0 with the value 7 opens, and then writes
abbrev pub put_opens : List Made
put_opens = with_bit (Open 0 deed.Fill) 0 ∷ []

abbrev pub put_whole : List Made
put_whole = put_opens ++ with_bit (Item 0 0 0) 0 ∷ with_bit (Item 0 1 7) 0 ∷ with_bit (Item 0 2 1) 0 ∷ with_bit (Slot first_slot 1) 0 ∷ with_bit Moment 0 ∷ with_bit Close 0 ∷ []

abbrev pub read : Access → ℕ → ℕ → Reading
read a word front = record { access = a; word = word; front = front }

-- The lookup of key 0 reads the odd version after the opening, so its first try is spoiled. It reads on when the put has closed, finds the
-- value, and marks the item
abbrev pub readings : ℕ → List Reading
readings front =
    read (access.Version 0) 1 1 ∷ read (access.Version 0) 2 7 ∷ read (access.Slot first_slot) 1 7 ∷ read (access.Key 0) 0 7 ∷ read (access.Value 0 1) 7 7 ∷ read (access.Stamp 0) 1 7 ∷
    read access.Moment 1 7 ∷ read (access.Version 0) 2 7 ∷ read (access.Mark 0) 0 front ∷ []

abbrev pub found : Reply 1
found = Found (7 ∷ []) 1 1

-- There is an execution of this. The lookup begins once the put has opened, when the map has no change, and ends after the put has closed. Its
-- reply has the moment of the put, and by the laws the map held it in a state between the lookup's first step and its last
pub record PutBesideGet : Type 0 where
  pub states : ℕ → TableState
  pub run : IsExecution (layout_with 1 Clock small) states
  pub i : ℕ
  pub j : ℕ
  pub in_order : i ≤ j
  pub opened : HasActs (states i) put_opens
  pub began : HasRecord 0 (states i) []
  pub closed : HasActs (states j) put_whole
  pub front : ℕ
  pub ended : HasRecord 0 (states j) (readings front)
  pub looked : IsLookup 1 small 0 2 (readings front) found
  pub empty : (state_of 1 small put_opens).history ≡ []
  pub put : length (state_of 1 small put_whole).history ≡ 1
  pub timed : LooksBetween 1 small states run i j 0 0 2 [] (readings front) found
