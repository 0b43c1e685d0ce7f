-- The hand's way round the items, in search of one whose bit is clear.
use Rattle.std.specs.Prelude.{ℕ, zero, suc, ◌≡◌, ◌≢◌, ◌+◌, ◌*◌, ◌%◌, ◌<◌, ◌≤◌, ◌⊎◌, ◌==◌, if◌then◌else◌, List, [], ◌∷◌, length, slice_index_or, Option, Some, None, IsSome}
use Rattle.mc_words.specs.declared.policy.Policy.{Policy}
use Rattle.mc_words.specs.declared.policy.Policy.TheVariants.{Clock, ScanResistant}
use Rattle.mc_theory.specs.Lists.{Made}
use Rattle.mc_theory.specs.declared.act.Act.TheVariants.{Hand}
use Rattle.mc_search.specs.declared.sweep.Sweep.{Sweep}

-- a reading of the hand: the item and its bit
pub record Swept : Type 0 where
  pub item : ℕ
  pub bit : ℕ

-- the acts of the hand that made these readings
abbrev pub hand_acts : List Swept → List Made
hand_acts [] = []
hand_acts (r ∷ rs) = record { act = Hand r.item; bit = r.bit } ∷ hand_acts rs

-- the items follow one another, round from the hand
abbrev pub GoesRound : ℕ → ℕ → List Swept → Type 0
GoesRound items hand rs = (n : ℕ) (d : Swept) → n < length rs → (slice_index_or rs n d).item ≡ (hand + n) % items

-- no bit but perhaps the last was clear
abbrev pub AreMarked : List Swept → Type 0
AreMarked rs = (n : ℕ) (d : Swept) → n + 1 < length rs → (slice_index_or rs n d).bit ≢ 0

-- the readings of a search, in whatever order: each is of an item, and they are at most twice as many as there are items
pub record IsSearch (items : ℕ) (rs : List Swept) : Type 0 where
  pub inside : (n : ℕ) (d : Swept) → n < length rs → (slice_index_or rs n d).item < items
  pub most : length rs ≤ 2 * items
  pub marked : AreMarked rs

-- the readings of a sweep, which is CLOCK's search: they go round from the hand on
pub record IsSweep (items hand : ℕ) (rs : List Swept) : Type 0 where
  pub searches : IsSearch items rs
  pub round : GoesRound items hand rs

-- the readings by which an item is chosen: with CLOCK those of a sweep, else those of any search
abbrev pub IsSearchBy : Policy → ℕ → ℕ → List Swept → Type 0
IsSearchBy Clock items hand rs = IsSweep items hand rs
IsSearchBy ScanResistant items hand rs = IsSearch items rs

-- the item whose bit was clear
abbrev pub victim_of : List Swept → Option ℕ
victim_of [] = None
victim_of (r ∷ rs) = if r.bit == 0 then Some r.item else victim_of rs

-- the sweep is over: it has a victim, or went round twice
abbrev pub IsOver : ℕ → List Swept → Type 0
IsOver items rs = IsSome (victim_of rs) ⊎ (length rs ≡ 2 * items)

-- the sweep began where the hand was, and these are its readings
pub record HasSwept (sweep : Sweep) (items hand : ℕ) (rs : List Swept) : Type 0 where
  pub sweeps : IsSweep items hand rs
  pub count : sweep.items ≡ items
  pub start : hand < items
  pub left : length rs + sweep.left ≡ 2 * items
  pub stands : sweep.hand ≡ (hand + length rs) % items
  pub found : sweep.victim ≡ victim_of rs

-- the item that is to be read next
abbrev pub next_from : Option ℕ → ℕ → ℕ → Option ℕ
next_from (Some i) left hand = None
next_from None zero hand = None
next_from None (suc left) hand = Some hand

unfoldable pub next_item : Sweep → Option ℕ
next_item sweep = next_from sweep.victim sweep.left sweep.hand
