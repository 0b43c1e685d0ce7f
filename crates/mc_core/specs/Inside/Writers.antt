-- The writer of a world, as contracts see it.
use Rattle.std.specs.Prelude.{ℕ, ◌≡◌, ◌<◌, ◌/◌, Bool, true, false, List, take, get_or, [], ◌∷◌, ◌++◌, ◌+◌, ◌-◌, ◌≤◌, vec_len, vec_capacity}
use Rattle.mc_words.specs.Keys.{IsBucketOf}
use Rattle.mc_words.specs.Places.{slot_number}
use Rattle.mc_words.specs.Standing.{NamesItem, Stands, IsFree}
use Rattle.mc_words.specs.declared.shape.Shape.{Shape}
use Rattle.mc_theory.specs.Phases.{Phase, Quiet, Filling, Keyed, Placed, Renewing, Removing, Removed, Moving, Moved, Closing}
use Rattle.mc_theory.specs.Effects.{after_act}
use Rattle.mc_theory.specs.declared.act.Act.{Act}
use Rattle.mc_theory.specs.States.{State}
use Rattle.mc_core.specs.Inside.Tables.{shape_of_table, words_of_table}
use Rattle.mc_core.specs.declared.progress.Progress.{Progress}
use Rattle.mc_core.specs.declared.progress.Progress.TheVariants as progress
use Rattle.mc_core.specs.declared.table.Table.{Table}
use Rattle.mc_core.specs.declared.writer.Writer.{Writer}
use Rattle.mc_core.specs.declared.written.Written.{Written}

abbrev pub shape_of_writer : {V : ℕ} → Writer V → Shape
shape_of_writer w = shape_of_table w.table

abbrev pub words_of_writer : {V : ℕ} → Writer V → List ℕ
words_of_writer w = words_of_table w.table

-- as many words as an item keeps after its key: the value, and then the stamp
abbrev pub payload_in : {V : ℕ} → Written V → List ℕ
payload_in xs = xs.value ++ xs.stamp ∷ []

-- the phase, when these words were written
abbrev pub phase_at : {V : ℕ} → Written V → Progress → Phase
phase_at xs progress.Quiet = Quiet
phase_at xs (progress.Filling k) = Filling k
phase_at xs (progress.Keyed k i n) = Keyed k i (take n (payload_in xs))
phase_at xs (progress.Placed k i) = Placed k i (payload_in xs)
phase_at xs (progress.Renewing k n) = Renewing k (take n (payload_in xs))
phase_at xs (progress.Removing k e) = Removing k e
phase_at xs (progress.Removed k e) = Removed k e
phase_at xs (progress.Moving k) = Moving k
phase_at xs (progress.Moved k p) = Moved k (slot_number p)
phase_at xs (progress.Closing k) = Closing k

-- the state of the table and its writer
abbrev pub state_in : {V : ℕ} → Writer V → State V
state_in w = record {
  words = words_of_writer w;
  phase = phase_at w.written w.progress;
  hand = w.hand;
  cleared = w.cleared;
  history = w.history.items;
  version_steps = w.version_steps;
}

-- how many of these flags are down
abbrev pub downs : List Bool → ℕ
downs [] = 0
downs (true ∷ bs) = downs bs
downs (false ∷ bs) = downs bs + 1

-- a flag says of each item whether a slot names it, and the number of free items is that of the flags that are down
pub record UsedIn (sh : Shape) (w : List ℕ) (flags : List Bool) (free : ℕ) : Type 0 where
  pub used : (i : ℕ) → i < sh.items → get_or flags i false ≡ true → (q : ℕ) × NamesItem sh w q i
  pub unused : (i : ℕ) → i < sh.items → get_or flags i false ≡ false → IsFree sh w i
  pub many : downs flags ≡ free

abbrev pub UsedWell : {V : ℕ} → Table V → Type 0
UsedWell t = UsedIn (shape_of_table t) (words_of_table t) t.used.items t.free

-- the key stands in one slot at most, at one item, and wherever it stands is in one of its buckets
pub record StandsWell (V : ℕ) (sh : Shape) (w : List ℕ) (k : ℕ) : Type 0 where
  pub placed : (q i : ℕ) → Stands V sh w k q i → IsBucketOf sh k (q / 4)
  pub once : (q i p g : ℕ) → Stands V sh w k q i → Stands V sh w k p g → (q ≡ p) × (i ≡ g)

abbrev pub IsFreeItem : Shape → List ℕ → ℕ → Type 0
IsFreeItem sh w i = (i < sh.items) × IsFree sh w i

-- how many changes the history has room for
abbrev pub room_of : {V : ℕ} → Writer V → ℕ
room_of w = vec_capacity w.history - vec_len w.history

-- the act was made: the state is the one after it, and the flags are right; it took room for one change at most
pub record IsMade {V : ℕ} (old new : Writer V) (a : Act) (bit : ℕ) : Type 0 where
  pub shape : new.table.checked ≡ old.table.checked
  pub state : state_in new ≡ after_act (shape_of_writer old) (state_in old) a bit
  pub used : UsedWell new.table
  pub room : room_of old ≤ room_of new + 1

-- nothing was made
pub record KeepsWriter {V : ℕ} (old new : Writer V) : Type 0 where
  pub table : new.table ≡ old.table
  pub progress : new.progress ≡ old.progress
  pub written : new.written ≡ old.written
  pub state : state_in new ≡ state_in old
