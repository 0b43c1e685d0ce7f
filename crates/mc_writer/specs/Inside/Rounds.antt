-- How CLOCK's hand goes round in search of an entry that gives way, past items that are free.
use Rattle.std.specs.Prelude.{ℕ, ◌≡◌, ◌+◌, ◌*◌, ◌<◌, ◌≤◌, ◌++◌, Contains, List, Option, None, length}
use Rattle.mc_words.specs.Checks.{shape_of}
use Rattle.mc_words.specs.Standing.{NamesItem}
use Rattle.mc_search.specs.Sweeps.{Swept, victim_of}
use Rattle.mc_plan.specs.Evicting.{items_read}
use Rattle.mc_plan.specs.declared.books.Books.{Books}
use Rattle.mc_writer.specs.Inside.Pens.{state_at}
use Rattle.mc_writer.specs.Inside.Turns.{HasSearched}
use Rattle.mc_writer.specs.declared.pen.Pen.{Pen}

-- since the pen was `before`, the search has made these readings: no bit was clear, and it may make so many more
pub record CanRead (V : ℕ) (books : Books) (before now : Pen V) (rs : List Swept) (more : ℕ) : Type 0 where
  pub searched : HasSearched V books before now rs
  pub none : victim_of rs ≡ None
  pub room : length rs + more ≤ 2 * (shape_of books.checked).items

-- it went on through the items from this number up to that one, until a bit was clear, or else it read each that is in use. It may make so many more
pub record HasReadOn (V : ℕ) (books : Books) (before now : Pen V) (rs : List Swept) (from to more : ℕ) (told : Option ℕ) : Type 0 where
  pub readings : List Swept
  pub searched : HasSearched V books before now (rs ++ readings)
  pub found : told ≡ victim_of (rs ++ readings)
  pub room : length (rs ++ readings) + more ≤ 2 * (shape_of books.checked).items
  pub all : told ≡ None → (q i : ℕ) → from ≤ i → i < to → NamesItem (shape_of books.checked) (state_at V before).words q i → Contains (items_read readings) i
