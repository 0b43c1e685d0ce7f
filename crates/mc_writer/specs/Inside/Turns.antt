-- What the hand's readings leave of the seat, and what is then decided.
use Rattle.std.specs.Prelude.{◌≡◌, ℕ, ◌<◌, List, ◌++◌, Option, Some, None, Ok}
use Rattle.mc_words.specs.Checks.{policy_of, shape_of}
use Rattle.mc_words.specs.History.{key_count}
use Rattle.mc_words.specs.KeyParts.{HasParts}
use Rattle.mc_theory.specs.Lists.{AreAllowed}
use Rattle.mc_search.specs.Sweeps.{Swept, hand_acts, victim_of}
use Rattle.mc_search.specs.declared.pick.Pick.{Pick}
use Rattle.mc_search.specs.Items.{IsPicking}
use Rattle.mc_plan.specs.WholeCalls.{Call, IsSweepOf, PutCall, state_after_sweep}
use Rattle.mc_plan.specs.Books.{AreBooksOf, IsPlanned, IsSweeping}
use Rattle.mc_plan.specs.Evicting.{IsSearchIn, IsWholeSearch}
use Rattle.mc_plan.specs.Making.{IsQuiet}
use Rattle.mc_plan.specs.Decisions.{replacement_acts, storing_told}
use Rattle.mc_plan.specs.declared.answer.Answer.TheVariants as answer
use Rattle.mc_plan.specs.declared.books.Books.{Books}
use Rattle.mc_plan.specs.declared.decision.Replacement.{Replacement}
use Rattle.mc_plan.specs.declared.waiting.Waiting.{Waiting}
use Rattle.mc_shared.specs.Records.{NotesGrow}
use Rattle.mc_shared.specs.Views.{layout_of}
use Rattle.mc_writer.specs.Inside.Pens.{IsSamePen, state_at}
use Rattle.mc_writer.specs.declared.pen.Pen.{Pen}

-- since the pen was `before`, the hand has made these readings for the put that waits
pub record HasTurned (V : ℕ) (books : Books) (waiting : Waiting V) (call : Call) (before after : Pen V) : Type 0 where
  pub readings : List Swept
  pub same : IsSamePen V before after
  pub of : after.seat.now.of ≡ before.seat.now.of
  pub acts : after.seat.now.acts ≡ before.seat.now.acts ++ hand_acts readings
  pub notes : NotesGrow before.seat.now.notes after.seat.now.notes
  pub sweeping : IsSweeping V books waiting call (state_at V before) readings

-- since the pen was `before`, the choice has made these readings
pub record HasPicked (V : ℕ) (books : Books) (pick : Pick) (before after : Pen V) (readings : List Swept) : Type 0 where
  pub same : IsSamePen V before after
  pub of : after.seat.now.of ≡ before.seat.now.of
  pub acts : after.seat.now.acts ≡ before.seat.now.acts ++ hand_acts readings
  pub notes : NotesGrow before.seat.now.notes after.seat.now.notes
  pub shape : shape_of books.checked ≡ before.cells.now.layout.shape
  pub known : AreBooksOf V books (state_at V before)
  pub picking : IsPicking books.free pick readings

-- since the pen was `before`, the hand has made these readings, each of which was allowed
pub record HasRead (V : ℕ) (before after : Pen V) (readings : List Swept) : Type 0 where
  pub same : IsSamePen V before after
  pub of : after.seat.now.of ≡ before.seat.now.of
  pub acts : after.seat.now.acts ≡ before.seat.now.acts ++ hand_acts readings
  pub notes : NotesGrow before.seat.now.notes after.seat.now.notes
  pub may : AreAllowed before.cells.now.layout.shape (state_at V before) (hand_acts readings)

-- since the pen was `before`, the hand has turned for the put of this key, and it was decided which key gives way, and how the item is
-- taken
pub record IsChosen (V : ℕ) (books : Books) (k : ℕ) (v : List ℕ) (before after : Pen V) (taken : Replacement) : Type 0 where
  pub readings : List Swept
  pub layout : before.cells.now.layout ≡ layout_of V books.checked
  pub read : HasRead V before after readings
  pub in_items : taken.storing.item < (shape_of books.checked).items
  pub parts : HasParts (shape_of books.checked) taken.victim.key taken.victim.parts
  pub planned : IsPlanned V books (replacement_acts (policy_of books.checked) books.far.value.moves.items (shape_of books.checked) k v taken) (PutCall k v) (state_at V before) (state_after_sweep V (shape_of books.checked) (state_at V before) readings) (answer.Put (Ok (storing_told books.far.value.moves.items taken.storing (Some taken.victim.key))))
  pub sweeps : IsSweepOf V (shape_of books.checked) (policy_of books.checked) (state_at V before) readings (answer.Put (Ok (storing_told books.far.value.moves.items taken.storing (Some taken.victim.key))))

-- since the pen was `before`, the search for an item that gives way has made these readings, and the books are those of the table after them
pub record HasSearched (V : ℕ) (books : Books) (before after : Pen V) (readings : List Swept) : Type 0 where
  pub layout : before.cells.now.layout ≡ layout_of V books.checked
  pub began : IsQuiet V (shape_of books.checked) (state_at V before)
  pub read : HasRead V before after readings
  pub searches : IsSearchIn (shape_of books.checked) (state_at V before).words readings
  pub known : AreBooksOf V books (state_at V after)

-- the search is over: it has found this item, or was whole
pub record HasEndedSearch (V : ℕ) (books : Books) (before after : Pen V) (told : Option ℕ) : Type 0 where
  pub readings : List Swept
  pub searched : HasSearched V books before after readings
  pub found : told ≡ victim_of readings
  pub whole : told ≡ None → IsWholeSearch (policy_of books.checked) (key_count (state_at V before).history) (shape_of books.checked) (state_at V before).words readings
