-- What is always known of the words and of a seat, and when an act may be made.
use Rattle.std.specs.Prelude.{◌≡◌, ◌+◌, ◌^◌, ◌≤◌, List, [], ◌∷◌, length}
use Rattle.atomic_table.specs.Seated.{TableId}
use Rattle.mc_words.specs.Places.{all_words, IsWidth}
use Rattle.mc_words.specs.Shapes.{IsShape}
use Rattle.mc_theory.specs.Acts.{IsAllowed}
use Rattle.mc_theory.specs.Lists.{Made}
use Rattle.mc_theory.specs.Phases.{close_owed}
use Rattle.mc_theory.specs.declared.act.Act.{Act}
use Rattle.mc_shared.specs.Records.{Opening}
use Rattle.mc_shared.specs.Steps.{SeatView}
use Rattle.mc_shared.specs.TableRule.{IsRecord}
use Rattle.mc_shared.specs.Views.{View, writer_view, reader_view, spent_view, acts_of, tally_of, number_of, front_of, done_of, AreLawful, layout_state}
use Rattle.mc_shared.specs.declared.layout.Layout.{Layout}

abbrev pub opening_of : TableId → Layout → Opening
opening_of t l = record { table = t; layout = l }

-- the table has the words of this layout, and no slots
pub record IsLaid (t : TableId) (l : Layout) : Type 0 where
  pub words : t.words ≡ all_words l.width l.shape
  pub slots : t.slots ≡ 0
  pub shape : IsShape l.shape
  pub width : IsWidth l.width

-- the one view of a badge
abbrev pub view_of : List View → View
view_of [] = spent_view
view_of (v ∷ vs) = v

-- the writer's seat: its acts are lawful and within the limit, and there is a note beside each
pub record IsWriter (me : SeatView) : Type 0 where
  pub seat : me ≡ (writer_view me.0.layout (acts_of me.0) (tally_of me.0), [])
  pub shape : IsShape me.0.layout.shape
  pub lawful : AreLawful me.0.layout (acts_of me.0)
  pub paired : length (tally_of me.0).notes ≡ length (acts_of me.0)
  pub within : (layout_state me.0.layout (acts_of me.0)).version_steps + close_owed (layout_state me.0.layout (acts_of me.0)).phase ≤ me.0.layout.shape.limit

-- a reader's badge: its front is lawful, and its record is one of that front
pub record IsReader (views : List View) : Type 0 where
  pub seat : views ≡ reader_view (view_of views).layout (number_of (view_of views)) (front_of (view_of views)) (done_of (view_of views)) ∷ []
  pub lawful : AreLawful (view_of views).layout (front_of (view_of views))
  pub recorded : IsRecord (view_of views).layout (front_of (view_of views)) (done_of (view_of views))

-- the act may be made after these, and the versions are still far from 2^64
pub record MayMake (l : Layout) (acts : List Made) (a : Act) : Type 0 where
  pub shape : IsShape l.shape
  pub lawful : AreLawful l acts
  pub allowed : IsAllowed l.shape (layout_state l acts) a
  pub few : (layout_state l acts).version_steps ≤ 2 ^ 62
