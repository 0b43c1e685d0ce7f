-- What is always known of a seat.
use Rattle.std.specs.Prelude.{◌+◌, ◌≤◌, List}
use Rattle.mc_words.specs.Shapes.{IsShape}
use Rattle.mc_theory.specs.Lists.{Made}
use Rattle.mc_theory.specs.Phases.{close_owed}
use Rattle.mc_shared.specs.Views.{AreLawful, layout_state}
use Rattle.mc_shared.specs.declared.layout.Layout.{Layout}

-- what is always known of the writer's acts: they are lawful, and the running deed can be closed within the limit
pub record IsRun (l : Layout) (acts : List Made) : Type 0 where
  pub shape : IsShape l.shape
  pub lawful : AreLawful l acts
  pub within : (layout_state l acts).version_steps + close_owed (layout_state l acts).phase ≤ l.shape.limit
