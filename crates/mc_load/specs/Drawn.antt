-- A worker's draws, between two words.
use Rattle.std.specs.Prelude.{ℕ, ◌≡◌}
use Rattle.mc_load.specs.Draws.{generator_after}
use Rattle.mc_load.specs.declared.asked.Load.{Load}
use Rattle.mc_load.specs.declared.draws.Draws.{Draws}

-- n words of a worker of this load were drawn
pub record HasDrawn (load : Load) (who n : ℕ) (d : Draws) : Type 0 where
  pub generator : d.generator ≡ generator_after load who n
  pub keys : d.keys ≡ load.keys
