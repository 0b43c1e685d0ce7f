-- The version of the deed that runs.
use Rattle.std.specs.Prelude.{◌≡◌, ℕ, List, Option, Some, None}
use Rattle.mc_words.specs.Keys.{stripe_of}
use Rattle.mc_words.specs.Places.{version_place, version}
use Rattle.mc_words.specs.Shapes.{IsShape}
use Rattle.mc_words.specs.declared.shape.Shape.{Shape}
use Rattle.mc_theory.specs.Lists.{state_of}
use Rattle.mc_theory.specs.Phases.{deed_key}
use Rattle.mc_theory.specs.States.{State}
use Rattle.mc_shared.specs.Records.{WriterRecord}
use Rattle.mc_shared.specs.declared.running.Running.{Running}

-- where the version of the running deed's key is in the words, and its value. If no deed runs, it may be any
abbrev pub RunsAt : Shape → List ℕ → Option ℕ → Running → Type 0
RunsAt sh w None r = Unit {0}
RunsAt sh w (Some k) r = (r.place ≡ version_place (stripe_of sh k)) × (r.count ≡ version w (stripe_of sh k))

-- the version of the deed that runs in a state
abbrev pub RunsIn : {V : ℕ} → Shape → State V → Running → Type 0
RunsIn {V} sh s r = RunsAt sh s.words (deed_key s.phase) r

-- it is the version of the deed that the writer has opened and not closed
pub record IsRunning (V : ℕ) (writer : WriterRecord) (r : Running) : Type 0 where
  pub shape : IsShape writer.of.layout.shape
  pub runs : RunsIn writer.of.layout.shape (state_of V writer.of.layout.shape writer.acts) r
