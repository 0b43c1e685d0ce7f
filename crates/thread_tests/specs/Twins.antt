-- A world that makes the same acts as the writer of shared words.
use Rattle.std.specs.Prelude.{ℕ, ◌≡◌}
use Rattle.mc_core.specs.Seen.{WorldView, Shows}
use Rattle.mc_theory.specs.Traces as traces
use Rattle.mc_shared.specs.Records.{WriterRecord}

pub record IsTwinOf (V : ℕ) (shown : WorldView V) (writer : WriterRecord) : Type 0 where
  pub seen : traces.Trace V
  pub shows : Shows shown seen
  pub acts : seen.acts ≡ writer.acts
  pub shape : shown.shape ≡ writer.of.layout.shape
