-- What is always known of a writer that a caller has in hand: no call of it runs.
use Rattle.std.specs.Prelude.{ℕ, ◌≡◌, None}
use Rattle.mc_words.specs.Standing.{Agrees}
use Rattle.mc_theory.specs.Lists.{state_of}
use Rattle.mc_theory.specs.Phases.{Quiet}
use Rattle.mc_shared.specs.Records.{Opening, WriterRecord}

-- no deed runs, and the words agree with the history for every key
pub record IsAtRest (V : ℕ) (w : WriterRecord) : Type 0 where
  pub quiet : (state_of V w.of.layout.shape w.acts).phase ≡ Quiet
  pub agrees : Agrees V w.of.layout.shape (state_of V w.of.layout.shape w.acts).words None (state_of V w.of.layout.shape w.acts).history

-- the writer belongs to this table, and rests
abbrev pub IsFit : ℕ → Opening → WriterRecord → Type 0
IsFit V o w = (w.of ≡ o) × IsAtRest V w
