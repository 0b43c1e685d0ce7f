-- What a writer keeps beside its seat and its books.
use Rattle.std.specs.Prelude.{ℕ, ◌≡◌}
use Rattle.mc_words.specs.Places.{moment}
use Rattle.mc_theory.specs.Lists.{state_of}
use Rattle.mc_shared.specs.Records.{WriterRecord}

-- the moment that the writer keeps is that of the words after its acts
abbrev pub KeepsMoment : (V : ℕ) → WriterRecord → ℕ → Type 0
KeepsMoment V w at = at ≡ moment (state_of V w.of.layout.shape w.acts).words
