-- The words that a world shows.
use Rattle.std.proofs.Common.{◌≡◌, ℕ, ◌<◌, length, arith, ap, ◌∙◌}
use Rattle.mc_words.specs.Places.{all_words, word_count}
use Rattle.mc_theory.proofs.Lists.Bounds.{state_length}
use Rattle.mc_core.specs.Seen.{WorldView, Shows}
use Rattle.mc_theory.specs.States.{State}
use Rattle.mc_theory.specs.Traces.{Trace}

-- the words of its table are those before the recency words
pub words_before : (V n : ℕ) (shown : WorldView V) (seen : Trace V) → Shows {V = V} shown seen → n < length shown.state.words → n < word_count V shown.shape
words_before V n shown seen shows lt =
    let size : length shown.state.words ≡ word_count V shown.shape = ap (λ (s : State V). length s.words) shows.state ∙ state_length V shown.shape seen.acts in
    omega (arith, size, lt)

-- and so are among all its words
pub among_all : (V n : ℕ) (shown : WorldView V) (seen : Trace V) → Shows {V = V} shown seen → n < length shown.state.words → n < all_words V shown.shape
among_all V n shown seen shows lt = omega (arith, words_before V n shown seen shows lt)
