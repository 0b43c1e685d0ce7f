-- The keys of one call: those that are drawn next, and their answers.
use Rattle.std.proofs.Common.{ℕ, zero, suc, ◌<◌, List, [], ◌∷◌, length, get_or, arith}
use Rattle.mc_words.specs.History.{IsTrueAnswer}
use Rattle.mc_words.specs.declared.history.Change.{Change}
use Rattle.mc_words.specs.declared.history.Reply.{Reply}
use Rattle.mc_reader.specs.Records.{AreTrueAnswers}

-- one of the answers
pub answer_is_true : {V : ℕ} (h : List (Change V)) (lo hi : ℕ) (ks : List ℕ) (rs : List (Reply V)) (n d : ℕ) (e : Reply V) → AreTrueAnswers h lo hi ks rs → n < length ks → IsTrueAnswer h (get_or ks n d) (get_or rs n e)
answer_is_true h lo hi [] [] n d e all low = absurd (omega (arith, low))
answer_is_true h lo hi (k ∷ ks) (r ∷ rs) zero d e all low = all.0
answer_is_true h lo hi (k ∷ ks) (r ∷ rs) (suc n) d e all low = answer_is_true h lo hi ks rs n d e all.2 (omega (arith, low))
answer_is_true h lo hi [] (r ∷ rs) n d e all low = absurd all
answer_is_true h lo hi (k ∷ ks) [] n d e all low = absurd all
