-- How many answers are wrong.
use Rattle.std.specs.Prelude.{ℕ, ◌≡◌, ◌+◌, ◌⊎◌, List, [], ◌∷◌}
use Rattle.mc_words.specs.History.{IsTrueAnswer}
use Rattle.mc_words.specs.declared.history.Change.{Change}
use Rattle.mc_check.specs.declared.record.Record.{Record}

-- n of the records are wrong: their answers aren't true of the history
abbrev pub AreWrong : {V : ℕ} → List (Change V) → List (Record V) → ℕ → Type 0
AreWrong h [] n = n ≡ 0
AreWrong h (r ∷ rs) n =
    (IsTrueAnswer h r.key r.reply × AreWrong h rs n)
    ⊎ ((IsTrueAnswer h r.key r.reply → ⊥) × ((m : ℕ) × (n ≡ m + 1) × AreWrong h rs m))
