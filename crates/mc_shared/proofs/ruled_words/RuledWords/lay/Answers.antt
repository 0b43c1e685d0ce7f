use Rattle.std.proofs.Common.{◌≡◌, ℕ, rules, ap, ◌∙◌}
use Rattle.std.specs.Prelude.{replicate}
use Rattle.mc_shared.proofs.EachStep.{begins}
use Rattle.mc_shared.proofs.ruled_words.RuledWords.lay.Goals as goal

pub of_words-requires : goal.of_words-requires
of_words-requires c =
    let e : c.as_slice.result.now ≡ replicate c.args.words 0 = search rules in
    begins c.args.layout c.as_slice.result.now (e ∙ ap (λ (n : ℕ). replicate n 0) c.requires.words)
