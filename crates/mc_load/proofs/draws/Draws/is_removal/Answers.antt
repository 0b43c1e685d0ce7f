use Rattle.std.proofs.Common.{rules, ℕ, ◌≡◌, ◌∙◌, ap}
use Rattle.rand_pcg.specs.Lcg.{Lcg}
use Rattle.rand_pcg.specs.Pcg.{pcg32}
use Rattle.mc_load.specs.Draws.{drawn_word}
use Rattle.mc_load.proofs.Words.{generator_more, word_drawn}
use Rattle.mc_load.proofs.draws.Draws.is_removal.Goals as goal

pub returns-clause-drawn : goal.returns-clause-drawn
returns-clause-drawn c load who n d = record { generator = ap (λ (p : ℕ × Lcg). p.1) c.next_word.ensures ∙ (ap (λ (s : Lcg). (pcg32 s).1) d.generator ∙ generator_more load who n); keys = d.keys }

pub returns-clause-removal : goal.returns-clause-removal
returns-clause-removal c load who n d =
    let word : c.next_word.result ≡ drawn_word load who n = ap (λ (p : ℕ × Lcg). p.0) c.next_word.ensures ∙ (ap (λ (s : Lcg). (pcg32 s).0) d.generator ∙ word_drawn load who n) in rw word (search rules)
