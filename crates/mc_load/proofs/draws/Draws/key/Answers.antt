use Rattle.std.proofs.Common.{ℕ, ◌%◌, ◌∙◌, ap}
use Rattle.rand_pcg.specs.Lcg.{Lcg}
use Rattle.rand_pcg.specs.Pcg.{pcg32}
use Rattle.mc_load.specs.Draws.{drawn_word}
use Rattle.mc_load.proofs.Words.{generator_more, word_drawn}
use Rattle.mc_load.proofs.draws.Draws.key.Goals as goal

pub returns-clause-drawn : goal.returns-clause-drawn
returns-clause-drawn c load who n d = record { generator = ap (λ (p : ℕ × Lcg). p.1) c.next_word.ensures ∙ (ap (λ (s : Lcg). (pcg32 s).1) d.generator ∙ generator_more load who n); keys = d.keys }

pub returns-clause-key : goal.returns-clause-key
returns-clause-key c load who n d =
    let word = ap (λ (p : ℕ × Lcg). p.0) c.next_word.ensures ∙ (ap (λ (s : Lcg). (pcg32 s).0) d.generator ∙ word_drawn load who n) in
    ap (λ (x : ℕ). x % c.args.self.now.keys) (c.from.ensures ∙ word) ∙ ap (λ (k : ℕ). drawn_word load who n % k) d.keys
