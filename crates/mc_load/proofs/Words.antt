-- The words that a generator gives, one after the other.
use Rattle.std.proofs.Common.{ℕ, zero, suc, ◌≡◌, ◌+◌, add-one, ap, refl, sym, ◌∙◌}
use Rattle.rand_pcg.specs.Lcg.{Lcg, advance, increment_of, next, next_state, started, state_after}
use Rattle.rand_pcg.specs.Pcg.{multiplier_64, pcg32}
use Rattle.mc_load.specs.Draws.{drawn_word, generator_after}
use Rattle.mc_load.specs.declared.asked.Load.{Load}

-- a step after n steps is n + 1 of them
state_more : (w m i n s : ℕ) → next_state w m i (state_after w m i n s) ≡ state_after w m i (suc n) s
unfolding state_after
state_more w m i zero s = refl
state_more w m i (suc n) s = state_more w m i n (next_state w m i s)

next_more : (w m n : ℕ) (g : Lcg) → next w m (advance w m n g) ≡ advance w m (n + 1) g
next_more w m n g = ap (λ (s : ℕ). let r : Lcg = record g { state = s } in r) (state_more w m g.increment n g.state ∙ ap (λ (k : ℕ). state_after w m g.increment k g.state) (sym (add-one n)))

-- a new generator has given no word
pub generator_new : (load : Load) (who : ℕ) → started 64 multiplier_64 load.seed (increment_of 64 who) ≡ generator_after load who 0
unfolding generator_after state_after
generator_new load who = refl

-- a word more
pub generator_more : (load : Load) (who n : ℕ) → (pcg32 (generator_after load who n)).1 ≡ generator_after load who (n + 1)
unfolding generator_after
generator_more load who n = next_more 64 multiplier_64 n (started 64 multiplier_64 load.seed (increment_of 64 who))

-- and which it is
pub word_drawn : (load : Load) (who n : ℕ) → (pcg32 (generator_after load who n)).0 ≡ drawn_word load who n
unfolding drawn_word
word_drawn load who n = refl
