use Rattle.std.proofs.Common.{ℕ, ◌≡◌, ◌+◌, ◌*◌, Bool, subst, sym}
use Rattle.std.specs.Prelude.{slice_index, min, MatchBool}
use Rattle.mc_core.proofs.PackedBits.{HasFirst, bit_left, bit_added}
use Rattle.mc_core.proofs.recency.recency_word.Goals.{then-is_set, else-is_set}
use Rattle.mc_core.proofs.recency.recency_word.Goals as goal

pub loop-k-preserved : goal.loop-k-preserved
loop-k-preserved c =
    let f : ℕ → ℕ = λ j. min 1 (slice_index c.args.bits.now (64 * c.args.m + j)) in
    let k : ℕ = c.loop-k.k in
    let has : HasFirst f k c.loop-k.word = c.loop-k.invariant.has in
    let told : Bool → Type 0 = λ b. MatchBool b (f k ≡ 1) (f k ≡ 0) in
    elim c.if-is_set.branch [
      | then-is_set w ↦ record { has = subst (HasFirst f (k + 1)) (sym w.word-is) (bit_added f k c.loop-k.word c.loop-k-test.true (subst told w.if-is_set.true c.is_set.ensures) has) }
      | else-is_set w ↦ record { has = subst (HasFirst f (k + 1)) (sym w.word-is) (bit_left f k c.loop-k.word (subst told w.if-is_set.false c.is_set.ensures) has) }
    ]
