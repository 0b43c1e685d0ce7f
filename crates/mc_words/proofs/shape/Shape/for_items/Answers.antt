use Rattle.std.proofs.Common.{ℕ, ◌≡◌, ◌^◌, ap, arith, refl}
use Rattle.mc_words.proofs.Sizes.{few_buckets, pow_next}
use Rattle.mc_words.proofs.shape.Shape.for_items.Goals as goal

pub loop-power-preserved : goal.loop-power-preserved
loop-power-preserved c = λ many.
    let next = pow_next c.loop-power.power in
    let few = few_buckets c.loop-power.power c.loop-power.auto.power (omega (arith, c.loop-power-test.true)) in
    omega (arith, next, few.1, c.if-from-power.false, c.from.ensures)

pub returns : goal.returns
returns c = (
  refl,
  λ can.
      let last : c.loop-power.power ≡ 21 = omega arith in
      let pow = ap (λ (p : ℕ). 2 ^ p) last in
      omega (arith, pow, can.1, c.loop-power.invariant (omega arith)),
)
