use Rattle.std.proofs.Common.{arith}
use Rattle.std.specs.Int.{w64}
use Rattle.std.proofs.lemmas.Nat.Bits.{bit_at-trailing_zeros}
use Rattle.mc_search.proofs.item_set.lowest.Goals as goal

pub returns : goal.returns
returns c =
    let h = bit_at-trailing_zeros w64 c.args.word (omega (arith, c.if-word-eq0.false)) (omega (arith, c.ranges.word)) in
    (h.0, h.1)
