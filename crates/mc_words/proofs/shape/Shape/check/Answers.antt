use Rattle.std.proofs.Common.{arith}
use Rattle.mc_words.proofs.shape.Shape.check.Goals as goal

pub invariant_of-result : goal.invariant_of-result
invariant_of-result c =
    record {
      sound = record {
        buckets = (omega arith, omega arith, c.is_power.ensures.0 c.if-not-is_power.false);
        items = (omega arith, omega arith);
        stripes = (omega arith, omega arith, c.is_power-else-self-3.ensures.0 c.if-not-is_power-2.false);
        depth = omega arith;
        tries = (omega arith, omega arith);
        limit = omega arith;
      };
    }
