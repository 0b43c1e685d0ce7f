use Rattle.std.proofs.Common.{◌*◌, ◌^◌, ◌<◌}
use Rattle.mc_words.proofs.shape.Shape.for_items.Given as goal

abbrev pub invariant-loop-power : goal.invariant-loop-power
invariant-loop-power l = 1 < l.power → 36 * 2 ^ l.power < 2 * (10 * l.items)
