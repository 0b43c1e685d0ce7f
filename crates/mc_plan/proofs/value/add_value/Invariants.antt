use Rattle.std.proofs.Common.{◌≡◌, ◌+◌, ◌++◌, drop, length}
use Rattle.mc_plan.specs.Plans.{value_acts}
use Rattle.mc_plan.proofs.value.add_value.Given as goal

abbrev pub invariant-loop-j : goal.invariant-loop-j
invariant-loop-j l = record {
  many : length l.acts.items ≡ length l.initial.acts.items + l.j;
  left : l.acts.items ++ value_acts l.item (l.j + 1) (drop l.j l.value) ≡ l.initial.acts.items ++ value_acts l.item 1 l.value;
}
