use Rattle.std.proofs.Common.{◌+◌, ◌∙◌, arith, refl}
use Rattle.mc_plan.proofs.Deeds.Values.{value_step, values_done, are_words}
use Rattle.mc_plan.proofs.value.add_value.Goals as goal

pub loop-j-preserved : goal.loop-j-preserved
loop-j-preserved c =
    let before = c.loop-j.invariant in
    let below = c.loop-j-test.true in
    record {
      many = omega (arith, c.push.ensures.len, before.many);
      left = rw c.push.ensures.items (value_step c.loop-j.acts.items c.args.item c.loop-j.j _ c.args.value.now (omega arith) refl ∙ before.left);
    }

pub returns : goal.returns
returns c =
    let before = c.loop-j.invariant in
    record {
      items = values_done c.loop-j.acts.items _ c.args.item (c.loop-j.j + 1) c.loop-j.j c.args.value.now (omega arith) before.left;
      many = omega (arith, before.many);
      words = are_words c.args.value.now (λ i. omega (arith, c.type_inv.value i));
    }
