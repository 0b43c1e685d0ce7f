use Rattle.std.proofs.Common.{◌∙◌}
use Rattle.mc_core.proofs.SlotKeys.{other_key}
use Rattle.mc_core.proofs.table.Table.stands.Goals as goal
use Rattle.mc_core.specs.Inside.Tables.{shape_of_table, words_of_table}
use Rattle.mc_words.specs.Places.{slot_number}

pub returns-else-item-key : goal.returns-else-item-key
returns-else-item-key g c = λ i st.
    let t = c.args.self.now in
    let under = rw c.slot.ensures at (c.in_ok-i.ensures {u = tt}) in
    other_key g.row.V (shape_of_table t) (words_of_table t) c.args.key (slot_number c.args.place) c.in_ok-i.field-0-0 c.in_ok-i.i i t.checked.sound under (λ e. c.if-item-key.false (c.item.ensures ∙ e)) st
