use Rattle.std.proofs.Common.{inl, inr, sym, ◌∙◌}
use Rattle.mc_core.proofs.SlotKeys.{match_none}
use Rattle.mc_core.proofs.table.Table.find.Goals as goal

pub returns : goal.returns
returns g c =
    let second = rw (c.first-first.ensures.bucket, c.tag.ensures) at c.alt.ensures.bucket in
    match_none c.find_in-2.result _ _ _ (λ none q i bucket st. elim bucket [
      | inl e ↦ c.in_default.ensures {u = tt} q i (e ∙ sym c.first-first.ensures.bucket) st
      | inr e ↦ none q i (e ∙ sym second) st
    ]) c.find_in-2.ensures
