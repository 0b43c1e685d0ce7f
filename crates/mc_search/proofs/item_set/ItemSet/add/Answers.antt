use Rattle.std.proofs.Common.{ℕ, ◌/◌, ◌%◌, ◌<◌, ◌∙◌, inl, inr, length, set, length-set, arith, sym, subst}
use Rattle.std.proofs.lemmas.Bool.{cases_eq}
use Rattle.mc_search.proofs.ItemBits.{added_here, added_others, counted_le, counted_more, with_bit}
use Rattle.mc_search.proofs.item_set.ItemSet.add.Goals as goal

pub returns-clause-added : goal.returns-clause-added
returns-clause-added c =
    let s = c.args.self.now in
    added_here s.words.items c.args.item c.index_mut.result.now (omega (arith, c.requires.kept.size, c.requires.in_items))

pub returns-clause-others : goal.returns-clause-others
returns-clause-others c j ne =
    let s = c.args.self.now in
    added_others s.words.items c.args.item c.index_mut.result.now j c.index_mut.ensures.value ne (omega (arith, c.requires.kept.size, c.requires.in_items))

pub returns-clause-kept : goal.returns-clause-kept
returns-clause-kept c =
    let s = c.args.self.now in
    let ws = s.words.items in
    let w = c.index_mut.result.now in
    let found = c.index_mut.ensures.value in
    let i = c.args.item in
    let inside : i / 64 < length ws = omega (arith, c.requires.kept.size, c.requires.in_items) in
    let here = added_here ws i w inside in
    let more = counted_more ws (set ws (i / 64) (with_bit (i % 64) w)) s.items i c.requires.in_items (omega (arith, here, c.requires.absent)) (λ k ne. added_others ws i w k found ne inside) in
    record {
      size = length-set ws (i / 64) (with_bit (i % 64) w) ∙ c.requires.kept.size;
      few = c.requires.kept.few;
      within = λ k is. elim (cases_eq k i) [
        | inl e ↦ subst (λ (z : ℕ). z < s.items) (sym e) c.requires.in_items
        | inr ne ↦ c.requires.kept.within k (sym (added_others ws i w k found ne inside) ∙ is)
      ];
      count = omega (arith, more, c.requires.kept.count);
    }

pub overflow_add-self : goal.overflow_add-self
overflow_add-self c =
    let s = c.args.self.now in
    let most = counted_le s.words.items s.items in
    omega (arith, most, c.requires.kept.count, c.requires.kept.few)
