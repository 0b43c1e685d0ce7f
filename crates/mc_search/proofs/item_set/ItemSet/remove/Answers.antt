use Rattle.std.proofs.Common.{◌/◌, ◌%◌, ◌<◌, ◌∙◌, inl, inr, length, set, length-set, arith, sym, ap}
use Rattle.std.proofs.lemmas.Bool.{cases_eq}
use Rattle.mc_search.proofs.ItemBits.{counted_more, counted_some, removed_here, removed_others, without_bit}
use Rattle.mc_search.specs.ItemSets.{bit_among}
use Rattle.mc_search.proofs.item_set.ItemSet.remove.Goals as goal

pub returns-clause-removed : goal.returns-clause-removed
returns-clause-removed c =
    let s = c.args.self.now in
    let l = c.requires.kept.within c.args.item c.requires.present in
    removed_here s.words.items c.args.item c.index_mut.result.now (omega (arith, c.requires.kept.size, l))

pub returns-clause-others : goal.returns-clause-others
returns-clause-others c j ne =
    let s = c.args.self.now in
    let l = c.requires.kept.within c.args.item c.requires.present in
    removed_others s.words.items c.args.item c.index_mut.result.now j c.index_mut.ensures.value ne (omega (arith, c.requires.kept.size, l))

pub returns-clause-kept : goal.returns-clause-kept
returns-clause-kept c =
    let s = c.args.self.now in
    let ws = s.words.items in
    let w = c.index_mut.result.now in
    let found = c.index_mut.ensures.value in
    let i = c.args.item in
    let l = c.requires.kept.within i c.requires.present in
    let inside : i / 64 < length ws = omega (arith, c.requires.kept.size, l) in
    let vs = set ws (i / 64) (without_bit (i % 64) w) in
    let here = removed_here ws i w inside in
    let less = counted_more vs ws s.items i l (omega (arith, here, c.requires.present)) (λ k ne. sym (removed_others ws i w k found ne inside)) in
    record {
      size = length-set ws (i / 64) (without_bit (i % 64) w) ∙ c.requires.kept.size;
      few = c.requires.kept.few;
      within = λ k is. elim (cases_eq k i) [
        | inl e ↦ absurd (omega (arith, here, sym (ap (bit_among vs) e) ∙ is))
        | inr ne ↦ c.requires.kept.within k (sym (removed_others ws i w k found ne inside) ∙ is)
      ];
      count = omega (arith, less, c.requires.kept.count);
    }

pub overflow_sub-self : goal.overflow_sub-self
overflow_sub-self c =
    let s = c.args.self.now in
    let some = counted_some s.words.items s.items c.args.item (c.requires.kept.within c.args.item c.requires.present) c.requires.present in
    omega (arith, some, c.requires.kept.count)
