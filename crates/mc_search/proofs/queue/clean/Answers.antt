use Rattle.std.proofs.Common.{◌≡◌, ℕ, ◌+◌, ◌<◌, ◌≤◌, inl, inr, List, length, get_or, set, true, false, Bool, sym, ◌∙◌, ap, subst, arith, length-set, get_or-set_other, get_or-set_same}
use Rattle.std.proofs.lemmas.Bool.{cases_eq}
use Rattle.mc_search.specs.declared.queue.Entry.{Entry}
use Rattle.mc_search.specs.Inside.Search.{entry_at, bucket_at, IsQueue}
use Rattle.mc_search.proofs.queue.clean.Goals as goal

-- each bucket of the queue has a mark
in_table : (q r : List Entry) (seen : List Bool) → IsQueue q seen → r ≡ q → (i : ℕ) → i < length r → bucket_at r i < length seen
in_table q r seen k e i h = (subst (λ (v : List Entry). i < length v → bucket_at v i < length seen) (sym e) (k.in_table i)) h

-- one more mark is taken away
left_next : (q : List Entry) (s : List Bool) (i : ℕ) → bucket_at q i < length s → ((b : ℕ) → get_or s b false ≡ true → (k : ℕ) × (i ≤ k) × (k < length q) × (bucket_at q k ≡ b)) → (b : ℕ) → get_or (set s (bucket_at q i) false) b false ≡ true → (k : ℕ) × (i + 1 ≤ k) × (k < length q) × (bucket_at q k ≡ b)
left_next q s i h left b t = elim (cases_eq b (bucket_at q i)) [
  | inl e ↦
      let off : get_or (set s (bucket_at q i) false) (bucket_at q i) false ≡ false = get_or-set_same s (bucket_at q i) false false h in
      let on : get_or (set s (bucket_at q i) false) (bucket_at q i) false ≡ true = subst (λ (y : ℕ). get_or (set s (bucket_at q i) false) y false ≡ true) e t in
      absurd (cc)
  | inr d ↦
      let old = left b (sym (get_or-set_other s (bucket_at q i) b false false d) ∙ t) in
      let from = old.1 in
      elim (cases_eq old.0 i) [
        | inl e ↦ absurd (d (sym old.3 ∙ ap (bucket_at q) e))
        | inr e ↦ (old.0, omega (arith, e), old.2, old.3)
      ]
]

pub index_mut-requires : goal.index_mut-requires
unfolding entry_at
index_mut-requires c =
    let b = in_table c.args.queue.now.items c.deref-entry-items.result.now c.args.seen.now.items c.requires.queue c.deref-entry-items.ensures.value c.marks.entry-index c.marks-test.true in
    let n = c.marks.invariant.size in
    let is = c.marks.seen.ok.0 in
    omega arith

pub marks-preserved : goal.marks-preserved
unfolding entry_at
marks-preserved c =
    let b = in_table c.args.queue.now.items c.deref-entry-items.result.now c.args.seen.now.items c.requires.queue c.deref-entry-items.ensures.value c.marks.entry-index c.marks-test.true in
    let n = c.marks.invariant.size in
    let h : bucket_at c.deref-entry-items.result.now c.marks.entry-index < length c.marks.seen.items = omega arith in
    record {
      size = length-set c.marks.seen.items (bucket_at c.deref-entry-items.result.now c.marks.entry-index) false ∙ n;
      left = left_next c.deref-entry-items.result.now c.marks.seen.items c.marks.entry-index h c.marks.invariant.left;
    }
