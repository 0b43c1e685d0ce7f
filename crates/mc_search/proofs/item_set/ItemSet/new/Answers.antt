use Rattle.std.proofs.Common.{ℕ, ◌≡◌, ◌+◌, ◌/◌, ◌∙◌, List, length, replicate, ap, sym, subst, arith, rules}
use Rattle.std.proofs.lemmas.List.{length-replicate}
use Rattle.mc_search.specs.ItemSets.{bit_among}
use Rattle.mc_search.proofs.ItemBits.{counted_none, none_yet}
use Rattle.mc_search.proofs.item_set.ItemSet.new.Goals as goal

-- new words have no item
none : (n : ℕ) (ws : List ℕ) → ws ≡ replicate n 0 → (i : ℕ) → bit_among ws i ≡ 0
none n ws is i = subst (λ (vs : List ℕ). bit_among vs i ≡ 0) (sym is) (none_yet n i)

pub returns-clause-kept : goal.returns-clause-kept
returns-clause-kept c =
    let n = c.args.items / 64 + 1 in
    let ws = c.in_ok-words.words.items in
    let is : ws ≡ replicate n 0 = search rules in
    record {
      size = ap length is ∙ length-replicate {A = ℕ} n 0;
      few = c.requires;
      within = λ i set. absurd (omega (arith, none n ws is i, set));
      count = sym (counted_none ws c.args.items (none n ws is));
    }

pub returns-clause-empty : goal.returns-clause-empty
returns-clause-empty c i =
    let n = c.args.items / 64 + 1 in
    let is : c.in_ok-words.words.items ≡ replicate n 0 = search rules in
    none n c.in_ok-words.words.items is i
