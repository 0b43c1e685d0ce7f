-- The books know how many keys there are: as many as items are in use.
use Rattle.std.proofs.Common.{ℕ, ◌≡◌, ◌+◌, ◌<◌, Contains, true, eqb, inl, inr, length, arith}
use Rattle.std.specs.List.{list_any}
use Rattle.std.specs.Cmp.{nat_eq_equiv}
use Rattle.std.proofs.lemmas.Bool.{cases_lt, eqb-true}
use Rattle.std.proofs.lemmas.List.Elements.{All-contains}
use Rattle.std.proofs.lemmas.Map.Views.{Contains-from_any, list_any-from_Contains}
use Rattle.mc_words.proofs.Count.{AreUnused, keys_and_unused}
use Rattle.mc_words.specs.Checks.{shape_of}
use Rattle.mc_words.specs.History.{key_count}
use Rattle.mc_words.specs.Standing.{NamesItem}
use Rattle.mc_theory.specs.States.{State}
use Rattle.mc_search.specs.Free.{Fresh, Returned, returned_items}
use Rattle.mc_search.specs.Items.{IsFreeIn}
use Rattle.mc_plan.specs.Books.{AreBooksOf}
use Rattle.mc_plan.specs.declared.books.Books.{Books}
use Rattle.mc_plan.proofs.Deeds.QuietStates.{keys_quiet}

module _ (V : ℕ) (b : Books) (s : State V) (of : AreBooksOf V b s) where
  listed : (i : ℕ) → list_any (eqb i) (returned_items b.free.list) ≡ true → Contains (returned_items b.free.list) i
  listed i t = Contains-from_any (λ x y e. eqb-true x y e) i (returned_items b.free.list) t

  -- an item that was taken, and not given back, is not free
  taken : (i : ℕ) → i < b.free.list.fresh → (list_any (eqb i) (returned_items b.free.list) ≡ true → ⊥) → IsFreeIn b.free i → ⊥
  taken i l none (Fresh above below) = absurd (omega arith)
  taken i l none (Returned c) = none (list_any-from_Contains nat_eq_equiv i (returned_items b.free.list) c)

  named_below : (q i : ℕ) → NamesItem (shape_of b.checked) s.words q i → i < b.free.list.fresh
  named_below q i names = elim (cases_lt i b.free.list.fresh) [
    | inl below ↦ below
    | inr above ↦ absurd (of.free i (Fresh (omega arith) (omega (arith, of.items, names.in_items))) q names)
  ]

  unused : AreUnused (shape_of b.checked) s.words b.free.list.fresh (returned_items b.free.list)
  unused = record {
    distinct = of.kept.kept.distinct;
    below = λ i t. All-contains (λ j. j < b.free.list.fresh) (returned_items b.free.list) i of.kept.kept.below (listed i t);
    named = λ i l none. of.named i (omega (arith, of.kept.kept.within, of.items)) (taken i l none);
    used = λ q i names. (named_below q i names, λ t. of.free i (Returned (listed i t)) q names);
  }

  pub keys_in_use : (n : ℕ) → n + length (returned_items b.free.list) ≡ b.free.list.fresh → n ≡ key_count s.history
  keys_in_use n sum =
      let all = keys_and_unused V (shape_of b.checked) s.words s.history (keys_quiet V (shape_of b.checked) s of.quiet) b.free.list.fresh (returned_items b.free.list) unused in
      omega (arith, sum, all)
