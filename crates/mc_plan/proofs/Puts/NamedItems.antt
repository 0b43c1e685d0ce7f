-- Which items are free and which are named when one slot was written.
use Rattle.std.proofs.Common.{ℕ, ◌≡◌, ◌≢◌, ◌<◌, ◌∙◌, List, ap, sym, subst, inl, inr}
use Rattle.std.proofs.lemmas.Bool.{cases_eq}
use Rattle.mc_words.specs.declared.shape.Shape.{Shape}
use Rattle.mc_words.specs.Places.{slot}
use Rattle.mc_words.specs.Shapes.{IsShape}
use Rattle.mc_words.specs.Standing.{NamesItem, IsFree, HasFree}
use Rattle.mc_words.proofs.Frames.{moved_names, empty_names_none, one_named}
use Rattle.mc_search.specs.Kept.{SetsSlot, KeepsSlots}
use Rattle.mc_plan.specs.Puts.{TakesItem}

-- an empty slot that names an item now: that item is taken
pub slot_taken : (sh : Shape) (w x : List ℕ) (p i word : ℕ) → IsShape sh → slot sh w p ≡ 0 → SetsSlot sh w x p word → NamesItem sh x p i → TakesItem sh w x i
slot_taken sh w x p i word s empty set here = record {
  taken = (p, here);
  free = λ j ne free q n.
      elim (cases_eq q p) [
        | inl e ↦ ne (one_named sh x p j i s (subst (λ (o : ℕ). NamesItem sh x o j) e n) here)
        | inr apart ↦ free q (moved_names sh x w q j (sym (set.others q n.in_table apart)) n)
      ];
  named = λ q j n.
      elim (cases_eq q p) [
        | inl e ↦ absurd (empty_names_none sh w q j (ap (slot sh w) e ∙ empty) n)
        | inr apart ↦ (q, moved_names sh w x q j (set.others q n.in_table apart) n)
      ];
}

-- the item is free, and each other is free or named as it was
pub record GivesItem (sh : Shape) (w later : List ℕ) (i : ℕ) : Type 0 where
  pub freed : IsFree sh later i
  pub free : (j : ℕ) → IsFree sh w j → IsFree sh later j
  pub named : (q j : ℕ) → j ≢ i → NamesItem sh w q j → (p : ℕ) × NamesItem sh later p j

-- a slot that named an item and is empty now: that item is free
pub slot_given : (sh : Shape) (w x : List ℕ) (p i : ℕ) → IsShape sh → NamesItem sh w p i → SetsSlot sh w x p 0 → IsFree sh x i → GivesItem sh w x i
slot_given sh w x p i s was set freed = record {
  freed = freed;
  free = λ j free q n.
      elim (cases_eq q p) [
        | inl e ↦ empty_names_none sh x q j (ap (slot sh x) e ∙ set.here) n
        | inr apart ↦ free q (moved_names sh x w q j (sym (set.others q n.in_table apart)) n)
      ];
  named = λ q j ne n.
      elim (cases_eq q p) [
        | inl e ↦ absurd (ne (one_named sh w p j i s (subst (λ (o : ℕ). NamesItem sh w o j) e n) was))
        | inr apart ↦ (q, moved_names sh w x q j (set.others q n.in_table apart) n)
      ];
}

-- if no slot was written, the same items are free
pub kept_free : (sh : Shape) (w x : List ℕ) (j : ℕ) → KeepsSlots sh w x → IsFree sh w j → IsFree sh x j
kept_free sh w x j kept free q n = free q (moved_names sh x w q j (sym (kept q n.in_table)) n)

-- slots that stay name what they named
pub kept_named : (sh : Shape) (w x : List ℕ) (q j : ℕ) → KeepsSlots sh w x → NamesItem sh w q j → NamesItem sh x q j
kept_named sh w x q j kept n = moved_names sh w x q j (kept q n.in_table) n

-- if each item is named, none is free
pub full_has_none : (sh : Shape) (w : List ℕ) → ((i : ℕ) → i < sh.items → (q : ℕ) × NamesItem sh w q i) → HasFree sh w → ⊥
full_has_none sh w all free = let named = all free.0 free.1 in free.2 named.0 named.1
