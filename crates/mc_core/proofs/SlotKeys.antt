-- What the word of one slot says of the keys that stand there.
use Rattle.std.specs.Option.{MatchOption}
use Rattle.std.proofs.Common.{Option, Some, None, ℕ, ◌≡◌, ◌≢◌, List, sym, ◌∙◌, ap, arith}
use Rattle.mc_words.proofs.Frames.{slot_word-parts}
use Rattle.mc_words.specs.Keys.{NamesUnder}
use Rattle.mc_words.specs.Places.{slot, item}
use Rattle.mc_words.specs.Shapes.{IsShape}
use Rattle.mc_words.specs.Standing.{NamesItem, Stands}
use Rattle.mc_words.specs.declared.shape.Shape.{Shape}

-- the item that the word of a slot names is the one that the slot names
pub named_item : (sh : Shape) (w : List ℕ) (q tag i g : ℕ) → IsShape sh → NamesUnder sh (slot sh w q) tag i → NamesItem sh w q g → g ≡ i
named_item sh w q tag i g s under names =
    (slot_word-parts names.tag tag g i (omega (arith, names.in_items, s.items.1, s.buckets.1)) (omega (arith, under.1, s.items.1, s.buckets.1)) (sym names.word ∙ under.2)).1

-- another key is at the item that the slot names
pub other_key : (V : ℕ) (sh : Shape) (w : List ℕ) (k q tag i g : ℕ) → IsShape sh → NamesUnder sh (slot sh w q) tag i → item V sh w i 0 ≢ k → Stands V sh w k q g → ⊥
other_key V sh w k q tag i g s under ne st = ne (ap (λ y. item V sh w y 0) (sym (named_item sh w q tag i g s under st.names)) ∙ st.key)

-- if an option is none, a weaker fact
pub match_none : {A : Type 0} (o : Option A) (P Q : Type 0) (R : A → Type 0) → (P → Q) → MatchOption o P R → MatchOption o Q R
match_none None P Q R f m = f m
match_none (Some x) P Q R f m = m
