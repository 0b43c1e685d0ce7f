-- What a write leaves unchanged of where a key stands.
use Rattle.std.proofs.Common.{ℕ, ◌≡◌, ◌≢◌, ◌+◌, ◌*◌, ◌^◌, ◌<◌, ◌≤◌, List, length, Option, Some, None, sym, ◌∙◌, subst, arith}
use Rattle.mc_words.specs.Keys.{slot_word}
use Rattle.mc_words.specs.Places.{payload, slot, item, with_moment, with_version, with_slot, with_item}
use Rattle.mc_words.specs.Shapes.{IsShape}
use Rattle.mc_words.specs.Standing.{NamesItem, Stands, OnlyAt, AgreesAt, ItemBegins}
use Rattle.mc_words.specs.declared.shape.Shape.{Shape}
use Rattle.mc_words.proofs.Places.{slot-with_slot_other, slot-with_item, slot-with_version, slot-with_moment, item-with_slot, item-with_item_other, item-with_version, item-with_moment}

pub slot_word-parts : (t u i g : ℕ) → i < 2 ^ 32 → g < 2 ^ 32 → slot_word t i ≡ slot_word u g → (t ≡ u) × (i ≡ g)
unfolding slot_word
slot_word-parts t u i g a b e = (omega arith, omega arith)

pub slot_word-some : (t i : ℕ) → slot_word t i ≢ 0
unfolding slot_word
slot_word-some t i e = omega arith

-- a slot names one item
pub one_named : (sh : Shape) (w : List ℕ) (q i g : ℕ) → IsShape sh → NamesItem sh w q i → NamesItem sh w q g → i ≡ g
one_named sh w q i g s a b =
    let e : slot_word a.tag i ≡ slot_word b.tag g = sym a.word ∙ b.word in
    (slot_word-parts a.tag b.tag i g (omega arith) (omega arith) e).1

pub empty_names_none : (sh : Shape) (w : List ℕ) (q i : ℕ) → slot sh w q ≡ 0 → NamesItem sh w q i → ⊥
empty_names_none sh w q i e a = slot_word-some a.tag i (sym a.word ∙ e)

pub moved_names : (sh : Shape) (w x : List ℕ) (q i : ℕ) → slot sh x q ≡ slot sh w q → NamesItem sh w q i → NamesItem sh x q i
moved_names sh w x q i e a = record { tag = a.tag; in_table = a.in_table; in_items = a.in_items; is_tag = a.is_tag; word = e ∙ a.word }

-- in x the key stands where it does in w, with the same words
pub record SameFor (V : ℕ) (sh : Shape) (w x : List ℕ) (k : ℕ) : Type 0 where
  pub slots : (q i : ℕ) → Stands V sh w k q i → slot sh x q ≡ slot sh w q
  pub items : (q i : ℕ) → Stands V sh w k q i → (j : ℕ) → j ≤ payload V → item V sh x i j ≡ item V sh w i j
  pub back : (q i : ℕ) → Stands V sh x k q i → Stands V sh w k q i

pub stands_on : (V : ℕ) (sh : Shape) (w x : List ℕ) (k q i : ℕ) → SameFor V sh w x k → Stands V sh w k q i → Stands V sh x k q i
stands_on V sh w x k q i s a = record {
  names = moved_names sh w x q i (s.slots q i a) a.names;
  key = s.items q i a 0 (omega arith) ∙ a.key;
}

pub begins_on : (V : ℕ) (sh : Shape) (w x : List ℕ) (i : ℕ) (v : List ℕ) → ((j : ℕ) → j ≤ payload V → item V sh x i j ≡ item V sh w i j) → length v ≤ payload V → ItemBegins V sh w i v → ItemBegins V sh x i v
begins_on V sh w x i v same l b = λ j h. same (j + 1) (omega arith) ∙ b j h

pub only_on : (V : ℕ) (sh : Shape) (w x : List ℕ) (k q i : ℕ) → SameFor V sh w x k → OnlyAt V sh w k q i → OnlyAt V sh x k q i
only_on V sh w x k q i s a = record {
  stands = stands_on V sh w x k q i s a.stands;
  once = λ p g h. a.once p g (s.back p g h);
  tagged = s.slots q i a.stands ∙ a.tagged;
  placed = a.placed;
}

pub agrees_on : (V : ℕ) (sh : Shape) (w x : List ℕ) (k : ℕ) (o : Option (List ℕ)) → SameFor V sh w x k → AgreesAt V sh w k o → AgreesAt V sh x k o
agrees_on V sh w x k None s a = λ q i h. a q i (s.back q i h)
agrees_on V sh w x k (Some v) s a =
    (a.0, a.1, only_on V sh w x k a.0 a.1 s a.2, (a.3.0, begins_on V sh w x a.1 v (s.items a.0 a.1 a.2.stands) (omega (arith, a.3.0)) a.3.1))

-- a write of a version or of the moment
pub same_from_parts : (V : ℕ) (sh : Shape) (w x : List ℕ) (k : ℕ) → ((q : ℕ) → q < 4 * sh.buckets → slot sh x q ≡ slot sh w q) → ((i j : ℕ) → item V sh x i j ≡ item V sh w i j) → SameFor V sh w x k
same_from_parts V sh w x k s t = record {
  slots = λ q i a. s q a.names.in_table;
  items = λ q i a j l. t i j;
  back = λ q i a. record {
    names = moved_names sh x w q i (sym (s q a.names.in_table)) a.names;
    key = sym (t i 0) ∙ a.key;
  };
}

pub same-with_version : (V : ℕ) (sh : Shape) (w : List ℕ) (t v k : ℕ) → t < sh.stripes → SameFor V sh w (with_version w t v) k
same-with_version V sh w t v k l =
    same_from_parts V sh w (with_version w t v) k (λ q h. slot-with_version sh w t v q l) (λ i j. item-with_version V sh w t v i j l)

pub same-with_moment : (V : ℕ) (sh : Shape) (w : List ℕ) (v k : ℕ) → SameFor V sh w (with_moment w v) k
same-with_moment V sh w v k =
    same_from_parts V sh w (with_moment w v) k (λ q h. slot-with_moment sh w q v) (λ i j. item-with_moment V sh w v i j)

-- a write of an item at which the key stands neither before nor after
pub same-with_item : (V : ℕ) (sh : Shape) (w : List ℕ) (i j v k : ℕ) → j ≤ payload V → ((q : ℕ) → Stands V sh w k q i → ⊥) → ((q : ℕ) → Stands V sh (with_item V sh w i j v) k q i → ⊥) → SameFor V sh w (with_item V sh w i j v) k
same-with_item V sh w i j v k l out none =
    let other : (q g : ℕ) → Stands V sh w k q g → i ≢ g =
    λ q g a e. out q (subst (λ (y : ℕ). Stands V sh w k q y) (sym e) a) in
    let other_after : (q g : ℕ) → Stands V sh (with_item V sh w i j v) k q g → i ≢ g =
    λ q g a e. none q (subst (λ (y : ℕ). Stands V sh (with_item V sh w i j v) k q y) (sym e) a) in
    record {
      slots = λ q g a. slot-with_item V sh w i j v q a.names.in_table;
      items = λ q g a h m. item-with_item_other V sh w i j v g h (other q g a) l m;
      back = λ q g a. record {
        names = moved_names sh (with_item V sh w i j v) w q g (sym (slot-with_item V sh w i j v q a.names.in_table)) a.names;
        key = sym (item-with_item_other V sh w i j v g 0 (other_after q g a) l (omega arith)) ∙ a.key;
      };
    }

-- a write of a slot in which the key stands neither before nor after
pub same-with_slot : (V : ℕ) (sh : Shape) (w : List ℕ) (p v k : ℕ) → p < 4 * sh.buckets → ((i : ℕ) → Stands V sh w k p i → ⊥) → ((i : ℕ) → Stands V sh (with_slot sh w p v) k p i → ⊥) → SameFor V sh w (with_slot sh w p v) k
same-with_slot V sh w p v k l out none =
    let other : (q g : ℕ) → Stands V sh w k q g → q ≢ p =
    λ q g a e. out g (subst (λ (y : ℕ). Stands V sh w k y g) e a) in
    let other_after : (q g : ℕ) → Stands V sh (with_slot sh w p v) k q g → q ≢ p =
    λ q g a e. none g (subst (λ (y : ℕ). Stands V sh (with_slot sh w p v) k y g) e a) in
    record {
      slots = λ q g a. slot-with_slot_other sh w p v q (other q g a);
      items = λ q g a h m. item-with_slot V sh w p v g h l;
      back = λ q g a. record {
        names = moved_names sh (with_slot sh w p v) w q g (sym (slot-with_slot_other sh w p v q (other_after q g a))) a.names;
        key = sym (item-with_slot V sh w p v g 0 l) ∙ a.key;
      };
    }
