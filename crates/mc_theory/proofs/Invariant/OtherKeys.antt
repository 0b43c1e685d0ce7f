-- An act of a deed on one key changes nothing for another key.
use Rattle.std.proofs.Common.{ℕ, ◌≡◌, ◌≢◌, ◌+◌, ◌*◌, ◌<◌, ◌≤◌, true, false, List, length, Option, Some, refl, sym, ◌∙◌, ap, subst, arith}
use Rattle.mc_theory.specs.Acts.{MayFrom}
use Rattle.mc_theory.specs.Effects.{history_after, words_after}
use Rattle.mc_theory.specs.Inner.{DeedFacts}
use Rattle.mc_theory.specs.Phases.{Closing, Filling, Keyed, Moved, Moving, Phase, Placed, Quiet, Removed, Removing, Renewing, deed_key}
use Rattle.mc_words.proofs.Frames.{SameFor, empty_names_none, moved_names, one_named, same-with_item, same-with_moment, same-with_slot, same-with_version, slot_word-parts}
use Rattle.mc_words.proofs.Keys.{stripe_of-lt}
use Rattle.mc_words.proofs.Maps.{held-other}
use Rattle.mc_words.proofs.Places.{item-with_item_word, item-with_slot, slot-with_item, slot-with_slot_same}
use Rattle.mc_words.specs.History.{map_value, value_of}
use Rattle.mc_words.specs.Keys.{slot_word}
use Rattle.mc_words.specs.Places.{item, slot_number, with_item, with_slot, word_count}
use Rattle.mc_words.specs.Shapes.{IsShape}
use Rattle.mc_words.specs.Standing.{IsFree, NamesItem, Stands}
use Rattle.mc_theory.specs.declared.act.Act.{Act}
use Rattle.mc_words.specs.declared.history.Change.{Change}
use Rattle.mc_words.specs.declared.shape.Shape.{Shape}
use Rattle.mc_theory.specs.declared.act.Act.TheVariants.{Open, Slot, Item, Moment, Close, Hand, Mark}
use Rattle.mc_words.specs.declared.history.Change.TheVariants.{Put, Remove, Evict}

-- words that stay are the same for each key
pub same_refl : (V : ℕ) (sh : Shape) (w : List ℕ) (k : ℕ) → SameFor V sh w w k
same_refl V sh w k = record {
  slots = λ q i a. refl;
  items = λ q i a j l. refl;
  back = λ q i a. a;
}

-- a slot names what it named before a word of an item was written
pub names_back-with_item : (V : ℕ) (sh : Shape) (w : List ℕ) (i j x q g : ℕ) → NamesItem sh (with_item V sh w i j x) q g → NamesItem sh w q g
names_back-with_item V sh w i j x q g a = moved_names sh (with_item V sh w i j x) w q g (sym (slot-with_item V sh w i j x q a.in_table)) a

-- the place of a slot is within the words
pub slot_in : (V : ℕ) (sh : Shape) (w : List ℕ) (q : ℕ) → word_count V sh ≤ length w → q < 4 * sh.buckets → 1 + sh.stripes + q < length w
slot_in V sh w q size l = omega arith

-- a key that stands in a slot that was just written is that of the item that the word names
pub written_stands : (V : ℕ) (sh : Shape) (w : List ℕ) (q x k t i g : ℕ) → IsShape sh → word_count V sh ≤ length w → q < 4 * sh.buckets → x ≡ slot_word t i → i < sh.items → Stands V sh (with_slot sh w q x) k q g → (g ≡ i) × (item V sh w i 0 ≡ k)
written_stands V sh w q x k t i g s size l e below a =
    let word : slot_word a.names.tag g ≡ slot_word t i = sym a.names.word ∙ slot-with_slot_same sh w q x (slot_in V sh w q size l) ∙ e in
    let same : g ≡ i = (slot_word-parts a.names.tag t g i (omega arith) (omega arith) word).1 in
    (same, ap (λ y. item V sh w y 0) (sym same) ∙ sym (item-with_slot V sh w q x g 0 l) ∙ a.key)

-- no key stands in a slot that was just cleared
pub cleared_stands : (V : ℕ) (sh : Shape) (w : List ℕ) (q x k g : ℕ) → word_count V sh ≤ length w → q < 4 * sh.buckets → x ≡ 0 → Stands V sh (with_slot sh w q x) k q g → ⊥
cleared_stands V sh w q x k g size l e a = empty_names_none sh (with_slot sh w q x) q g (slot-with_slot_same sh w q x (slot_in V sh w q size l) ∙ e) a.names

-- two keys do not stand in one slot
pub one_stands : (V : ℕ) (sh : Shape) (w : List ℕ) (q k f i g : ℕ) → IsShape sh → Stands V sh w k q i → Stands V sh w f q g → k ≡ f
one_stands V sh w q k f i g s a b = sym a.key ∙ ap (λ y. item V sh w y 0) (one_named sh w q i g s a.names b.names) ∙ b.key

-- no act changes where a key stands that is not its deed's
pub step_same : (V : ℕ) (sh : Shape) (w : List ℕ) (hand : ℕ) (cleared : Option ℕ) (h : List (Change V)) (k : ℕ) (p : Phase) (a : Act) → IsShape sh → word_count V sh ≤ length w → DeedFacts V sh w h p → MayFrom V sh w hand cleared p a → deed_key p ≢ Some k → SameFor V sh w (words_after V sh w p a) k
step_same V sh w hand cleared h k Quiet (Open f u) s size d may ne = same-with_version V sh w _ _ k (stripe_of-lt sh f s)
step_same V sh w hand cleared h k Quiet (Hand i) s size d may ne = same_refl V sh w k
step_same V sh w hand cleared h k Quiet (Mark i) s size d may ne = same_refl V sh w k
step_same V sh w hand cleared h k (Filling f) (Item i j x) s size d may ne =
    same-with_item V sh w i j x k (omega (arith, may.2)) (λ q a. may.1 q a.names) (λ q a. may.1 q (names_back-with_item V sh w i j x q i a.names))
step_same V sh w hand cleared h k (Keyed f i xs) (Item g j x) s size d may ne =
    let free : IsFree sh w g = subst (λ (y : ℕ). IsFree sh w y) (sym may.0) d.0.free in
    same-with_item V sh w g j x k may.2 (λ q a. free q a.names) (λ q a. free q (names_back-with_item V sh w g j x q g a.names))
step_same V sh w hand cleared h k (Keyed f i xs) (Slot p x) s size d may ne =
    same-with_slot V sh w (slot_number p) x k may.1.0
    (λ g a. empty_names_none sh w (slot_number p) g may.1.1 a.names)
    (λ g a. ne (ap Some (sym d.0.key ∙ (written_stands V sh w (slot_number p) x k _ i g s size may.1.0 may.4 d.0.in_items a).1)))
step_same V sh w hand cleared h k (Placed f i xs) Moment s size d may ne = same-with_moment V sh w _ k
step_same V sh w hand cleared h k (Renewing f xs) (Item i j x) s size d may ne =
    same-with_item V sh w i j x k may.1
    (λ q a. ne (ap Some (sym may.3.1.key ∙ a.key)))
    (λ q a. ne (ap Some (sym may.3.1.key ∙ sym (item-with_item_word V sh w i j x 0 (omega (arith, may.0))) ∙ a.key)))
step_same V sh w hand cleared h k (Renewing f xs) Moment s size d may ne = same-with_moment V sh w _ k
step_same V sh w hand cleared h k (Removing f e) (Slot p x) s size d may ne =
    same-with_slot V sh w (slot_number p) x k may.2.1.names.in_table
    (λ g a. ne (ap Some (one_stands V sh w (slot_number p) f k may.2.0 g s may.2.1 a)))
    (λ g a. cleared_stands V sh w (slot_number p) x k g size may.2.1.names.in_table may.1 a)
step_same V sh w hand cleared h k (Removed f e) Moment s size d may ne = same-with_moment V sh w _ k
step_same V sh w hand cleared h k (Moving f) (Slot p x) s size d may ne =
    let there : Stands V sh w f may.2.0 may.2.1 = may.2.2 in
    same-with_slot V sh w (slot_number p) x k may.1.0
    (λ g a. empty_names_none sh w (slot_number p) g may.1.1 a.names)
    (λ g a. ne (ap Some (sym there.key ∙ (written_stands V sh w (slot_number p) x k _ may.2.1 g s size may.1.0 (may.2.4 ∙ there.names.word) there.names.in_items a).1)))
step_same V sh w hand cleared h k (Moved f fresh) (Slot p x) s size d may ne =
    same-with_slot V sh w (slot_number p) x k may.3.1.names.in_table
    (λ g a. ne (ap Some (one_stands V sh w (slot_number p) f k may.3.0 g s may.3.1 a)))
    (λ g a. cleared_stands V sh w (slot_number p) x k g size may.3.1.names.in_table may.1 a)
step_same V sh w hand cleared h k (Closing f) Close s size d may ne = same-with_version V sh w _ _ k (stripe_of-lt sh f s)
step_same V sh w hand cleared h k _ _ s size d may ne = absurd may

-- nor what the history holds of it
pub step_held : (V : ℕ) (sh : Shape) (w : List ℕ) (hand : ℕ) (cleared : Option ℕ) (h : List (Change V)) (k : ℕ) (p : Phase) (a : Act) → MayFrom V sh w hand cleared p a → deed_key p ≢ Some k → map_value (history_after h p a) k ≡ map_value h k
step_held V sh w hand cleared h k (Placed f i xs) Moment may ne = held-other h (Put f (value_of V xs)) k (λ e. ne (ap Some (sym e)))
step_held V sh w hand cleared h k (Renewing f xs) Moment may ne = held-other h (Put f (value_of V xs)) k (λ e. ne (ap Some (sym e)))
step_held V sh w hand cleared h k (Removed f true) Moment may ne = held-other h (Evict f) k (λ e. ne (ap Some (sym e)))
step_held V sh w hand cleared h k (Removed f false) Moment may ne = held-other h (Remove f) k (λ e. ne (ap Some (sym e)))
step_held V sh w hand cleared h k Quiet Moment may ne = absurd may
step_held V sh w hand cleared h k (Filling f) Moment may ne = absurd may
step_held V sh w hand cleared h k (Keyed f i xs) Moment may ne = absurd may
step_held V sh w hand cleared h k (Removing f e) Moment may ne = absurd may
step_held V sh w hand cleared h k (Moving f) Moment may ne = absurd may
step_held V sh w hand cleared h k (Moved f i) Moment may ne = absurd may
step_held V sh w hand cleared h k (Closing f) Moment may ne = absurd may
step_held V sh w hand cleared h k p (Open f d) may ne = refl
step_held V sh w hand cleared h k p (Slot q x) may ne = refl
step_held V sh w hand cleared h k p (Item i j x) may ne = refl
step_held V sh w hand cleared h k p Close may ne = refl
step_held V sh w hand cleared h k p (Hand i) may ne = refl
step_held V sh w hand cleared h k p (Mark i) may ne = refl
