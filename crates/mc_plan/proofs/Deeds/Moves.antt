-- A move is allowed act by act: its key stands in the new slot, and in no other.
use Rattle.std.proofs.Common.{ℕ, ◌≡◌, ◌≢◌, ◌+◌, ◌*◌, ◌/◌, ◌^◌, ◌<◌, ◌≤◌, ◌∙◌, List, [], Option, None, ap, refl, sym, subst, length, arith, append-nil}
use Rattle.mc_words.specs.declared.history.Change.{Change}
use Rattle.mc_words.specs.declared.place.Place.{Place}
use Rattle.mc_words.specs.declared.shape.Shape.{Shape}
use Rattle.mc_words.specs.Keys.{tag_of, alternate}
use Rattle.mc_words.specs.Places.{slot_number, slot, item, word_count, with_slot}
use Rattle.mc_words.specs.Shapes.{IsShape}
use Rattle.mc_words.specs.Standing.{Stands}
use Rattle.mc_words.proofs.Frames.{empty_names_none, moved_names}
use Rattle.mc_words.proofs.Places.{slot-with_slot_same, slot-with_slot_other, item-with_slot, length-with_slot}
use Rattle.mc_theory.specs.Effects.{with_bump}
use Rattle.mc_theory.specs.Phases.{Quiet}
use Rattle.mc_theory.specs.States.{State}
use Rattle.mc_theory.specs.declared.act.Act.TheVariants.{Open, Slot, Close}
use Rattle.mc_theory.specs.declared.act.Deed.TheVariants as deed
use Rattle.mc_plan.specs.Making.{state_after_acts, Makes}
use Rattle.mc_plan.specs.Moves.{CanMove, MovesSlot, ActsMove}
use Rattle.mc_plan.specs.Plans.{move_acts}
use Rattle.mc_plan.proofs.Deeds.QuietStates.{state, at_quiet, makes_from_walk}
use Rattle.mc_plan.proofs.Deeds.Renewals.{stands_bumped}
use Rattle.mc_plan.proofs.Deeds.Slots.{slot-bumped, item-bumped, length-bumped}
use Rattle.mc_plan.proofs.Deeds.Walks.{Walk, walk_none, walk_act}

-- the words after the new slot was written, and after the last act
abbrev copied : Shape → List ℕ → ℕ → Place → Place → List ℕ
copied sh w k from to = with_slot sh (with_bump sh w k) (slot_number to) (slot sh w (slot_number from))

abbrev pub moved : Shape → List ℕ → ℕ → Place → Place → List ℕ
moved sh w k from to = with_bump sh (with_slot sh (copied sh w k from to) (slot_number from) 0) k

-- a slot in which a key stands is no empty one
apart : (V : ℕ) (sh : Shape) (w : List ℕ) (k i : ℕ) (from to : Place) → CanMove V sh w k i from to → slot_number from ≢ slot_number to
apart V sh w k i from to can e =
    empty_names_none sh w (slot_number from) i (subst (λ (y : ℕ). slot sh w y ≡ 0) (sym e) can.hole.1) can.stands.names

-- a copy changes no slot but the one that it fills
slot-copied : (V : ℕ) (sh : Shape) (w : List ℕ) (k : ℕ) (from to : Place) (o : ℕ) → IsShape sh → o ≢ slot_number to → slot sh (copied sh w k from to) o ≡ slot sh w o
slot-copied V sh w k from to o s ne = slot-with_slot_other sh (with_bump sh w k) (slot_number to) _ o ne ∙ slot-bumped sh w k o s

-- nor any item
item-copied : (V : ℕ) (sh : Shape) (w : List ℕ) (k : ℕ) (from to : Place) (i j : ℕ) → IsShape sh → slot_number to < 4 * sh.buckets → item V sh (copied sh w k from to) i j ≡ item V sh w i j
item-copied V sh w k from to i j s l = item-with_slot V sh (with_bump sh w k) (slot_number to) _ i j l ∙ item-bumped V sh w k i j s

-- the acts of a move, one by one, from a quiet state
pub move_walk : (V : ℕ) (sh : Shape) (w : List ℕ) (hand : ℕ) (cleared : Option ℕ) (h : List (Change V)) (c k i : ℕ) (from to : Place) → IsShape sh → k < 2 ^ 64 → CanMove V sh w k i from to
    → Walk V sh (state V w Quiet hand cleared h c) (move_acts k (slot sh w (slot_number from)) from to) (state V (moved sh w k from to) Quiet hand None h (c + 1 + 1))
move_walk V sh w hand cleared h c k i from to s key can =
    let p = slot_number from in
    let q = slot_number to in
    let below : q < 4 * sh.buckets = omega (arith, can.hole.0.in_table, can.hole.0.in_bucket) in
    let ne = apart V sh w k i from to can in
    let row : p / 4 ≡ from.bucket = omega (arith, can.in_bucket) in
    let other : to.bucket ≡ alternate sh (p / 4) (tag_of sh k) = can.other ∙ ap (λ (b : ℕ). alternate sh b (tag_of sh k)) (sym row) in
    let opened = stands_bumped V sh w k k p i s can.stands in
    let still : Stands V sh (copied sh w k from to) k p i = record {
      names = moved_names sh w (copied sh w k from to) p i (slot-copied V sh w k from to p s ne) can.stands.names;
      key = item-copied V sh w k from to i 0 s below ∙ can.stands.key;
    } in
    walk_act V sh _ _ (Open k deed.Move) _ (key, (p, i, can.stands))
    (walk_act V sh _ _ (Slot to (slot sh w p)) _ (can.hole.0.in_bucket, (below, slot-bumped sh w k q s ∙ can.hole.1), (p, i, opened, other, sym (slot-bumped sh w k p s)))
    (walk_act V sh _ _ (Slot from 0) _ (can.in_bucket, refl, ne, (i, still))
    (walk_act V sh _ _ Close _ tt
    (walk_none V sh _))))

-- in the end one slot is empty and the other has what stood there
pub moved_slots : (V : ℕ) (sh : Shape) (w : List ℕ) (k i : ℕ) (from to : Place) → IsShape sh → word_count V sh ≤ length w → CanMove V sh w k i from to → MovesSlot V sh w (moved sh w k from to) (slot_number from) (slot_number to)
moved_slots V sh w k i from to s size can =
    let p = slot_number from in
    let q = slot_number to in
    let start : p < 4 * sh.buckets = can.stands.names.in_table in
    let below : q < 4 * sh.buckets = omega (arith, can.hole.0.in_table, can.hole.0.in_bucket) in
    let ne = apart V sh w k i from to can in
    let one = length-bumped sh w k in
    let two = length-with_slot sh (with_bump sh w k) q (slot sh w p) in
    record {
      there = slot-bumped sh _ k q s ∙ slot-with_slot_other sh (copied sh w k from to) p 0 q (λ e. ne (sym e)) ∙ slot-with_slot_same sh (with_bump sh w k) q (slot sh w p) (omega (arith, one, size, below));
      here = slot-bumped sh _ k p s ∙ slot-with_slot_same sh (copied sh w k from to) p 0 (omega (arith, one, two, size, start));
      others = λ o l a b. slot-bumped sh _ k o s ∙ slot-with_slot_other sh (copied sh w k from to) p 0 o a ∙ slot-copied V sh w k from to o s b;
      items = λ g j. item-bumped V sh _ k g j s ∙ item-with_slot V sh (copied sh w k from to) p 0 g j start ∙ item-copied V sh w k from to g j s below;
    }

-- so the key stands in the other
moved_stands : (V : ℕ) (sh : Shape) (w x : List ℕ) (k i : ℕ) (from to : Place) → CanMove V sh w k i from to → MovesSlot V sh w x (slot_number from) (slot_number to) → Stands V sh x k (slot_number to) i
moved_stands V sh w x k i from to can m = record {
  names = record {
    tag = can.stands.names.tag;
    in_table = omega (arith, can.hole.0.in_table, can.hole.0.in_bucket);
    in_items = can.stands.names.in_items;
    is_tag = can.stands.names.is_tag;
    word = m.there ∙ can.stands.names.word;
  };
  key = m.items i 0 ∙ can.stands.key;
}

pub moves : (V : ℕ) (sh : Shape) (k word : ℕ) (from to : Place) → IsShape sh → k < 2 ^ 64 → ActsMove V sh k word from to (move_acts k word from to)
moves V sh k word from to shape key s i =
    at_quiet V sh (λ (s : State V). CanMove V sh s.words k i from to → word ≡ slot sh s.words (slot_number from) → Makes V sh s (move_acts k word from to) [] 2 × Stands V sh (state_after_acts V sh s (move_acts k word from to)).words k (slot_number to) i × MovesSlot V sh s.words (state_after_acts V sh s (move_acts k word from to)).words (slot_number from) (slot_number to))
    (λ w hand cleared h c quiet can is.
    let walk = subst (λ (x : ℕ). Walk V sh (state V w Quiet hand cleared h c) (move_acts k x from to) (state V (moved sh w k from to) Quiet hand None h (c + 1 + 1))) (sym is) (move_walk V sh w hand cleared h c k i from to shape key can) in
    let slots = moved_slots V sh w k i from to shape quiet.holds.agrees.size can in (
      makes_from_walk V sh _ _ (move_acts k word from to) [] 2 shape quiet walk refl (sym (append-nil h)) (omega arith) refl,
      subst (λ (x : State V). Stands V sh x.words k (slot_number to) i) (sym walk.leads) (moved_stands V sh w _ k i from to can slots),
      subst (λ (x : State V). MovesSlot V sh w x.words (slot_number from) (slot_number to)) (sym walk.leads) slots,
    ))
    s
