-- A fill is allowed act by act, and puts its key.
use Rattle.std.proofs.Common.{ℕ, zero, suc, ◌≡◌, ◌+◌, ◌*◌, ◌^◌, ◌<◌, ◌≤◌, ◌∙◌, List, [], ◌∷◌, ◌++◌, Option, None, All, ap, refl, sym, subst, length, arith, append_assoc, append-nil, length-append}
use Rattle.mc_words.specs.History.{value_of}
use Rattle.mc_words.specs.declared.history.Change.{Change}
use Rattle.mc_words.specs.declared.history.Change.TheVariants.{Put}
use Rattle.mc_words.specs.declared.place.Place.{Place}
use Rattle.mc_words.specs.declared.shape.Shape.{Shape}
use Rattle.mc_words.specs.Keys.{tag_of, slot_word}
use Rattle.mc_words.specs.Places.{payload, moment, slot_number, slot, word_count, with_item, with_slot}
use Rattle.mc_words.specs.Shapes.{IsShape}
use Rattle.mc_words.specs.Standing.{Stands, IsFree}
use Rattle.mc_words.proofs.Frames.{moved_names}
use Rattle.mc_words.proofs.Keys.{tag_of-lt}
use Rattle.mc_words.proofs.Payload.{value_of-push}
use Rattle.mc_words.proofs.Places.{moment-with_item, slot-with_item, slot-with_slot_same, slot-with_slot_other, item-with_item_same, item-with_slot, length-with_item}
use Rattle.mc_theory.specs.Effects.{with_bump}
use Rattle.mc_theory.specs.Phases.{Quiet, Keyed}
use Rattle.mc_theory.specs.States.{State}
use Rattle.mc_theory.specs.declared.act.Act.TheVariants.{Open, Slot, Item, Moment, Close}
use Rattle.mc_theory.specs.declared.act.Deed.TheVariants as deed
use Rattle.mc_plan.specs.Making.{state_after_acts, Makes, CanFill, ActsFill}
use Rattle.mc_search.specs.Kept.{SetsSlot}
use Rattle.mc_plan.specs.Plans.{value_acts, payload_acts, fill_acts}
use Rattle.mc_plan.proofs.Deeds.QuietStates.{state, at_quiet, makes_from_walk}
use Rattle.mc_plan.proofs.Deeds.Slots.{valued, stamped, ended, slot-bumped, slot-stamped, slot-ended, item-ended, key-stamped, length-bumped, length-stamped, moment-bumped, moment-valued}
use Rattle.mc_plan.proofs.Deeds.Values.{payload_of, stamp_at}
use Rattle.mc_plan.proofs.Deeds.Walks.{Walk, walk_none, walk_act, walk_then}

-- the words of the value
keyed_walk : (V : ℕ) (sh : Shape) (w : List ℕ) (hand : ℕ) (cleared : Option ℕ) (h : List (Change V)) (c k i : ℕ) (ys xs : List ℕ) → length ys + length xs < payload V → All (λ x. x < 2 ^ 64) xs
    → Walk V sh (state V w (Keyed k i ys) hand cleared h c) (value_acts i (length ys + 1) xs) (state V (valued V sh w i (length ys + 1) xs) (Keyed k i (ys ++ xs)) hand cleared h c)
keyed_walk V sh w hand cleared h c k i ys [] l all = rw (append-nil ys) (walk_none V sh (state V w (Keyed k i ys) hand cleared h c))
keyed_walk V sh w hand cleared h c k i ys (x ∷ xs) l all =
    let many : length (ys ++ x ∷ []) ≡ length ys + 1 = length-append ys (x ∷ []) in
    let rest = keyed_walk V sh (with_item V sh w i (length ys + 1) x) hand cleared h c k i (ys ++ x ∷ []) xs (omega (arith, many)) (λ j d b. all (suc j) d (omega arith)) in
    walk_act V sh _ _ (Item i (length ys + 1) x) (value_acts i (length ys + 1 + 1) xs) (refl, refl, omega arith, all zero 0 (omega arith), λ e. absurd (omega (arith, e, l))) (rw (append_assoc ys (x ∷ []) xs, many) at rest)

-- and then the stamp
stamping_walk : (V : ℕ) (sh : Shape) (w : List ℕ) (hand : ℕ) (cleared : Option ℕ) (h : List (Change V)) (c k i : ℕ) (v : List ℕ) (at : ℕ) → length v ≡ V → All (λ x. x < 2 ^ 64) v → at < 2 ^ 64 → at ≡ moment w + 1
    → Walk V sh (state V w (Keyed k i []) hand cleared h c) (payload_acts i v at) (state V (stamped V sh w i v at) (Keyed k i (v ++ at ∷ [])) hand cleared h c)
stamping_walk V sh w hand cleared h c k i v at many all word is =
    let last = stamp_at V v many in
    let next : at ≡ moment (valued V sh w i 1 v) + 1 = is ∙ ap (λ (n : ℕ). n + 1) (sym (moment-valued V sh w i 1 v)) in
    walk_then V sh _ _ _ (value_acts i 1 v) _ (keyed_walk V sh w hand cleared h c k i [] v (omega (arith, last)) all)
    (walk_act V sh _ _ (Item i (length v + 1) at) _ (refl, refl, omega (arith, last), word, λ e. next) (walk_none V sh _))

-- the words of a fill before its slot is written, and after its last act
abbrev before_slot : ℕ → Shape → List ℕ → ℕ → List ℕ → ℕ → ℕ → List ℕ
before_slot V sh w k v at i = stamped V sh (with_item V sh (with_bump sh w k) i 0 k) i v at

abbrev filled : ℕ → Shape → List ℕ → ℕ → List ℕ → ℕ → ℕ → Place → List ℕ
filled V sh w k v at i p = ended sh (with_slot sh (before_slot V sh w k v at i) (slot_number p) (slot_word (tag_of sh k) i)) k

-- no slot has changed before the new one is written
slot-before : (V : ℕ) (sh : Shape) (w : List ℕ) (k : ℕ) (v : List ℕ) (at i q : ℕ) → IsShape sh → q < 4 * sh.buckets → slot sh (before_slot V sh w k v at i) q ≡ slot sh w q
slot-before V sh w k v at i q s l = slot-stamped V sh _ i at q v l ∙ slot-with_item V sh _ i 0 k q l ∙ slot-bumped sh w k q s

fill_walk : (V : ℕ) (sh : Shape) (w : List ℕ) (hand : ℕ) (cleared : Option ℕ) (h : List (Change V)) (c k : ℕ) (v : List ℕ) (at i : ℕ) (p : Place) → IsShape sh → k < 2 ^ 64 → length v ≡ V → All (λ x. x < 2 ^ 64) v → at < 2 ^ 64 → CanFill V sh w k i p → at ≡ moment w + 1
    → Walk V sh (state V w Quiet hand cleared h c) (fill_acts sh k v at i p) (state V (filled V sh w k v at i p) Quiet hand None (h ++ Put k (value_of V (v ++ at ∷ [])) ∷ []) (c + 1 + 1))
fill_walk V sh w hand cleared h c k v at i p s key many all word can is =
    let below : slot_number p < 4 * sh.buckets = omega (arith, can.hole.0.in_table, can.hole.0.in_bucket) in
    let still : IsFree sh (with_bump sh w k) i = λ q a. can.free q (moved_names sh (with_bump sh w k) w q i (sym (slot-bumped sh w k q s)) a) in
    let now : moment (with_item V sh (with_bump sh w k) i 0 k) ≡ moment w = moment-with_item V sh (with_bump sh w k) i 0 k ∙ moment-bumped sh w k in
    let values = stamping_walk V sh (with_item V sh (with_bump sh w k) i 0 k) hand None h (c + 1) k i v at many all word (is ∙ ap (λ (n : ℕ). n + 1) (sym now)) in
    walk_act V sh _ _ (Open k deed.Fill) _ (key, (can.absent, (i, can.in_items, can.free)))
    (walk_act V sh _ _ (Item i 0 k) _ (can.in_items, still, refl, refl)
    (walk_then V sh _ _ _ (payload_acts i v at) _ values
    (walk_act V sh _ _ (Slot p (slot_word (tag_of sh k) i)) _ (payload_of V v at many, (below, slot-before V sh w k v at i (slot_number p) s below ∙ can.hole.1), can.bucket, can.hole.0.in_bucket, refl)
    (walk_act V sh _ _ Moment _ tt
    (walk_act V sh _ _ Close _ tt
    (walk_none V sh _))))))

-- what a fill leaves of the slots
filled_slots : (V : ℕ) (sh : Shape) (w : List ℕ) (k : ℕ) (v : List ℕ) (at i : ℕ) (p : Place) → IsShape sh → word_count V sh ≤ length w → CanFill V sh w k i p
    → SetsSlot sh w (filled V sh w k v at i p) (slot_number p) (slot_word (tag_of sh k) i)
filled_slots V sh w k v at i p s size can =
    let q = slot_number p in
    let below : q < 4 * sh.buckets = omega (arith, can.hole.0.in_table, can.hole.0.in_bucket) in
    let many = length-stamped V sh (with_item V sh (with_bump sh w k) i 0 k) i at v ∙ length-with_item V sh (with_bump sh w k) i 0 k ∙ length-bumped sh w k in
    record {
      here = slot-ended sh _ k q s ∙ slot-with_slot_same sh (before_slot V sh w k v at i) q (slot_word (tag_of sh k) i) (omega (arith, many, size, below));
      others = λ o l ne. slot-ended sh _ k o s ∙ slot-with_slot_other sh (before_slot V sh w k v at i) q (slot_word (tag_of sh k) i) o ne ∙ slot-before V sh w k v at i o s l;
    }

-- the key stands in the slot after a fill
filled_stands : (V : ℕ) (sh : Shape) (w : List ℕ) (k : ℕ) (v : List ℕ) (at i : ℕ) (p : Place) → IsShape sh → k < 2 ^ 64 → word_count V sh ≤ length w → CanFill V sh w k i p
    → Stands V sh (filled V sh w k v at i p) k (slot_number p) i
filled_stands V sh w k v at i p s key size can =
    let below : slot_number p < 4 * sh.buckets = omega (arith, can.hole.0.in_table, can.hole.0.in_bucket) in
    record {
      names = record {
        tag = tag_of sh k;
        in_table = below;
        in_items = can.in_items;
        is_tag = tag_of-lt sh k key;
        word = (filled_slots V sh w k v at i p s size can).here;
      };
      key = item-ended V sh _ k i 0 s ∙ item-with_slot V sh (before_slot V sh w k v at i) (slot_number p) _ i 0 below ∙ key-stamped V sh _ i at v
          ∙ item-with_item_same V sh (with_bump sh w k) i 0 k can.in_items (omega arith) (omega (arith, length-bumped sh w k, size));
    }

pub fills : (V : ℕ) (sh : Shape) (k : ℕ) (v : List ℕ) (at i : ℕ) (p : Place) → IsShape sh → k < 2 ^ 64 → length v ≡ V → All (λ x. x < 2 ^ 64) v → at < 2 ^ 64 → ActsFill V sh k v at i p (fill_acts sh k v at i p)
fills V sh k v at i p shape key many all word =
    at_quiet V sh (λ (s : State V). CanFill V sh s.words k i p → at ≡ moment s.words + 1 → Makes V sh s (fill_acts sh k v at i p) (Put k v ∷ []) 2 × Stands V sh (state_after_acts V sh s (fill_acts sh k v at i p)).words k (slot_number p) i × SetsSlot sh s.words (state_after_acts V sh s (fill_acts sh k v at i p)).words (slot_number p) (slot_word (tag_of sh k) i))
    (λ w hand cleared h c q can is.
    let walk = fill_walk V sh w hand cleared h c k v at i p shape key many all word can is in
    let size = q.holds.agrees.size in (
      makes_from_walk V sh _ _ (fill_acts sh k v at i p) (Put k v ∷ []) 2 shape q walk refl (rw (value_of-push V at v many) refl) (omega arith) refl,
      subst (λ (x : State V). Stands V sh x.words k (slot_number p) i) (sym walk.leads) (filled_stands V sh w k v at i p shape key size can),
      subst (λ (x : State V). SetsSlot sh w x.words (slot_number p) (slot_word (tag_of sh k) i)) (sym walk.leads) (filled_slots V sh w k v at i p shape size can),
    ))
