-- A removal and an eviction are allowed act by act, and take their key out.
use Rattle.std.proofs.Common.{ℕ, ◌≡◌, ◌+◌, ◌*◌, ◌^◌, ◌<◌, ◌≤◌, ◌∙◌, List, [], ◌∷◌, ◌++◌, Bool, true, false, Option, Some, None, refl, sym, subst, length, arith, inl, inr}
use Rattle.std.proofs.lemmas.Bool.{cases_eq}
use Rattle.mc_words.specs.declared.history.Change.{Change}
use Rattle.mc_words.specs.declared.history.Change.TheVariants.{Remove, Evict}
use Rattle.mc_words.specs.declared.place.Place.{Place}
use Rattle.mc_words.specs.declared.shape.Shape.{Shape}
use Rattle.mc_words.specs.History.{map_value}
use Rattle.mc_words.specs.Places.{slot_number, slot, word_count, with_slot}
use Rattle.mc_words.specs.Shapes.{IsShape}
use Rattle.mc_words.specs.Standing.{NamesItem, Stands, Agrees, AgreesAt, IsFree}
use Rattle.mc_words.proofs.Frames.{empty_names_none, moved_names}
use Rattle.mc_words.proofs.Places.{slot-with_slot_same, slot-with_slot_other, item-with_slot}
use Rattle.mc_theory.specs.Effects.{with_bump, removal_of}
use Rattle.mc_theory.specs.Phases.{Quiet, Removing}
use Rattle.mc_theory.specs.States.{State}
use Rattle.mc_theory.specs.declared.act.Act.TheVariants.{Open, Slot, Moment, Close}
use Rattle.mc_theory.specs.declared.act.Deed.TheVariants as deed
use Rattle.mc_plan.specs.Making.{state_after_acts, Makes, ActsRemove, ActsEvict}
use Rattle.mc_search.specs.Kept.{SetsSlot, KeepsItems}
use Rattle.mc_plan.specs.Plans.{remove_acts, evict_acts}
use Rattle.mc_plan.proofs.Deeds.QuietStates.{state, at_quiet, makes_from_walk}
use Rattle.mc_plan.proofs.Deeds.Renewals.{stands_bumped}
use Rattle.mc_plan.proofs.Deeds.Slots.{ended, slot-bumped, slot-ended, item-bumped, item-ended, length-bumped}
use Rattle.mc_plan.proofs.Deeds.Walks.{Walk, walk_none, walk_act}

-- the words after a removal
abbrev cleared_words : Shape → List ℕ → ℕ → Place → List ℕ
cleared_words sh w k p = ended sh (with_slot sh (with_bump sh w k) (slot_number p) 0) k

-- the acts after a removal was opened
taken_walk : (V : ℕ) (sh : Shape) (w : List ℕ) (hand : ℕ) (h : List (Change V)) (c k : ℕ) (p : Place) (i : ℕ) (evicts : Bool) → IsShape sh → p.slot < 4 → Stands V sh w k (slot_number p) i
    → Walk V sh (state V (with_bump sh w k) (Removing k evicts) hand None h (c + 1)) (Slot p 0 ∷ Moment ∷ Close ∷ []) (state V (cleared_words sh w k p) Quiet hand None (h ++ removal_of evicts k ∷ []) (c + 1 + 1))
taken_walk V sh w hand h c k p i evicts s in_bucket stands =
    walk_act V sh _ _ (Slot p 0) _ (in_bucket, refl, (i, stands_bumped V sh w k k (slot_number p) i s stands))
    (walk_act V sh _ _ Moment _ tt
    (walk_act V sh _ _ Close _ tt
    (walk_none V sh _)))

-- a removal empties one slot
cleared_slots : (V : ℕ) (sh : Shape) (w : List ℕ) (k : ℕ) (p : Place) → IsShape sh → word_count V sh ≤ length w → slot_number p < 4 * sh.buckets → SetsSlot sh w (cleared_words sh w k p) (slot_number p) 0
cleared_slots V sh w k p s size below = record {
  here = slot-ended sh _ k (slot_number p) s ∙ slot-with_slot_same sh (with_bump sh w k) (slot_number p) 0 (omega (arith, length-bumped sh w k, size, below));
  others = λ o l ne. slot-ended sh _ k o s ∙ slot-with_slot_other sh (with_bump sh w k) (slot_number p) 0 o ne ∙ slot-bumped sh w k o s;
}

-- and leaves each item's words
cleared_items : (V : ℕ) (sh : Shape) (w : List ℕ) (k : ℕ) (p : Place) → IsShape sh → slot_number p < 4 * sh.buckets → KeepsItems V sh w (cleared_words sh w k p)
cleared_items V sh w k p s below i j =
    item-ended V sh _ k i j s ∙ item-with_slot V sh (with_bump sh w k) (slot_number p) 0 i j below ∙ item-bumped V sh w k i j s

-- no other slot names the item of a key
pub named_once : (V : ℕ) (sh : Shape) (w : List ℕ) (k q i : ℕ) (o : Option (List ℕ)) → AgreesAt V sh w k o → Stands V sh w k q i → (p : ℕ) → NamesItem sh w p i → p ≡ q
named_once V sh w k q i None a stands p names = absurd (a q i stands)
named_once V sh w k q i (Some v) a stands p names =
    (a.2.once p i (record { names = names; key = stands.key })).0 ∙ sym (a.2.once q i stands).0

-- the item that the slot named is free then
cleared_free : (V : ℕ) (sh : Shape) (w x : List ℕ) (h : List (Change V)) (k q i : ℕ) → Agrees V sh w None h → Stands V sh w k q i → SetsSlot sh w x q 0 → IsFree sh x i
cleared_free V sh w x h k q i agrees stands sets o names =
    elim (cases_eq o q) [
      | inl e ↦ empty_names_none sh x o i (subst (λ (y : ℕ). slot sh x y ≡ 0) (sym e) sets.here) names
      | inr ne ↦ ne (named_once V sh w k q i (map_value h k) (agrees.keys k (λ e. cc)) stands o (moved_names sh x w o i (sym (sets.others o names.in_table ne)) names))
    ]

pub removes : (V : ℕ) (sh : Shape) (k : ℕ) (p : Place) → IsShape sh → k < 2 ^ 64 → ActsRemove V sh k p (remove_acts k p)
removes V sh k p shape key s i =
    at_quiet V sh (λ (s : State V). p.slot < 4 → Stands V sh s.words k (slot_number p) i → Makes V sh s (remove_acts k p) (Remove k ∷ []) 2 × IsFree sh (state_after_acts V sh s (remove_acts k p)).words i × SetsSlot sh s.words (state_after_acts V sh s (remove_acts k p)).words (slot_number p) 0 × KeepsItems V sh s.words (state_after_acts V sh s (remove_acts k p)).words)
    (λ w hand cleared h c quiet in_bucket stands.
    let walk = walk_act V sh (state V w Quiet hand cleared h c) _ (Open k deed.Remove) _ (key, (slot_number p, i, stands)) (taken_walk V sh w hand h c k p i false shape in_bucket stands) in
    let slots = cleared_slots V sh w k p shape quiet.holds.agrees.size stands.names.in_table in (
      makes_from_walk V sh _ _ (remove_acts k p) (Remove k ∷ []) 2 shape quiet walk refl refl (omega arith) refl,
      subst (λ (x : State V). IsFree sh x.words i) (sym walk.leads) (cleared_free V sh w _ h k (slot_number p) i quiet.holds.agrees stands slots),
      subst (λ (x : State V). SetsSlot sh w x.words (slot_number p) 0) (sym walk.leads) slots,
      subst (λ (x : State V). KeepsItems V sh w x.words) (sym walk.leads) (cleared_items V sh w k p shape stands.names.in_table),
    ))
    s

pub evicts : (V : ℕ) (sh : Shape) (k : ℕ) (p : Place) → IsShape sh → k < 2 ^ 64 → ActsEvict V sh k p (evict_acts k p)
evicts V sh k p shape key s i =
    at_quiet V sh (λ (s : State V). p.slot < 4 → Stands V sh s.words k (slot_number p) i → s.cleared ≡ Some i → Makes V sh s (evict_acts k p) (Evict k ∷ []) 2 × IsFree sh (state_after_acts V sh s (evict_acts k p)).words i × SetsSlot sh s.words (state_after_acts V sh s (evict_acts k p)).words (slot_number p) 0 × KeepsItems V sh s.words (state_after_acts V sh s (evict_acts k p)).words)
    (λ w hand cleared h c quiet in_bucket stands clear.
    let walk = walk_act V sh (state V w Quiet hand cleared h c) _ (Open k deed.Evict) _ (key, (slot_number p, i, stands, clear)) (taken_walk V sh w hand h c k p i true shape in_bucket stands) in
    let slots = cleared_slots V sh w k p shape quiet.holds.agrees.size stands.names.in_table in (
      makes_from_walk V sh _ _ (evict_acts k p) (Evict k ∷ []) 2 shape quiet walk refl refl (omega arith) refl,
      subst (λ (x : State V). IsFree sh x.words i) (sym walk.leads) (cleared_free V sh w _ h k (slot_number p) i quiet.holds.agrees stands slots),
      subst (λ (x : State V). SetsSlot sh w x.words (slot_number p) 0) (sym walk.leads) slots,
      subst (λ (x : State V). KeepsItems V sh w x.words) (sym walk.leads) (cleared_items V sh w k p shape stands.names.in_table),
    ))
    s
