-- A renewal is allowed act by act, and puts the new value.
use Rattle.std.proofs.Common.{ℕ, zero, suc, ◌≡◌, ◌+◌, ◌^◌, ◌<◌, ◌∙◌, List, [], ◌∷◌, ◌++◌, Option, None, All, ap, refl, sym, subst, length, arith, append_assoc, append-nil, length-append}
use Rattle.mc_words.specs.History.{value_of}
use Rattle.mc_words.specs.declared.history.Change.{Change}
use Rattle.mc_words.specs.declared.history.Change.TheVariants.{Put}
use Rattle.mc_words.specs.declared.shape.Shape.{Shape}
use Rattle.mc_words.specs.Keys.{stripe_of}
use Rattle.mc_words.specs.Places.{payload, moment, with_item}
use Rattle.mc_words.specs.Shapes.{IsShape}
use Rattle.mc_words.specs.Standing.{Stands}
use Rattle.mc_words.proofs.Frames.{moved_names, stands_on, same-with_version}
use Rattle.mc_words.proofs.Keys.{stripe_of-lt}
use Rattle.mc_words.proofs.Payload.{value_of-push}
use Rattle.mc_words.proofs.Places.{slot-with_item, item-with_item_word}
use Rattle.mc_theory.specs.Effects.{with_bump}
use Rattle.mc_theory.specs.Phases.{Quiet, Renewing}
use Rattle.mc_theory.specs.States.{State}
use Rattle.mc_theory.specs.declared.act.Act.TheVariants.{Open, Item, Moment, Close}
use Rattle.mc_theory.specs.declared.act.Deed.TheVariants as deed
use Rattle.mc_plan.specs.Making.{state_after_acts, Makes, ActsRenew}
use Rattle.mc_search.specs.Kept.{KeepsSlots}
use Rattle.mc_plan.specs.Plans.{value_acts, payload_acts, renew_acts}
use Rattle.mc_plan.proofs.Deeds.QuietStates.{state, at_quiet, makes_from_walk}
use Rattle.mc_plan.proofs.Deeds.Slots.{valued, stamped, ended, slot-bumped, slot-stamped, slot-ended, item-bumped, item-ended, key-stamped, moment-bumped, moment-valued}
use Rattle.mc_plan.proofs.Deeds.Values.{payload_of, stamp_at}
use Rattle.mc_plan.proofs.Deeds.Walks.{Walk, walk_none, walk_act, walk_then}

-- a write of a word after an item's key leaves where the key stands
stands_still : (V : ℕ) (sh : Shape) (w : List ℕ) (k q i j x : ℕ) → Stands V sh w k q i → Stands V sh (with_item V sh w i (j + 1) x) k q i
stands_still V sh w k q i j x a = record {
  names = moved_names sh w (with_item V sh w i (j + 1) x) q i (slot-with_item V sh w i (j + 1) x q a.names.in_table) a.names;
  key = item-with_item_word V sh w i (j + 1) x 0 (omega arith) ∙ a.key;
}

-- a key stands where it did when a version changes
pub stands_bumped : (V : ℕ) (sh : Shape) (w : List ℕ) (k f q i : ℕ) → IsShape sh → Stands V sh w k q i → Stands V sh (with_bump sh w f) k q i
stands_bumped V sh w k f q i s stands =
    stands_on V sh w (with_bump sh w f) k q i (same-with_version V sh w (stripe_of sh f) _ k (stripe_of-lt sh f s)) stands

-- the words of the value
renewing_walk : (V : ℕ) (sh : Shape) (w : List ℕ) (hand : ℕ) (cleared : Option ℕ) (h : List (Change V)) (c k q i : ℕ) (ys xs : List ℕ) → length ys + length xs < payload V → All (λ x. x < 2 ^ 64) xs → Stands V sh w k q i
    → Walk V sh (state V w (Renewing k ys) hand cleared h c) (value_acts i (length ys + 1) xs) (state V (valued V sh w i (length ys + 1) xs) (Renewing k (ys ++ xs)) hand cleared h c)
renewing_walk V sh w hand cleared h c k q i ys [] l all stands = rw (append-nil ys) (walk_none V sh (state V w (Renewing k ys) hand cleared h c))
renewing_walk V sh w hand cleared h c k q i ys (x ∷ xs) l all stands =
    let many : length (ys ++ x ∷ []) ≡ length ys + 1 = length-append ys (x ∷ []) in
    let rest = renewing_walk V sh (with_item V sh w i (length ys + 1) x) hand cleared h c k q i (ys ++ x ∷ []) xs (omega (arith, many)) (λ j d b. all (suc j) d (omega arith)) (stands_still V sh w k q i (length ys) x stands) in
    walk_act V sh _ _ (Item i (length ys + 1) x) (value_acts i (length ys + 1 + 1) xs) (refl, omega arith, all zero 0 (omega arith), (q, stands), λ e. absurd (omega (arith, e, l))) (rw (append_assoc ys (x ∷ []) xs, many) at rest)

stands_valued : (V : ℕ) (sh : Shape) (w : List ℕ) (k q i j : ℕ) (xs : List ℕ) → Stands V sh w k q i → Stands V sh (valued V sh w i (j + 1) xs) k q i
stands_valued V sh w k q i j [] stands = stands
stands_valued V sh w k q i j (x ∷ xs) stands = stands_valued V sh (with_item V sh w i (j + 1) x) k q i (j + 1) xs (stands_still V sh w k q i j x stands)

-- and then the stamp
stamping_walk : (V : ℕ) (sh : Shape) (w : List ℕ) (hand : ℕ) (cleared : Option ℕ) (h : List (Change V)) (c k q i : ℕ) (v : List ℕ) (at : ℕ) → length v ≡ V → All (λ x. x < 2 ^ 64) v → at < 2 ^ 64 → Stands V sh w k q i → at ≡ moment w + 1
    → Walk V sh (state V w (Renewing k []) hand cleared h c) (payload_acts i v at) (state V (stamped V sh w i v at) (Renewing k (v ++ at ∷ [])) hand cleared h c)
stamping_walk V sh w hand cleared h c k q i v at many all word stands is =
    let last = stamp_at V v many in
    let next : at ≡ moment (valued V sh w i 1 v) + 1 = is ∙ ap (λ (n : ℕ). n + 1) (sym (moment-valued V sh w i 1 v)) in
    walk_then V sh _ _ _ (value_acts i 1 v) _ (renewing_walk V sh w hand cleared h c k q i [] v (omega (arith, last)) all stands)
    (walk_act V sh _ _ (Item i (length v + 1) at) _ (refl, omega (arith, last), word, (q, stands_valued V sh w k q i 0 v stands), λ e. next) (walk_none V sh _))

-- the words after a renewal
abbrev renewed : ℕ → Shape → List ℕ → ℕ → List ℕ → ℕ → ℕ → List ℕ
renewed V sh w k v at i = ended sh (stamped V sh (with_bump sh w k) i v at) k

-- the acts of a renewal, one by one, from a quiet state
renew_walk : (V : ℕ) (sh : Shape) (w : List ℕ) (hand : ℕ) (cleared : Option ℕ) (h : List (Change V)) (c k : ℕ) (v : List ℕ) (at q i : ℕ) → IsShape sh → k < 2 ^ 64 → length v ≡ V → All (λ x. x < 2 ^ 64) v → at < 2 ^ 64 → Stands V sh w k q i → at ≡ moment w + 1
    → Walk V sh (state V w Quiet hand cleared h c) (renew_acts k v at i) (state V (renewed V sh w k v at i) Quiet hand None (h ++ Put k (value_of V (v ++ at ∷ [])) ∷ []) (c + 1 + 1))
renew_walk V sh w hand cleared h c k v at q i s key many all word stands is =
    let next : at ≡ moment (with_bump sh w k) + 1 = is ∙ ap (λ (n : ℕ). n + 1) (sym (moment-bumped sh w k)) in
    let values = stamping_walk V sh (with_bump sh w k) hand None h (c + 1) k q i v at many all word (stands_bumped V sh w k k q i s stands) next in
    walk_act V sh _ _ (Open k deed.Renew) _ (key, (q, i, stands))
    (walk_then V sh _ _ _ (payload_acts i v at) _ values
    (walk_act V sh _ _ Moment _ (payload_of V v at many)
    (walk_act V sh _ _ Close _ tt
    (walk_none V sh _))))

-- a renewal leaves each slot
renewed_slots : (V : ℕ) (sh : Shape) (w : List ℕ) (k : ℕ) (v : List ℕ) (at i : ℕ) → IsShape sh → KeepsSlots sh w (renewed V sh w k v at i)
renewed_slots V sh w k v at i s o l = slot-ended sh _ k o s ∙ slot-stamped V sh (with_bump sh w k) i at o v l ∙ slot-bumped sh w k o s

renewed_stands : (V : ℕ) (sh : Shape) (w : List ℕ) (k : ℕ) (v : List ℕ) (at q i : ℕ) → IsShape sh → Stands V sh w k q i → Stands V sh (renewed V sh w k v at i) k q i
renewed_stands V sh w k v at q i s a = record {
  names = moved_names sh w (renewed V sh w k v at i) q i (renewed_slots V sh w k v at i s q a.names.in_table) a.names;
  key = item-ended V sh _ k i 0 s ∙ key-stamped V sh (with_bump sh w k) i at v ∙ item-bumped V sh w k i 0 s ∙ a.key;
}

pub renews : (V : ℕ) (sh : Shape) (k : ℕ) (v : List ℕ) (at i : ℕ) → IsShape sh → k < 2 ^ 64 → length v ≡ V → All (λ x. x < 2 ^ 64) v → at < 2 ^ 64 → ActsRenew V sh k v at i (renew_acts k v at i)
renews V sh k v at i shape key many all word s q =
    at_quiet V sh (λ (s : State V). Stands V sh s.words k q i → at ≡ moment s.words + 1 → Makes V sh s (renew_acts k v at i) (Put k v ∷ []) 2 × Stands V sh (state_after_acts V sh s (renew_acts k v at i)).words k q i × KeepsSlots sh s.words (state_after_acts V sh s (renew_acts k v at i)).words)
    (λ w hand cleared h c quiet stands is.
    let walk = renew_walk V sh w hand cleared h c k v at q i shape key many all word stands is in (
      makes_from_walk V sh _ _ (renew_acts k v at i) (Put k v ∷ []) 2 shape quiet walk refl (rw (value_of-push V at v many) refl) (omega arith) refl,
      subst (λ (x : State V). Stands V sh x.words k q i) (sym walk.leads) (renewed_stands V sh w k v at q i shape stands),
      subst (λ (x : State V). KeepsSlots sh w x.words) (sym walk.leads) (renewed_slots V sh w k v at i shape),
    ))
    s
