-- A lookup among all acts and a whole record.
use Rattle.std.proofs.Common.{get_or, ◌≡◌, ◌⊎◌, ⊎_elim, inl, inr, ℕ, zero, suc, ◌+◌, ◌-◌, ◌≤◌, List, [], ◌∷◌, ◌++◌, length, ap, sym, ◌∙◌, subst, arith}
use Rattle.mc_words.specs.History.{IsTrueAnswer}
use Rattle.mc_words.specs.Keys.{stripe_of}
use Rattle.mc_words.specs.declared.history.Reply.{Reply}
use Rattle.mc_words.specs.declared.history.Reply.TheVariants.{Busy}
use Rattle.mc_words.specs.declared.shape.Shape.{Shape}
use Rattle.mc_theory.specs.Lists.{Made, front, state_of}
use Rattle.mc_theory.specs.Lookups.{IsLookup}
use Rattle.mc_theory.specs.Plain.{IsBetween}
use Rattle.mc_theory.specs.Readings.{Reading, AreRead, RiseTo}
use Rattle.mc_theory.specs.declared.access.Access.{Access}
use Rattle.mc_theory.specs.declared.access.Access.TheVariants as access
use Rattle.mc_theory.specs.States.{State}
use Rattle.mc_theory.proofs.Lists.Fronts.{front_all, front_old}
use Rattle.mc_theory.proofs.Lists.Readings.{read_parts, rise_parts}
use Rattle.mc_theory.proofs.Replies.TrueReplies.{replies_are_true}
use Rattle.mc_shared.specs.ExactFronts.{made_by, StandsAt, StandAt}
use Rattle.mc_shared.specs.ExactLaws.{LookupsAreInTime, LookupsStandInOrder}
use Rattle.mc_shared.specs.Views.{Note, layout_with}
use Rattle.mc_shared.specs.declared.layout.Layout.{Layout}
use Rattle.mc_shared.specs.TableRule.{IsRecord}
use Rattle.mc_shared.proofs.ExactReadings.{entered, readings_are_newest}

-- no more acts were made than there are
made_most : (a n : ℕ) (ts : List Note) → made_by a n ts ≤ length ts
made_most a n [] = omega arith
made_most a n (t ∷ ts) = let h = made_most a n ts in omega (arith, h)

-- no entry stands later than the acts that were made by then
stands_by : (x : Access) (front made : ℕ) → StandsAt x front made → front ≤ made
stands_by (access.Version t) front made h = omega (arith, h)
stands_by (access.Slot p) front made h = omega (arith, h)
stands_by (access.Key k) front made h = omega (arith, h)
stands_by (access.Value k j) front made h = omega (arith, h)
stands_by (access.Stamp k) front made h = omega (arith, h)
stands_by access.Moment front made h = omega (arith, h)
stands_by (access.Mark k) front made h = h

-- entries after the first ones stand as they did
pub stand_drop : (a n : ℕ) (ts : List Note) (xs ys : List Reading) → StandAt a ts n (xs ++ ys) → StandAt a ts (n + length xs) ys
stand_drop a n ts [] ys s = subst (λ (k : ℕ). StandAt a ts k ys) (omega arith) s
stand_drop a n ts (x ∷ xs) ys s = subst (λ (k : ℕ). StandAt a ts k ys) (omega arith) (stand_drop a (suc n) ts xs ys s.1)

-- and so do the first ones
stand_take : (a n : ℕ) (ts : List Note) (xs ys : List Reading) → StandAt a ts n (xs ++ ys) → StandAt a ts n xs
stand_take a n ts [] ys s = tt
stand_take a n ts (x ∷ xs) ys s = (s.0, stand_take a (suc n) ts xs ys s.1)

-- entries rise to the acts that were made when the last of them was
ends_by : (a n : ℕ) (ts : List Note) (f g : ℕ) (rs : List Reading) → f ≤ made_by a n ts → RiseTo f rs g → StandAt a ts (suc n) rs → RiseTo f rs (made_by a (n + length rs) ts)
ends_by a n ts f g [] le r s = subst (λ (k : ℕ). f ≤ made_by a k ts) (omega arith) le
ends_by a n ts f g (x ∷ xs) le r s =
    let h = ends_by a (suc n) ts x.front g xs (stands_by x.access x.front (made_by a (suc n) ts) s.0) r.1 s.1 in
    (r.0, subst (λ (k : ℕ). RiseTo x.front xs (made_by a k ts)) (omega arith) h)

-- a lookup reads nothing, and is Busy, or begins with a version
abbrev pub Begins : (V : ℕ) → Shape → ℕ → List Reading → Reply V → Type 0
Begins V sh k rs reply = ((rs ≡ []) × (reply ≡ Busy)) ⊎ ((r : Reading) × (rest : List Reading) × (rs ≡ r ∷ rest) × (r.access ≡ access.Version (stripe_of sh k)))

-- that is how a lookup begins
begins : (V : ℕ) (sh : Shape) (k t : ℕ) (rs : List Reading) (reply : Reply V) → IsLookup V sh k t rs reply → Begins V sh k rs reply
begins V sh k zero rs reply h = inl h
begins V sh k (suc t) rs reply h = ⊎_elim
    (λ x. ⊎_elim
    (λ y. inr (y.0, x.1, x.2 ∙ ap (λ (z : List Reading). z ++ x.1) y.1, y.2))
    (λ y. let w = y.6 in inr (w.first, (w.scan ++ (w.values ++ w.mid ∷ w.last ∷ [])) ++ x.1, x.2 ∙ ap (λ (z : List Reading). z ++ x.1) w.parts, w.first_is))
    x.3)
    (λ x. let w = x.7 in inr (w.first, (w.scan ++ (w.values ++ w.mid ∷ w.last ∷ [])) ++ x.1, x.6 ∙ ap (λ (z : List Reading). z ++ x.1) w.parts, w.first_is))
    h

pub lookups_stand_in_order : (V : ℕ) → LookupsStandInOrder V
lookups_stand_in_order V policy sh acts number notes before rs after k tries reply shape lawful small paired recorded exact looked =
    let through = rise_parts 0 (before ++ rs) after (length acts) recorded.rise in
    let later = rise_parts 0 before rs through.0 through.1 in
    let read : AreRead V sh acts rs = (read_parts V sh acts before rs (read_parts V sh acts (before ++ rs) after recorded.read).0).1 in
    let stand : StandAt number notes (length before) rs = subst (λ (n : ℕ). StandAt number notes n rs) (omega arith) (stand_drop number 0 notes before rs (stand_take number 0 notes (before ++ rs) after exact.fronts)) in
    let lo : ℕ = made_by number (length before) notes in
    let hi : ℕ = made_by number (length before + length rs - 1) notes in
    let most : hi ≤ length acts = omega (arith, paired, made_most number (length before + length rs - 1) notes) in
    ⊎_elim
    (λ (none : (rs ≡ []) × (reply ≡ Busy)).
    subst (λ (y : Reply V). IsTrueAnswer (state_of V sh acts).history k y × IsBetween (length (front V sh acts lo).history) (length (front V sh acts hi).history) y) (sym none.1) (tt, tt))
    (λ (some' : (r : Reading) × (rest : List Reading) × (rs ≡ r ∷ rest) × (r.access ≡ access.Version (stripe_of sh k))).
    let r : Reading = some'.0 in
    let rest : List Reading = some'.1 in
    let s : StandAt number notes (length before) (r ∷ rest) = subst (StandAt number notes (length before)) some'.2 stand in
    let here : r.front ≡ lo = subst (λ (x : Access). StandsAt x r.front lo) some'.3 s.0 in
    let rise : RiseTo later.0 (r ∷ rest) through.0 = subst (λ (z : List Reading). RiseTo later.0 z through.0) some'.2 later.2 in
    let ends = ends_by number (length before) notes r.front through.0 rest (omega (arith, here)) rise.1 s.1 in
    let count : length before + length rest ≡ length before + length rs - 1 = omega (arith, ap length some'.2) in
    let up : RiseTo lo (r ∷ rest) hi = (omega (arith, here), subst (λ (n : ℕ). RiseTo r.front rest (made_by number n notes)) count ends) in
    replies_are_true V sh acts k tries lo hi rs reply shape lawful small most read (subst (λ (z : List Reading). RiseTo lo z hi) (sym some'.2) up) looked)
    (begins V sh k tries rs reply looked)

-- ---- in time
-- if a list is longer by one entry than another, and begins a lookup there, the lookup's first front is the acts of that instant
pub lookups_are_in_time : (V : ℕ) → LookupsAreInTime V
lookups_are_in_time V sh k tries acts acts' reply shape small h =
    let l : Layout = layout_with V h.policy sh in
    let done = entered l h.s' h.t' acts' h.last h.ends in
    let kept : IsRecord l acts' (h.begins.done ++ h.rs) = subst (IsRecord l acts') h.whole done.1 in
    let parts = rise_parts 0 h.begins.done h.rs (length acts') kept.rise in
    let read : AreRead V sh acts' h.rs = (read_parts V sh acts' h.begins.done h.rs kept.read).1 in
    let newest = (readings_are_newest l h.s h.t acts h.first h.begins).0 in
    let here : h.first.front ≡ length acts = ⊎_elim
    (λ (none : (h.rs ≡ []) × (reply ≡ Busy)). absurd (omega (arith, ap length none.0, ap length h.from)))
    (λ (some' : (r : Reading) × (rest : List Reading) × (h.rs ≡ r ∷ rest) × (r.access ≡ access.Version (stripe_of sh k))).
    let same : h.first ≡ some'.0 = ap (λ (z : List Reading). get_or z 0 h.first) (sym h.from ∙ some'.2) in
    subst (λ (x : Access). StandsAt x h.first.front (length acts)) (ap (λ (r : Reading). r.access) same ∙ some'.3) newest)
    (begins V sh k tries h.rs reply h.looked) in
    let rise : RiseTo parts.0 (h.first ∷ h.more) (length acts') = subst (λ (z : List Reading). RiseTo parts.0 z (length acts')) h.from parts.2 in
    let up : RiseTo (length acts) (h.first ∷ h.more) (length acts') = (omega (arith, here), rise.1) in
    let both = replies_are_true V sh acts' k tries (length acts) (length acts') h.rs reply shape done.0 small (omega arith) read (subst (λ (z : List Reading). RiseTo (length acts) z (length acts')) (sym h.from) up) h.looked in
    let lo : front V sh acts' (length acts) ≡ state_of V sh acts = ap (λ (z : List Made). front V sh z (length acts)) h.later.1 ∙ front_old V sh acts h.later.0 in
    let hi : front V sh acts' (length acts') ≡ state_of V sh acts' = front_all V sh acts' (length acts') (omega arith) in
    (both.0, subst (λ (y : State V × State V). IsBetween (length y.0.history) (length y.1.history) reply) (λ i. (lo i, hi i)) both.1)
