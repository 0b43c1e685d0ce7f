-- Along a lawful list, while a stripe's version stays, its keys stay as they are.
use Rattle.std.proofs.Common.{ℕ, ◌≡◌, ◌≢◌, ◌+◌, ◌%◌, ◌<◌, ◌≤◌, List, [], ◌∷◌, length, Option, Some, None, refl, sym, ◌∙◌, ap, subst, inl, inr, arith}
use Rattle.std.proofs.lemmas.Bool.{cases_eq, eq-eqb}
use Rattle.mc_theory.proofs.Invariant.RunningDeed.{key-with_value}
use Rattle.mc_theory.proofs.Invariant.EachState.{holds_after}
use Rattle.mc_theory.specs.Inner.{StateHolds}
use Rattle.mc_theory.proofs.Invariant.OtherKeys.{same_refl, step_held, step_same}
use Rattle.mc_theory.specs.Acts.{IsAllowed, MayFrom}
use Rattle.mc_theory.specs.Effects.{after_act, with_bump, with_close, words_after}
use Rattle.mc_theory.specs.Lists.{AreAllowed, Made, after_all}
use Rattle.mc_theory.specs.Phases.{Closing, Filling, Keyed, Moved, Moving, Phase, Placed, Quiet, Removed, Removing, Renewing, deed_key}
use Rattle.mc_theory.specs.States.{State}
use Rattle.mc_words.proofs.Frames.{SameFor, stands_on}
use Rattle.mc_words.proofs.Keys.{stripe_of-lt}
use Rattle.mc_words.proofs.Places.{item-with_item_other, item-with_item_same, item-with_moment, item-with_slot, item-with_version, version-with_item, version-with_moment, version-with_slot, version-with_version_other, version-with_version_same}
use Rattle.mc_words.specs.History.{map_value}
use Rattle.mc_words.specs.Keys.{stripe_of}
use Rattle.mc_words.specs.Places.{item, moment, slot_number, version, with_item, word_count}
use Rattle.mc_words.specs.Shapes.{IsShape}
use Rattle.mc_words.specs.Standing.{Agrees, odd_at}
use Rattle.mc_theory.specs.declared.act.Act.{Act}
use Rattle.mc_words.specs.declared.history.Change.{Change}
use Rattle.mc_words.specs.declared.shape.Shape.{Shape}
use Rattle.mc_theory.specs.declared.act.Act.TheVariants.{Open, Slot, Item, Moment, Close, Hand, Mark}

-- ---- versions do not fall
grows_bumped : (sh : Shape) (w : List ℕ) (V k t : ℕ) → word_count V sh ≤ length w → IsShape sh → version w t ≤ version (with_bump sh w k) t
grows_bumped sh w V k t size s =
    elim (cases_eq t (stripe_of sh k)) [
      | inl e ↦ rw (e, version-with_version_same w (stripe_of sh k) (version w (stripe_of sh k) + 1) (omega (arith, stripe_of-lt sh k s))) (omega arith)
      | inr ne ↦ rw (version-with_version_other w (stripe_of sh k) t (version w (stripe_of sh k) + 1) ne) (omega arith)
    ]

-- no version falls at a close
grows_closed : (sh : Shape) (w : List ℕ) (V : ℕ) (o : Option ℕ) (t : ℕ) → word_count V sh ≤ length w → IsShape sh → version w t ≤ version (with_close sh w o) t
grows_closed sh w V None t size s = omega arith
grows_closed sh w V (Some k) t size s = grows_bumped sh w V k t size s

-- nor at any act
version_grows : (V : ℕ) (sh : Shape) (w : List ℕ) (p : Phase) (a : Act) (t : ℕ) → IsShape sh → word_count V sh ≤ length w → t < sh.stripes → version w t ≤ version (words_after V sh w p a) t
version_grows V sh w p (Open k u) t s size l = grows_bumped sh w V k t size s
version_grows V sh w p (Slot q x) t s size l = rw (version-with_slot sh w (slot_number q) x t l) (omega arith)
version_grows V sh w p (Item i j x) t s size l = rw (version-with_item V sh w i j x t l) (omega arith)
version_grows V sh w p Moment t s size l = omega (arith, version-with_moment w t (moment w + 1))
version_grows V sh w p Close t s size l = grows_closed sh w V (deed_key p) t size s
version_grows V sh w p (Hand i) t s size l = omega arith
version_grows V sh w p (Mark i) t s size l = omega arith

-- ---- one act
-- the key of a running deed has an odd stripe
pub even_not_running : (V : ℕ) (sh : Shape) (w : List ℕ) (p : Phase) (h : List (Change V)) (k : ℕ) → IsShape sh → Agrees V sh w (deed_key p) h → version w (stripe_of sh k) % 2 ≡ 0 → deed_key p ≢ Some k
even_not_running V sh w p h k s g even e =
    let odd : version w (stripe_of sh k) % 2 ≡ odd_at sh (Some k) (stripe_of sh k) = subst (λ (o : Option ℕ). version w (stripe_of sh k) % 2 ≡ odd_at sh o (stripe_of sh k)) e (g.versions (stripe_of sh k) (stripe_of-lt sh k s)) in
    let one : odd_at sh (Some k) (stripe_of sh k) ≡ 1 = rw (eq-eqb (stripe_of sh k) (stripe_of sh k) refl) refl in
    omega (arith, odd ∙ one)

-- no item gets the key
abbrev pub NoNew : ℕ → Shape → List ℕ → List ℕ → ℕ → Type 0
NoNew V sh w x k = (i : ℕ) → item V sh x i 0 ≡ k → item V sh w i 0 ≡ k

-- it depends on the keys of the items alone
no_new_same : (V : ℕ) (sh : Shape) (w x : List ℕ) (k : ℕ) → ((i : ℕ) → item V sh x i 0 ≡ item V sh w i 0) → NoNew V sh w x k
no_new_same V sh w x k same i e = sym (same i) ∙ e

-- an act gives no item a key that is not its deed's
step_no_new : (V : ℕ) (sh : Shape) (w : List ℕ) (hand : ℕ) (cleared : Option ℕ) (k : ℕ) (p : Phase) (a : Act) → IsShape sh → word_count V sh ≤ length w → MayFrom V sh w hand cleared p a → deed_key p ≢ Some k → NoNew V sh w (words_after V sh w p a) k
step_no_new V sh w hand cleared k Quiet (Open f u) s size may ne = no_new_same V sh w _ k (λ i. item-with_version V sh w _ _ i 0 (stripe_of-lt sh f s))
step_no_new V sh w hand cleared k Quiet (Hand i) s size may ne = λ g e. e
step_no_new V sh w hand cleared k Quiet (Mark i) s size may ne = λ g e. e
step_no_new V sh w hand cleared k (Filling f) (Item i j x) s size may ne = λ g e.
    elim (cases_eq i g) [
      | inl h ↦
          let is : item V sh (with_item V sh w i 0 f) i 0 ≡ f = item-with_item_same V sh w i 0 f may.0 (omega arith) size in
          let was : item V sh (with_item V sh w i 0 f) i 0 ≡ k = subst (λ (y : ℕ). item V sh (with_item V sh w i 0 f) y 0 ≡ k) (sym h) (rw (may.2, may.3) at e) in
          absurd (ne (ap Some (sym is ∙ was)))
      | inr apart ↦ sym (item-with_item_other V sh w i j x g 0 apart (omega (arith, may.2)) (omega arith)) ∙ e
    ]
step_no_new V sh w hand cleared k (Keyed f i xs) (Item g j x) s size may ne = no_new_same V sh w _ k (λ y. key-with_value V sh w g j x y (omega (arith, may.1)) may.2)
step_no_new V sh w hand cleared k (Keyed f i xs) (Slot p x) s size may ne = no_new_same V sh w _ k (λ y. item-with_slot V sh w (slot_number p) x y 0 may.1.0)
step_no_new V sh w hand cleared k (Placed f i xs) Moment s size may ne = no_new_same V sh w _ k (λ y. item-with_moment V sh w _ y 0)
step_no_new V sh w hand cleared k (Renewing f xs) (Item i j x) s size may ne = no_new_same V sh w _ k (λ y. key-with_value V sh w i j x y (omega (arith, may.0)) may.1)
step_no_new V sh w hand cleared k (Renewing f xs) Moment s size may ne = no_new_same V sh w _ k (λ y. item-with_moment V sh w _ y 0)
step_no_new V sh w hand cleared k (Removing f u) (Slot p x) s size may ne = no_new_same V sh w _ k (λ y. item-with_slot V sh w (slot_number p) x y 0 may.2.1.names.in_table)
step_no_new V sh w hand cleared k (Removed f u) Moment s size may ne = no_new_same V sh w _ k (λ y. item-with_moment V sh w _ y 0)
step_no_new V sh w hand cleared k (Moving f) (Slot p x) s size may ne = no_new_same V sh w _ k (λ y. item-with_slot V sh w (slot_number p) x y 0 may.1.0)
step_no_new V sh w hand cleared k (Moved f fresh) (Slot p x) s size may ne = no_new_same V sh w _ k (λ y. item-with_slot V sh w (slot_number p) x y 0 may.3.1.names.in_table)
step_no_new V sh w hand cleared k (Closing f) Close s size may ne = no_new_same V sh w _ k (λ i. item-with_version V sh w _ _ i 0 (stripe_of-lt sh f s))
step_no_new V sh w hand cleared k _ _ s size may ne = absurd may

-- ---- two states between which nothing of a key has changed
pub record Kept {V : ℕ} (sh : Shape) (s t : State V) (k : ℕ) : Type 0 where
  pub same : SameFor V sh s.words t.words k
  pub no_new : NoNew V sh s.words t.words k
  pub told : map_value t.history k ≡ map_value s.history k

-- a state keeps its own
kept_refl : {V : ℕ} (sh : Shape) (s : State V) (k : ℕ) → Kept sh s s k
kept_refl {V} sh s k = record { same = same_refl V sh s.words k; no_new = λ i e. e; told = refl }

-- what is kept twice is kept
pub kept_trans : {V : ℕ} (sh : Shape) (s t u : State V) (k : ℕ) → Kept sh s t k → Kept sh t u k → Kept sh s u k
kept_trans {V} sh s t u k a b = record {
  same = record {
    slots = λ q i h. b.same.slots q i (stands_on V sh s.words t.words k q i a.same h) ∙ a.same.slots q i h;
    items = λ q i h j l. b.same.items q i (stands_on V sh s.words t.words k q i a.same h) j l ∙ a.same.items q i h j l;
    back = λ q i h. a.same.back q i (b.same.back q i h);
  };
  no_new = λ i e. a.no_new i (b.no_new i e);
  told = b.told ∙ a.told;
}

-- an act leaves a key whose version is even before it
kept_step : {V : ℕ} (sh : Shape) (s : State V) (a : Act) (bit k : ℕ) → IsShape sh → StateHolds sh s → IsAllowed sh s a → version s.words (stripe_of sh k) % 2 ≡ 0 → Kept sh s (after_act sh s a bit) k
kept_step {V} sh s a bit k shape i may even =
    let ne = even_not_running V sh s.words s.phase s.history k shape i.agrees even in
    record {
      same = step_same V sh s.words s.hand s.cleared s.history k s.phase a shape i.agrees.size i.deed may ne;
      no_new = step_no_new V sh s.words s.hand s.cleared k s.phase a shape i.agrees.size may ne;
      told = step_held V sh s.words s.hand s.cleared s.history k s.phase a may ne;
    }

-- ---- whole lists: each state of a run holds, and versions do not fall
pub holds_all : {V : ℕ} (sh : Shape) (s : State V) (xs : List Made) → IsShape sh → StateHolds sh s → AreAllowed sh s xs → StateHolds sh (after_all sh s xs)
holds_all sh s [] shape i l = i
holds_all sh s (x ∷ xs) shape i l = holds_all sh (after_act sh s x.act x.bit) xs shape (holds_after sh s x.act x.bit shape i l.0) l.1

-- no version falls along a list of acts
pub version_grows_all : {V : ℕ} (sh : Shape) (s : State V) (xs : List Made) (t : ℕ) → IsShape sh → StateHolds sh s → AreAllowed sh s xs → t < sh.stripes → version s.words t ≤ version (after_all sh s xs).words t
version_grows_all sh s [] t shape i l below = omega arith
version_grows_all {V} sh s (x ∷ xs) t shape i l below =
    let one : version s.words t ≤ version (after_act sh s x.act x.bit).words t = version_grows V sh s.words s.phase x.act t shape i.agrees.size below in
    let rest = version_grows_all sh (after_act sh s x.act x.bit) xs t shape (holds_after sh s x.act x.bit shape i l.0) l.1 below in
    omega arith

-- while the version of a key's stripe is the same even number, nothing of the key has changed
pub kept_all : {V : ℕ} (sh : Shape) (s : State V) (xs : List Made) (k : ℕ) → IsShape sh → StateHolds sh s → AreAllowed sh s xs → version s.words (stripe_of sh k) % 2 ≡ 0 → version (after_all sh s xs).words (stripe_of sh k) ≡ version s.words (stripe_of sh k) → Kept sh s (after_all sh s xs) k
kept_all sh s [] k shape i l even e = kept_refl sh s k
kept_all {V} sh s (x ∷ xs) k shape i l even e =
    let t = stripe_of sh k in
    let below : t < sh.stripes = stripe_of-lt sh k shape in
    let next = after_act sh s x.act x.bit in
    let j = holds_after sh s x.act x.bit shape i l.0 in
    let one : version s.words t ≤ version next.words t = version_grows V sh s.words s.phase x.act t shape i.agrees.size below in
    let rest : version next.words t ≤ version (after_all sh next xs).words t = version_grows_all sh next xs t shape j l.1 below in
    let mid : version next.words t ≡ version s.words t = omega arith in
    kept_trans sh s next (after_all sh next xs) k
    (kept_step sh s x.act x.bit k shape i l.0 even)
    (kept_all sh next xs k shape j l.1 (rw mid even) (e ∙ sym mid))
