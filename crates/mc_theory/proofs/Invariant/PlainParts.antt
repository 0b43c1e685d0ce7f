-- The sizes, the moment, the slots and the versions after an act: the parts of the invariant that speak of words alone.
use Rattle.std.proofs.Common.{ℕ, ◌≡◌, ◌+◌, ◌*◌, ◌%◌, ◌<◌, ◌≤◌, ◌⊎◌, eqb, List, length, Option, Some, None, refl, sym, ◌∙◌, ap, subst, inl, inr, arith}
use Rattle.std.proofs.lemmas.Bool.{cases_eq, cases_Bool, cond-true, cond-false, eqb-true, eqb-false}
use Rattle.std.proofs.lemmas.List.{length_push}
use Rattle.mc_theory.proofs.Invariant.OtherKeys.{slot_in}
use Rattle.mc_theory.specs.Acts.{MayFrom}
use Rattle.mc_theory.specs.Effects.{with_bump, with_close, history_after, phase_after, removal_of, words_after}
use Rattle.mc_theory.specs.Inner.{DeedFacts}
use Rattle.mc_theory.specs.Phases.{Closing, Filling, Keyed, Moved, Moving, Phase, Placed, Quiet, Removed, Removing, Renewing, first_phase, deed_key}
use Rattle.mc_words.proofs.Frames.{moved_names}
use Rattle.mc_words.proofs.Keys.{stripe_of-lt, tag_of-lt}
use Rattle.mc_words.proofs.Places.{length-with_item, length-with_moment, length-with_slot, length-with_version, moment-with_item, moment-with_moment, moment-with_slot, moment-with_version, slot-with_item, slot-with_moment, slot-with_slot_other, slot-with_slot_same, slot-with_version, version-with_item, version-with_moment, version-with_slot, version-with_version_other, version-with_version_same}
use Rattle.mc_words.specs.Keys.{slot_word, stripe_of, tag_of}
use Rattle.mc_words.specs.Places.{moment, slot, slot_number, version, with_item, with_moment, with_slot, word_count}
use Rattle.mc_words.specs.Shapes.{IsShape}
use Rattle.mc_words.specs.Standing.{NamesItem, Stands, odd_at}
use Rattle.mc_theory.specs.declared.act.Act.{Act}
use Rattle.mc_words.specs.declared.history.Change.{Change}
use Rattle.mc_words.specs.declared.shape.Shape.{Shape}
use Rattle.mc_theory.specs.declared.act.Act.TheVariants.{Open, Slot, Item, Moment, Close, Hand, Mark}
use Rattle.mc_theory.specs.declared.act.Deed.TheVariants as deed

-- a close leaves the number of words
length_closed : (sh : Shape) (w : List ℕ) (o : Option ℕ) → length (with_close sh w o) ≡ length w
length_closed sh w None = refl
length_closed sh w (Some k) = length-with_version w _ _

pub length_after : (V : ℕ) (sh : Shape) (w : List ℕ) (p : Phase) (a : Act) → length (words_after V sh w p a) ≡ length w
length_after V sh w p (Open k d) = length-with_version w _ _
length_after V sh w p (Slot q x) = length-with_slot sh w _ x
length_after V sh w p (Item i j x) = length-with_item V sh w i j x
length_after V sh w p Moment = length-with_moment w _
length_after V sh w p Close = length_closed sh w (deed_key p)
length_after V sh w p (Hand i) = refl
length_after V sh w p (Mark i) = refl

-- a close leaves the moment
moment_closed : (sh : Shape) (w : List ℕ) (o : Option ℕ) → moment (with_close sh w o) ≡ moment w
moment_closed sh w None = refl
moment_closed sh w (Some k) = moment-with_version w _ _

-- the moment is the number of changes, after each act too
pub moment_after : (V : ℕ) (sh : Shape) (w : List ℕ) (hand : ℕ) (cleared : Option ℕ) (h : List (Change V)) (p : Phase) (a : Act) → word_count V sh ≤ length w → moment w ≡ length h → MayFrom V sh w hand cleared p a → moment (words_after V sh w p a) ≡ length (history_after h p a)
moment_after V sh w hand cleared h p (Open k d) size at may = moment-with_version w _ _ ∙ at
moment_after V sh w hand cleared h p (Slot q x) size at may = moment-with_slot sh w _ x ∙ at
moment_after V sh w hand cleared h p (Item i j x) size at may = moment-with_item V sh w i j x ∙ at
moment_after V sh w hand cleared h (Placed k i xs) Moment size at may = moment-with_moment w _ (omega arith) ∙ ap (λ y. y + 1) at ∙ sym (length_push h _)
moment_after V sh w hand cleared h (Renewing k xs) Moment size at may = moment-with_moment w _ (omega arith) ∙ ap (λ y. y + 1) at ∙ sym (length_push h _)
moment_after V sh w hand cleared h (Removed k e) Moment size at may = moment-with_moment w _ (omega arith) ∙ ap (λ y. y + 1) at ∙ sym (length_push h (removal_of e k))
moment_after V sh w hand cleared h p Close size at may = moment_closed sh w (deed_key p) ∙ at
moment_after V sh w hand cleared h p (Hand i) size at may = at
moment_after V sh w hand cleared h p (Mark i) size at may = at
moment_after V sh w hand cleared h _ Moment size at may = absurd may

-- each slot is empty or names an item
abbrev pub Filled : Shape → List ℕ → Type 0
Filled sh w = (q : ℕ) → q < 4 * sh.buckets → (slot sh w q ≡ 0) ⊎ ((i : ℕ) × NamesItem sh w q i)

-- it depends on the slots alone
filled_same : (sh : Shape) (w x : List ℕ) → ((q : ℕ) → q < 4 * sh.buckets → slot sh x q ≡ slot sh w q) → Filled sh w → Filled sh x
filled_same sh w x same f q l =
    elim (f q l) [
      | inl e ↦ inl (same q l ∙ e)
      | inr a ↦ inr (a.0, moved_names sh w x q a.0 (same q l) a.1)
    ]

-- a slot may be emptied, or name an item
filled_slot : (V : ℕ) (sh : Shape) (w : List ℕ) (p v : ℕ) → word_count V sh ≤ length w → p < 4 * sh.buckets → (v ≡ 0) ⊎ ((t : ℕ) × (i : ℕ) × (t < 256) × (i < sh.items) × (v ≡ slot_word t i)) → Filled sh w → Filled sh (with_slot sh w p v)
filled_slot V sh w p v size below new f q l =
    elim (cases_eq q p) [
      | inl e ↦
          let is : slot sh (with_slot sh w p v) q ≡ v = subst (λ (y : ℕ). slot sh (with_slot sh w p v) y ≡ v) (sym e) (slot-with_slot_same sh w p v (slot_in V sh w p size below)) in
          elim new [
            | inl z ↦ inl (is ∙ z)
            | inr a ↦ inr (a.1, record { tag = a.0; in_table = l; in_items = a.3; is_tag = a.2; word = is ∙ a.4 })
          ]
      | inr ne ↦
          let same : slot sh (with_slot sh w p v) q ≡ slot sh w q = slot-with_slot_other sh w p v q ne in
          elim (f q l) [
            | inl e ↦ inl (same ∙ e)
            | inr a ↦ inr (a.0, moved_names sh w (with_slot sh w p v) q a.0 same a.1)
          ]
    ]

-- a change of a version leaves it
filled_bumped : (sh : Shape) (w : List ℕ) (k : ℕ) → IsShape sh → Filled sh w → Filled sh (with_bump sh w k)
filled_bumped sh w k s f = filled_same sh w (with_bump sh w k) (λ q l. slot-with_version sh w _ _ q (stripe_of-lt sh k s)) f

pub filled_after : (V : ℕ) (sh : Shape) (w : List ℕ) (hand : ℕ) (cleared : Option ℕ) (h : List (Change V)) (p : Phase) (a : Act) → IsShape sh → word_count V sh ≤ length w → DeedFacts V sh w h p → MayFrom V sh w hand cleared p a → Filled sh w → Filled sh (words_after V sh w p a)
filled_after V sh w hand cleared h p (Open k u) s size d may f = filled_bumped sh w k s f
filled_after V sh w hand cleared h p (Item i j x) s size d may f = filled_same sh w (with_item V sh w i j x) (λ q l. slot-with_item V sh w i j x q l) f
filled_after V sh w hand cleared h p Moment s size d may f = filled_same sh w (with_moment w _) (λ q l. slot-with_moment sh w q _) f
filled_after V sh w hand cleared h p (Hand i) s size d may f = f
filled_after V sh w hand cleared h p (Mark i) s size d may f = f
filled_after V sh w hand cleared h (Closing k) Close s size d may f = filled_bumped sh w k s f
filled_after V sh w hand cleared h (Keyed k i xs) (Slot p x) s size d may f =
    filled_slot V sh w (slot_number p) x size may.1.0 (inr (tag_of sh k, i, tag_of-lt sh k d.0.in_range, d.0.in_items, may.4)) f
filled_after V sh w hand cleared h (Removing k e) (Slot p x) s size d may f =
    filled_slot V sh w (slot_number p) x size may.2.1.names.in_table (inl may.1) f
filled_after V sh w hand cleared h (Moving k) (Slot p x) s size d may f =
    let there : Stands V sh w k may.2.0 may.2.1 = may.2.2 in
    filled_slot V sh w (slot_number p) x size may.1.0 (inr (there.names.tag, may.2.1, there.names.is_tag, there.names.in_items, may.2.4 ∙ there.names.word)) f
filled_after V sh w hand cleared h (Moved k fresh) (Slot p x) s size d may f =
    filled_slot V sh w (slot_number p) x size may.3.1.names.in_table (inl may.1) f
filled_after V sh w hand cleared h _ (Slot p x) s size d may f = absurd may
filled_after V sh w hand cleared h _ Close s size d may f = absurd may

-- the versions
abbrev pub Versions : Shape → List ℕ → Option ℕ → Type 0
Versions sh w o = (t : ℕ) → t < sh.stripes → version w t % 2 ≡ odd_at sh o t

-- opening a deed makes the version of its key odd
versions_open : (V : ℕ) (sh : Shape) (w : List ℕ) (k : ℕ) → word_count V sh ≤ length w → IsShape sh → Versions sh w None → Versions sh (with_bump sh w k) (Some k)
versions_open V sh w k size s v t l =
    elim (cases_Bool (eqb (stripe_of sh k) t)) [
      | inl y ↦
          let e : stripe_of sh k ≡ t = eqb-true (stripe_of sh k) t y in
          let is : version (with_bump sh w k) t ≡ version w (stripe_of sh k) + 1 = subst (λ (z : ℕ). version (with_bump sh w k) z ≡ version w (stripe_of sh k) + 1) e (version-with_version_same w (stripe_of sh k) _ (omega (arith, stripe_of-lt sh k s))) in
          let even : version w (stripe_of sh k) % 2 ≡ 0 = v (stripe_of sh k) (stripe_of-lt sh k s) in
          rw (cond-true {A = ℕ} (eqb (stripe_of sh k) t) 1 0 y) (rw is (omega arith))
      | inr f ↦
          rw (cond-false {A = ℕ} (eqb (stripe_of sh k) t) 1 0 f) (rw (version-with_version_other w (stripe_of sh k) t _ (λ e. eqb-false (stripe_of sh k) t f (sym e))) (v t l))
    ]

-- closing it makes that version even
versions_close : (V : ℕ) (sh : Shape) (w : List ℕ) (k : ℕ) → word_count V sh ≤ length w → IsShape sh → Versions sh w (Some k) → Versions sh (with_bump sh w k) None
versions_close V sh w k size s v t l =
    elim (cases_Bool (eqb (stripe_of sh k) t)) [
      | inl y ↦
          let e : stripe_of sh k ≡ t = eqb-true (stripe_of sh k) t y in
          let is : version (with_bump sh w k) t ≡ version w (stripe_of sh k) + 1 = subst (λ (z : ℕ). version (with_bump sh w k) z ≡ version w (stripe_of sh k) + 1) e (version-with_version_same w (stripe_of sh k) _ (omega (arith, stripe_of-lt sh k s))) in
          let odd : version w t % 2 ≡ 1 = v t l ∙ cond-true {A = ℕ} (eqb (stripe_of sh k) t) 1 0 y in
          let there : version w (stripe_of sh k) ≡ version w t = ap (λ z. version w z) e in
          rw is (omega arith)
      | inr f ↦
          rw (version-with_version_other w (stripe_of sh k) t _ (λ e. eqb-false (stripe_of sh k) t f (sym e))) (v t l ∙ cond-false {A = ℕ} (eqb (stripe_of sh k) t) 1 0 f)
    ]

-- whether versions are even depends on the versions alone
versions_same : (sh : Shape) (w x : List ℕ) (o : Option ℕ) → ((t : ℕ) → t < sh.stripes → version x t ≡ version w t) → Versions sh w o → Versions sh x o
versions_same sh w x o same v t l = rw (same t l) (v t l)

-- the deed that was opened is the one that runs
running_opened : (sh : Shape) (w : List ℕ) (k : ℕ) (d : _) → Versions sh w (Some k) → Versions sh w (deed_key (first_phase k d))
running_opened sh w k deed.Fill v = v
running_opened sh w k deed.Renew v = v
running_opened sh w k deed.Remove v = v
running_opened sh w k deed.Evict v = v
running_opened sh w k deed.Move v = v

pub versions_after : (V : ℕ) (sh : Shape) (w : List ℕ) (hand : ℕ) (cleared : Option ℕ) (p : Phase) (a : Act) → IsShape sh → word_count V sh ≤ length w → MayFrom V sh w hand cleared p a → Versions sh w (deed_key p) → Versions sh (words_after V sh w p a) (deed_key (phase_after p a))
versions_after V sh w hand cleared Quiet (Open k d) s size may v = running_opened sh (with_bump sh w k) k d (versions_open V sh w k size s v)
versions_after V sh w hand cleared Quiet (Hand i) s size may v = v
versions_after V sh w hand cleared Quiet (Mark i) s size may v = v
versions_after V sh w hand cleared (Filling k) (Item i j x) s size may v = versions_same sh w _ (Some k) (λ t l. version-with_item V sh w i j x t l) v
versions_after V sh w hand cleared (Keyed k i xs) (Item g j x) s size may v = versions_same sh w _ (Some k) (λ t l. version-with_item V sh w g j x t l) v
versions_after V sh w hand cleared (Keyed k i xs) (Slot p x) s size may v = versions_same sh w _ (Some k) (λ t l. version-with_slot sh w _ x t l) v
versions_after V sh w hand cleared (Placed k i xs) Moment s size may v = versions_same sh w _ (Some k) (λ t l. version-with_moment w t _) v
versions_after V sh w hand cleared (Renewing k xs) (Item i j x) s size may v = versions_same sh w _ (Some k) (λ t l. version-with_item V sh w i j x t l) v
versions_after V sh w hand cleared (Renewing k xs) Moment s size may v = versions_same sh w _ (Some k) (λ t l. version-with_moment w t _) v
versions_after V sh w hand cleared (Removing k e) (Slot p x) s size may v = versions_same sh w _ (Some k) (λ t l. version-with_slot sh w _ x t l) v
versions_after V sh w hand cleared (Removed k e) Moment s size may v = versions_same sh w _ (Some k) (λ t l. version-with_moment w t _) v
versions_after V sh w hand cleared (Moving k) (Slot p x) s size may v = versions_same sh w _ (Some k) (λ t l. version-with_slot sh w _ x t l) v
versions_after V sh w hand cleared (Moved k fresh) (Slot p x) s size may v = versions_same sh w _ (Some k) (λ t l. version-with_slot sh w _ x t l) v
versions_after V sh w hand cleared (Closing k) Close s size may v = versions_close V sh w k size s v
versions_after V sh w hand cleared _ _ s size may v = absurd may
