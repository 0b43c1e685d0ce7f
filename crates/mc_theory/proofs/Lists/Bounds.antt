-- The bounds on versions, on the moment and on the hand hold at every front.
use Rattle.std.proofs.Common.{ℕ, ◌≡◌, ◌+◌, ◌<◌, List, [], ◌∷◌, length, take, refl, arith}
use Rattle.std.proofs.lemmas.List.{length-replicate}
use Rattle.mc_words.specs.Places.{version, word_count}
use Rattle.mc_words.specs.Shapes.{IsShape}
use Rattle.mc_words.specs.declared.shape.Shape.{Shape}
use Rattle.mc_theory.specs.Acts.{IsAllowed}
use Rattle.mc_theory.specs.Effects.{after_act, hand_after}
use Rattle.mc_theory.specs.Inner.{StateHolds, StateCounted}
use Rattle.mc_theory.specs.Laws.{CountsAlways, HandStays}
use Rattle.mc_theory.specs.Lists.{AreAllowed, IsLawful, Made, after_all, front, state_of}
use Rattle.mc_theory.specs.States.{State, opening}
use Rattle.mc_theory.specs.declared.act.Act.{Act}
use Rattle.mc_theory.specs.declared.act.Act.TheVariants.{Open, Slot, Item, Moment, Close, Hand, Mark}
use Rattle.mc_theory.proofs.Invariant.VersionSteps.{counted_after}
use Rattle.mc_theory.proofs.Lists.Fronts.{allowed_take}
use Rattle.mc_theory.proofs.Invariant.EachState.{zeros, holds_after, opening_holds}
use Rattle.mc_theory.proofs.Invariant.PlainParts.{length_after}

-- ---- the version changes
pub state_counted_after : {V : ℕ} (sh : Shape) (s : State V) (a : Act) (bit : ℕ) → IsShape sh → StateHolds sh s → IsAllowed sh s a → StateCounted sh s → StateCounted sh (after_act sh s a bit)
state_counted_after {V} sh s a bit shape i may c = counted_after V sh s.words s.hand s.cleared s.history s.version_steps s.phase a shape i.agrees.size may c

pub counted_all : {V : ℕ} (sh : Shape) (s : State V) (xs : List Made) → IsShape sh → StateHolds sh s → AreAllowed sh s xs → StateCounted sh s → StateCounted sh (after_all sh s xs)
counted_all sh s [] shape i l c = c
counted_all sh s (x ∷ xs) shape i l c = counted_all sh (after_act sh s x.act x.bit) xs shape (holds_after sh s x.act x.bit shape i l.0) l.1 (state_counted_after sh s x.act x.bit shape i l.0 c)

pub opening_counted : (V : ℕ) (sh : Shape) → StateCounted sh (opening V sh)
unfolding opening version
opening_counted V sh = record {
  versions = λ t l. rw (zeros (word_count V sh) (1 + t)) (omega arith);
  moments = omega arith;
}

pub front_counted : (V : ℕ) → CountsAlways V
unfolding front IsLawful
front_counted V sh acts f shape l = counted_all sh (opening V sh) (take f acts) shape (opening_holds V sh) (allowed_take sh (opening V sh) f acts l) (opening_counted V sh)

pub state_counted : (V : ℕ) (sh : Shape) (acts : List Made) → IsShape sh → IsLawful V sh acts → StateCounted sh (state_of V sh acts)
unfolding state_of IsLawful
state_counted V sh acts shape l = counted_all sh (opening V sh) acts shape (opening_holds V sh) l (opening_counted V sh)

-- ---- the hand
hand_in_after : (sh : Shape) (hand : ℕ) (a : Act) → IsShape sh → hand < sh.items → hand_after sh hand a < sh.items
hand_in_after sh hand (Hand i) s l = let some = s.items.0 in omega arith
hand_in_after sh hand (Open k d) s l = l
hand_in_after sh hand (Slot q x) s l = l
hand_in_after sh hand (Item i j x) s l = l
hand_in_after sh hand Moment s l = l
hand_in_after sh hand Close s l = l
hand_in_after sh hand (Mark i) s l = l

pub hand_all : {V : ℕ} (sh : Shape) (s : State V) (xs : List Made) → IsShape sh → s.hand < sh.items → (after_all sh s xs).hand < sh.items
hand_all sh s [] shape l = l
hand_all sh s (x ∷ xs) shape l = hand_all sh (after_act sh s x.act x.bit) xs shape (hand_in_after sh s.hand x.act shape l)

pub front_hand : (V : ℕ) → HandStays V
unfolding front opening
front_hand V sh acts f shape l = hand_all sh (opening V sh) (take f acts) shape (let some = shape.items.0 in omega arith)

pub state_hand : (V : ℕ) (sh : Shape) (acts : List Made) → IsShape sh → (state_of V sh acts).hand < sh.items
unfolding state_of opening
state_hand V sh acts shape = hand_all sh (opening V sh) acts shape (let some = shape.items.0 in omega arith)

-- ---- the number of words
pub length_all : {V : ℕ} (sh : Shape) (s : State V) (xs : List Made) → length (after_all sh s xs).words ≡ length s.words
length_all sh s [] = refl
length_all {V} sh s (x ∷ xs) =
    let one : length (after_act sh s x.act x.bit).words ≡ length s.words = length_after V sh s.words s.phase x.act in
    let rest : length (after_all sh (after_act sh s x.act x.bit) xs).words ≡ length (after_act sh s x.act x.bit).words = length_all sh (after_act sh s x.act x.bit) xs in
    omega (arith, one, rest)

pub opening_length : (V : ℕ) (sh : Shape) → length (opening V sh).words ≡ word_count V sh
unfolding opening
opening_length V sh = length-replicate {A = ℕ} (word_count V sh) 0

pub front_length : (V : ℕ) (sh : Shape) (acts : List Made) (f : ℕ) → length (front V sh acts f).words ≡ word_count V sh
unfolding front
front_length V sh acts f = omega (arith, length_all sh (opening V sh) (take f acts), opening_length V sh)

pub state_length : (V : ℕ) (sh : Shape) (acts : List Made) → length (state_of V sh acts).words ≡ word_count V sh
unfolding state_of
state_length V sh acts = omega (arith, length_all sh (opening V sh) acts, opening_length V sh)
