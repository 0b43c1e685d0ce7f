-- The fronts of one lawful list of acts.
use Rattle.std.proofs.Common.{ℕ, zero, suc, ◌≡◌, ◌+◌, ◌-◌, ◌%◌, ◌<◌, ◌≤◌, List, [], ◌∷◌, ◌++◌, length, take, drop, refl, sym, ◌∙◌, ap, subst, arith}
use Rattle.std.proofs.Math.Seq.{take-add}
use Rattle.std.proofs.lemmas.List.{take_all, take-append-le}
use Rattle.mc_words.specs.Keys.{stripe_of}
use Rattle.mc_words.specs.Places.{version}
use Rattle.mc_words.specs.Shapes.{IsShape}
use Rattle.mc_words.specs.declared.shape.Shape.{Shape}
use Rattle.mc_theory.specs.Acts.{IsAllowed}
use Rattle.mc_theory.specs.Effects.{after_act}
use Rattle.mc_theory.specs.Inner.{StateHolds}
use Rattle.mc_theory.specs.Lists.{AreAllowed, IsLawful, Made, after_all, front, state_of}
use Rattle.mc_theory.specs.States.{State, opening}
use Rattle.mc_theory.proofs.Invariant.EachState.{opening_holds}
use Rattle.mc_theory.proofs.Lists.KeptWhileEven.{Kept, holds_all, kept_all, version_grows_all}

-- the acts of two lists, one after the other
pub after_all-append : {V : ℕ} (sh : Shape) (s : State V) (xs ys : List Made) → after_all sh s (xs ++ ys) ≡ after_all sh (after_all sh s xs) ys
after_all-append sh s [] ys = refl
after_all-append sh s (x ∷ xs) ys = after_all-append sh (after_act sh s x.act x.bit) xs ys

-- a list that is allowed, and one act more that is
pub allowed_push : {V : ℕ} (sh : Shape) (s : State V) (xs : List Made) (x : Made) → AreAllowed sh s xs → IsAllowed sh (after_all sh s xs) x.act → AreAllowed sh s (xs ++ x ∷ [])
allowed_push sh s [] x l a = (a, tt)
allowed_push sh s (y ∷ ys) x l a = (l.0, allowed_push sh (after_act sh s y.act y.bit) ys x l.1 a)

-- the first acts of a list that is allowed, and those after them
pub allowed_take : {V : ℕ} (sh : Shape) (s : State V) (f : ℕ) (xs : List Made) → AreAllowed sh s xs → AreAllowed sh s (take f xs)
allowed_take sh s zero xs l = tt
allowed_take sh s (suc f) [] l = tt
allowed_take sh s (suc f) (x ∷ xs) l = (l.0, allowed_take sh (after_act sh s x.act x.bit) f xs l.1)

-- the rest of an allowed list is allowed after its first part
pub allowed_drop : {V : ℕ} (sh : Shape) (s : State V) (f : ℕ) (xs : List Made) → AreAllowed sh s xs → AreAllowed sh (after_all sh s (take f xs)) (drop f xs)
allowed_drop sh s zero xs l = l
allowed_drop sh s (suc f) [] l = tt
allowed_drop sh s (suc f) (x ∷ xs) l = allowed_drop sh (after_act sh s x.act x.bit) f xs l.1

-- ---- the state after a list, and its fronts
pub state_none : (V : ℕ) (sh : Shape) → state_of V sh [] ≡ opening V sh
unfolding state_of
state_none V sh = refl

-- the state after one more act is that act on the state before
pub state_push : (V : ℕ) (sh : Shape) (acts : List Made) (m : Made) → state_of V sh (acts ++ m ∷ []) ≡ after_act sh (state_of V sh acts) m.act m.bit
unfolding state_of
state_push V sh acts m = after_all-append sh (opening V sh) acts (m ∷ [])

-- the front of all acts is the state after them
pub front_all : (V : ℕ) (sh : Shape) (acts : List Made) (f : ℕ) → length acts ≤ f → front V sh acts f ≡ state_of V sh acts
unfolding front state_of
front_all V sh acts f l = ap (λ y. after_all sh (opening V sh) y) (take_all f acts l)

-- a longer list has the same old fronts
pub front_append : (V : ℕ) (sh : Shape) (acts more : List Made) (f : ℕ) → f ≤ length acts → front V sh (acts ++ more) f ≡ front V sh acts f
unfolding front
front_append V sh acts more f l = ap (λ y. after_all sh (opening V sh) y) (take-append-le f acts more l)

-- the state of a list, and of more acts after it
pub state_append : (V : ℕ) (sh : Shape) (acts more : List Made) → state_of V sh (acts ++ more) ≡ after_all sh (state_of V sh acts) more
unfolding state_of
state_append V sh acts more = after_all-append sh (opening V sh) acts more

-- the front of all acts is the state after them in a longer list too
pub front_old : (V : ℕ) (sh : Shape) (acts more : List Made) → front V sh (acts ++ more) (length acts) ≡ state_of V sh acts
front_old V sh acts more = front_append V sh acts more (length acts) (omega arith) ∙ front_all V sh acts (length acts) (omega arith)

-- ---- lawful lists
pub lawful_none : (V : ℕ) (sh : Shape) → IsLawful V sh []
unfolding IsLawful
lawful_none V sh = tt

-- a lawful list may continue with an act that is allowed
pub lawful_push : (V : ℕ) (sh : Shape) (acts : List Made) (m : Made) → IsLawful V sh acts → IsAllowed sh (state_of V sh acts) m.act → IsLawful V sh (acts ++ m ∷ [])
unfolding IsLawful state_of
lawful_push V sh acts m l a = allowed_push sh (opening V sh) acts m l a

-- the invariant holds at each front
pub front_holds : (V : ℕ) (sh : Shape) (xs : List Made) (f : ℕ) → IsShape sh → IsLawful V sh xs → StateHolds sh (front V sh xs f)
unfolding front IsLawful
front_holds V sh xs f shape l = holds_all sh (opening V sh) (take f xs) shape (opening_holds V sh) (allowed_take sh (opening V sh) f xs l)

pub state_holds : (V : ℕ) (sh : Shape) (acts : List Made) → IsShape sh → IsLawful V sh acts → StateHolds sh (state_of V sh acts)
unfolding state_of IsLawful
state_holds V sh acts shape l = holds_all sh (opening V sh) acts shape (opening_holds V sh) l

-- ---- from one front to a later one
-- the acts between two fronts
pub between : List Made → ℕ → ℕ → List Made
between xs f g = take (g - f) (drop f xs)

-- a later front is an earlier one and the acts between
pub front_between : (V : ℕ) (sh : Shape) (xs : List Made) (f g : ℕ) → f ≤ g → front V sh xs g ≡ after_all sh (front V sh xs f) (between xs f g)
unfolding between front
front_between V sh xs f g l =
    let e : g ≡ f + (g - f) = omega arith in
    ap (λ y. after_all sh (opening V sh) (take y xs)) e ∙ ap (λ y. after_all sh (opening V sh) y) (take-add f (g - f) xs) ∙ after_all-append sh (opening V sh) (take f xs) (take (g - f) (drop f xs))

-- which are allowed from there
lawful_between : (V : ℕ) (sh : Shape) (xs : List Made) (f g : ℕ) → IsLawful V sh xs → AreAllowed sh (front V sh xs f) (between xs f g)
unfolding between front IsLawful
lawful_between V sh xs f g l = allowed_take sh (front V sh xs f) (g - f) (drop f xs) (allowed_drop sh (opening V sh) f xs l)

-- versions do not fall
pub versions_rise : (V : ℕ) (sh : Shape) (xs : List Made) (f g t : ℕ) → IsShape sh → IsLawful V sh xs → f ≤ g → t < sh.stripes → version (front V sh xs f).words t ≤ version (front V sh xs g).words t
versions_rise V sh xs f g t shape l le below =
    subst (λ (s : State V). version (front V sh xs f).words t ≤ version s.words t) (sym (front_between V sh xs f g le))
    (version_grows_all sh (front V sh xs f) (between xs f g) t shape (front_holds V sh xs f shape l) (lawful_between V sh xs f g l) below)

-- between two fronts at which the version of a key's stripe is the same even number, nothing of the key changes
pub kept_while_even : (V : ℕ) (sh : Shape) (xs : List Made) (f g k : ℕ) → IsShape sh → IsLawful V sh xs → f ≤ g → version (front V sh xs f).words (stripe_of sh k) % 2 ≡ 0 → version (front V sh xs g).words (stripe_of sh k) ≡ version (front V sh xs f).words (stripe_of sh k) → Kept sh (front V sh xs f) (front V sh xs g) k
kept_while_even V sh xs f g k shape l le even e =
    let same = front_between V sh xs f g le in
    subst (λ (s : State V). Kept sh (front V sh xs f) s k) (sym same)
    (kept_all sh (front V sh xs f) (between xs f g) k shape (front_holds V sh xs f shape l) (lawful_between V sh xs f g l) even (ap (λ (s : State V). version s.words (stripe_of sh k)) (sym same) ∙ e))
