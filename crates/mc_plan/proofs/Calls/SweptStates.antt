-- What the readings of the hand make of a state.
use Rattle.std.proofs.Common.{ℕ, zero, suc, ◌≡◌, ◌+◌, ◌*◌, ◌%◌, ◌<◌, ◌∙◌, ◌⊎◌, inl, inr, List, [], ◌∷◌, ◌++◌, Option, Some, None, Bool, true, false, cond, eqb, ap, refl, sym, subst, arith, get_or, length, append_assoc, append-nil, length-append}
use Rattle.std.proofs.Math.Nat.{mod-add-mod, mod-lt, mod-eq_of_lt, add-mul-mod_self_right}
use Rattle.std.proofs.lemmas.Bool.{false≢true, ne_eqb}
use Rattle.std.specs.Option.{IsSome}
use Rattle.mc_words.specs.declared.shape.Shape.{Shape}
use Rattle.mc_words.specs.Shapes.{IsShape}
use Rattle.mc_words.specs.Standing.{HasFree}
use Rattle.mc_theory.specs.Acts.{IsAllowed, IsAllowedByClock, MayFrom}
use Rattle.mc_theory.specs.Effects.{after_act}
use Rattle.mc_theory.specs.Lists.{Made, AreAllowed, after_all}
use Rattle.mc_theory.specs.Phases.{Phase, Quiet}
use Rattle.mc_theory.specs.States.{State}
use Rattle.mc_theory.specs.declared.act.Act.TheVariants.{Hand}
use Rattle.mc_theory.proofs.Invariant.VersionSteps.{counted_after}
use Rattle.mc_theory.proofs.Invariant.EachState.{holds_after}
use Rattle.mc_search.specs.declared.sweep.Sweep.{Sweep}
use Rattle.mc_plan.specs.Making.{IsQuiet}
use Rattle.mc_search.specs.Sweeps.{Swept, HasSwept, IsOver, IsSearch, IsSweep, hand_acts, next_from, next_item, victim_of}
use Rattle.mc_search.proofs.SweepReadings.{sweep_push, victim_push}

-- ---- readings
-- the readings after the first are a search
search_tail : (items : ℕ) (r : Swept) (rs : List Swept) → IsSearch items (r ∷ rs) → IsSearch items rs
search_tail items r rs searches =
    let most = searches.most in
    record {
      inside = λ n d l. searches.inside (suc n) d (omega arith);
      most = omega arith;
      marked = λ n d l. searches.marked (suc n) d (omega arith);
    }

-- the readings after the first are a sweep from the item after
sweep_tail : (items hand : ℕ) (r : Swept) (rs : List Swept) → IsSweep items hand (r ∷ rs) → IsSweep items ((hand + 1) % items) rs
sweep_tail items hand r rs sweeps = record {
  searches = search_tail items r rs sweeps.searches;
  round = λ n d l.
      let on : hand + suc n ≡ hand + 1 + n = omega arith in
      sweeps.round (suc n) d (omega arith) ∙ ap (λ (m : ℕ). m % items) on ∙ sym (mod-add-mod (hand + 1) items n);
}

-- the first reading is of the item at the hand
sweep_first : (items hand : ℕ) (r : Swept) (rs : List Swept) → IsSweep items hand (r ∷ rs) → hand < items → r.item ≡ hand
sweep_first items hand r rs sweeps below =
    let at : r.item ≡ (hand + 0) % items = sweeps.round 0 r (omega arith) in
    let same : hand + 0 ≡ hand = omega arith in
    at ∙ ap (λ (m : ℕ). m % items) same ∙ mod-eq_of_lt below

-- a reading with another after it had its bit set
first_set : (items : ℕ) (r x : Swept) (rs : List Swept) → IsSearch items (r ∷ x ∷ rs) → eqb r.bit 0 ≡ false
first_set items r x rs searches = ne_eqb r.bit 0 (searches.marked 0 r (omega arith))

-- the hand has turned twice round and is where it was
pub swept_home : (items hand : ℕ) (rs : List Swept) → hand < items → length rs ≡ 2 * items → (hand + length rs) % items ≡ hand
swept_home items hand rs below twice =
    ap (λ (m : ℕ). (hand + m) % items) twice ∙ add-mul-mod_self_right hand 2 items ∙ mod-eq_of_lt below

-- a sweep that is over and has no victim went round twice
pub over_without : (items : ℕ) (rs : List Swept) → IsOver items rs → victim_of rs ≡ None → length rs ≡ 2 * items
over_without items rs over none =
    elim over [
      | inl some ↦ absurd (false≢true (subst (λ (o : Option ℕ). IsSome o) none some))
      | inr twice ↦ twice
    ]

-- what the first reading says of the victim
first_victim : (r : Swept) (rs : List Swept) (i : ℕ) → victim_of (r ∷ rs) ≡ Some i → ((eqb r.bit 0 ≡ true) × (r.item ≡ i)) ⊎ ((eqb r.bit 0 ≡ false) × (victim_of rs ≡ Some i))
first_victim r rs i found =
    let P : Bool → Type 0 = λ b. cond b (Some r.item) (victim_of rs) ≡ Some i → ((b ≡ true) × (r.item ≡ i)) ⊎ ((b ≡ false) × (victim_of rs ≡ Some i)) in
    let all : (b : Bool) → P b = λ b. elim b as P [ true ↦ λ e. inl (refl, cc) | false ↦ λ e. inr (refl, e) ] in
    all (eqb r.bit 0) found

-- the victim is the item of a reading
pub victim_holds : (P : ℕ → Type 0) (rs : List Swept) (i : ℕ) → ((n : ℕ) (d : Swept) → n < length rs → P (get_or rs n d).item) → victim_of rs ≡ Some i → P i
victim_holds P [] i all found = absurd (cc)
victim_holds P (r ∷ rs) i all found =
    elim (first_victim r rs i found) [
      | inl h ↦ subst P h.1 (all 0 r (omega arith))
      | inr h ↦ victim_holds P rs i (λ n d l. all (suc n) d (omega (arith, l))) h.1
    ]

-- so it is one of the items
pub victim_below : (items : ℕ) (rs : List Swept) (i : ℕ) → IsSearch items rs → victim_of rs ≡ Some i → i < items
victim_below items rs i searches found = victim_holds (λ j. j < items) rs i searches.inside found

-- what a sweep leaves to be read could all have its bits set
pub record CanGoOn (items hand : ℕ) (rs : List Swept) (n : ℕ) : Type 0 where
  pub more : List Swept
  pub sweeps : IsSweep items hand (rs ++ more)
  pub none : victim_of (rs ++ more) ≡ None
  pub many : length more ≡ n

-- a sweep without a victim can continue until it is whole
goes_on : (items hand : ℕ) (rs : List Swept) (n : ℕ) → IsSweep items hand rs → victim_of rs ≡ None → length rs + n ≡ 2 * items → CanGoOn items hand rs n
goes_on items hand rs zero sweeps none whole =
    let same = sym (append-nil rs) in
    record { more = []; sweeps = subst (IsSweep items hand) same sweeps; none = subst (λ (ys : List Swept). victim_of ys ≡ None) same none; many = refl }
goes_on items hand rs (suc n) sweeps none whole =
    let r : Swept = record { item = (hand + length rs) % items; bit = 1 } in
    let many : length (rs ++ r ∷ []) ≡ length rs + 1 = length-append rs (r ∷ []) in
    let rest = goes_on items hand (rs ++ r ∷ []) n (sweep_push items hand rs 1 sweeps none (omega arith)) (victim_push rs r none) (omega arith) in
    let same = append_assoc rs (r ∷ []) rest.more in
    let count = rest.many in
    record {
      more = r ∷ rest.more;
      sweeps = subst (IsSweep items hand) same rest.sweeps;
      none = subst (λ (ys : List Swept). victim_of ys ≡ None) same rest.none;
      many = omega arith;
    }

-- a sweep with a next item has no victim yet, and turns left
next_left : (v : Option ℕ) (left hand : ℕ) → IsSome (next_from v left hand) → (v ≡ None) × (0 < left)
next_left (Some j) left hand some = absurd (false≢true some)
next_left None zero hand some = absurd (false≢true some)
next_left None (suc left) hand some = (refl, omega arith)

-- so what is left of it may read no clear bit
pub rest_recent : (sweep : Sweep) (items hand : ℕ) (rs : List Swept) → HasSwept sweep items hand rs → IsSome (next_item sweep)
    → (more : List Swept) × IsSweep items hand (rs ++ more) × (length (rs ++ more) ≡ 2 * items) × (victim_of (rs ++ more) ≡ None) × (0 < length more)
unfolding next_item
rest_recent sweep items hand rs has next =
    let parts = next_left sweep.victim sweep.left sweep.hand next in
    let some = parts.1 in
    let left = has.left in
    let rest = goes_on items hand rs sweep.left has.sweeps (sym has.found ∙ parts.0) left in
    let many = rest.many in
    let both = length-append rs rest.more in
    (rest.more, rest.sweeps, omega arith, rest.none, omega arith)

-- ---- the acts of the hand
-- the acts of some readings, and then of others
pub hand_acts_then : (rs qs : List Swept) → hand_acts (rs ++ qs) ≡ hand_acts rs ++ hand_acts qs
hand_acts_then [] qs = refl
hand_acts_then (r ∷ rs) qs = ap (λ (ms : List Made). record { act = Hand r.item; bit = r.bit } ∷ ms) (hand_acts_then rs qs)

-- ---- the state after them
-- the hand writes no word of the table, and belongs to no deed
pub record StandsStill (V : ℕ) (s t : State V) : Type 0 where
  pub words : t.words ≡ s.words
  pub phase : t.phase ≡ s.phase
  pub history : t.history ≡ s.history
  pub version_steps : t.version_steps ≡ s.version_steps

-- a sweep changes no word, no deed, no history and no version
pub swept_still : (V : ℕ) (sh : Shape) (s : State V) (rs : List Swept) → StandsStill V s (after_all sh s (hand_acts rs))
swept_still V sh s [] = record { words = refl; phase = refl; history = refl; version_steps = refl }
swept_still V sh s (r ∷ rs) =
    let rest = swept_still V sh (after_act sh s (Hand r.item) r.bit) rs in
    record { words = rest.words; phase = rest.phase; history = rest.history; version_steps = rest.version_steps }

-- the hand has advanced by as many items as were read
pub swept_hand : (V : ℕ) (sh : Shape) (s : State V) (hand : ℕ) (rs : List Swept) → s.hand ≡ hand → IsSweep sh.items hand rs → hand < sh.items → (after_all sh s (hand_acts rs)).hand ≡ (hand + length rs) % sh.items
swept_hand V sh s hand [] at sweeps below = at ∙ sym (mod-eq_of_lt below) ∙ ap (λ (m : ℕ). m % sh.items) (omega arith)
swept_hand V sh s hand (r ∷ rs) at sweeps below =
    let first = sweep_first sh.items hand r rs sweeps below in
    swept_hand V sh (after_act sh s (Hand r.item) r.bit) ((hand + 1) % sh.items) rs (ap (λ (i : ℕ). (i + 1) % sh.items) first) (sweep_tail sh.items hand r rs sweeps) (mod-lt (hand + 1) (omega arith))
    ∙ mod-add-mod (hand + 1) sh.items (length rs) ∙ ap (λ (m : ℕ). m % sh.items) (omega arith)

-- wherever a search has led the hand, it is at one of the items
pub swept_below : (V : ℕ) (sh : Shape) (s : State V) (rs : List Swept) → s.hand < sh.items → (after_all sh s (hand_acts rs)).hand < sh.items
swept_below V sh s [] below = below
swept_below V sh s (r ∷ rs) below = swept_below V sh (after_act sh s (Hand r.item) r.bit) rs (mod-lt (r.item + 1) (omega (arith, below)))

-- the item that is cleared after it is its victim, if it has one
last_cleared : (V : ℕ) (sh : Shape) (s : State V) (items : ℕ) (r : Swept) (rs : List Swept) → IsSearch items (r ∷ rs) → (after_all sh s (hand_acts (r ∷ rs))).cleared ≡ victim_of (r ∷ rs)
last_cleared V sh s items r [] searches = refl
last_cleared V sh s items r (x ∷ rs) searches =
    last_cleared V sh (after_act sh s (Hand r.item) r.bit) items x rs (search_tail items r (x ∷ rs) searches)
    ∙ sym (ap (λ b. cond b (Some r.item) (victim_of (x ∷ rs))) (first_set items r x rs searches))

-- so the victim of a search is the item that is cleared after it
pub swept_cleared : (V : ℕ) (sh : Shape) (s : State V) (items : ℕ) (rs : List Swept) (i : ℕ) → IsSearch items rs → victim_of rs ≡ Some i → (after_all sh s (hand_acts rs)).cleared ≡ Some i
swept_cleared V sh s items [] i searches found = absurd (cc)
swept_cleared V sh s items (r ∷ rs) i searches found = last_cleared V sh s items r rs searches ∙ found

-- ---- which acts of the hand are allowed
-- the hand reads an item between two deeds
is_allowed : (V : ℕ) (sh : Shape) (s : State V) (i : ℕ) → s.phase ≡ Quiet → i < sh.items → IsAllowed sh s (Hand i)
is_allowed V sh s i quiet inside = subst (λ (p : Phase). MayFrom V sh s.words s.hand s.cleared p (Hand i)) (sym quiet) inside

-- each reading of a search is allowed while nothing runs
are_allowed : (V : ℕ) (sh : Shape) (s : State V) (rs : List Swept) → s.phase ≡ Quiet → IsSearch sh.items rs → AreAllowed sh s (hand_acts rs)
are_allowed V sh s [] quiet searches = tt
are_allowed V sh s (r ∷ rs) quiet searches =
    (is_allowed V sh s r.item quiet (searches.inside 0 r (omega arith)), are_allowed V sh (after_act sh s (Hand r.item) r.bit) rs quiet (search_tail sh.items r rs searches))

pub sweep_allowed : (V : ℕ) (sh : Shape) (s : State V) (rs : List Swept) → IsQuiet V sh s → IsSearch sh.items rs → AreAllowed sh s (hand_acts rs)
sweep_allowed V sh s rs quiet searches = are_allowed V sh s rs quiet.quiet searches

-- the next act of the hand is allowed too, and keeps CLOCK's order while no item is free
pub hand_next : (V : ℕ) (sh : Shape) (s : State V) (hand : ℕ) (rs : List Swept) (i : ℕ) → IsQuiet V sh s → (HasFree sh s.words → ⊥) → s.hand ≡ hand → IsSweep sh.items hand rs → hand < sh.items
    → i ≡ (hand + length rs) % sh.items → IsAllowedByClock sh (after_all sh s (hand_acts rs)) (Hand i)
hand_next V sh s hand rs i quiet full at sweeps below next =
    let still = swept_still V sh s rs in
    let inside : i < sh.items = subst (λ (x : ℕ). x < sh.items) (sym next) (mod-lt (hand + length rs) (omega (arith, below))) in (
      is_allowed V sh (after_all sh s (hand_acts rs)) i (still.phase ∙ quiet.quiet) inside,
      (λ free. full (subst (HasFree sh) still.words free), next ∙ sym (swept_hand V sh s hand rs at sweeps below)),
    )

-- the hand leaves a quiet state quiet
pub sweep_quiet : (V : ℕ) (sh : Shape) (s : State V) (rs : List Swept) → IsQuiet V sh s → IsShape sh → AreAllowed sh s (hand_acts rs) → IsQuiet V sh (after_all sh s (hand_acts rs))
sweep_quiet V sh s [] quiet shape may = quiet
sweep_quiet V sh s (r ∷ rs) quiet shape may =
    let next : IsQuiet V sh (after_act sh s (Hand r.item) r.bit) = record {
      quiet = quiet.quiet;
      holds = holds_after sh s (Hand r.item) r.bit shape quiet.holds may.0;
      counted = counted_after V sh s.words s.hand s.cleared s.history s.version_steps s.phase (Hand r.item) shape quiet.holds.agrees.size may.0 quiet.counted;
    } in
    sweep_quiet V sh (after_act sh s (Hand r.item) r.bit) rs next shape may.1
