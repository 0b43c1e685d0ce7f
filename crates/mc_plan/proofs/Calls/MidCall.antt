-- A planned call, act by act.
use Rattle.std.proofs.Common.{ℕ, zero, suc, ◌≡◌, ◌+◌, ◌<◌, ◌≤◌, ◌∙◌, List, [], ◌∷◌, ◌++◌, Option, Some, None, Ok, Err, ap, refl, sym, subst, add-one, get_or, take, length, arith, append_assoc, append-nil}
use Rattle.std.specs.Borrow.{Bor}
use Rattle.std.specs.List.{HoldsAt}
use Rattle.std.specs.Option.{IfSome, MatchOption, option_copied}
use Rattle.std.specs.Prelude.{slice_get}
use Rattle.std.proofs.lemmas.List.{map-append}
use Rattle.std.proofs.lemmas.Option.{slice_get_past, slice_get_read}
use Rattle.mc_plan.specs.declared.answer.Put.TheVariants.{Renewed, Stored}
use Rattle.mc_plan.specs.declared.answer.Put.{Put}
use Rattle.mc_words.specs.declared.policy.Policy.TheVariants.{Clock, ScanResistant}
use Rattle.mc_words.specs.declared.policy.Policy.{Policy}
use Rattle.mc_words.specs.Checks.{policy_of, shape_of}
use Rattle.mc_words.specs.declared.shape.Shape.{Shape}
use Rattle.mc_words.specs.Places.{IsWidth}
use Rattle.mc_theory.specs.Acts.{IsAllowed, IsAllowedByClock, KeepsClock, MayFrom}
use Rattle.mc_theory.specs.Effects.{after_act, version_steps_after, phase_after}
use Rattle.mc_theory.specs.Lists.{Made, AreAllowed, after_all}
use Rattle.mc_theory.specs.Phases.{Phase, Quiet, Filling, Keyed, Placed, Renewing, Removing, Removed, Moving, Moved, Closing, first_phase, close_owed}
use Rattle.mc_theory.specs.States.{State}
use Rattle.mc_theory.specs.Traces.{HasVersionSteps}
use Rattle.mc_theory.specs.declared.act.Act.{Act}
use Rattle.mc_theory.specs.declared.act.Act.TheVariants.{Open, Slot, Item, Moment, Close, Hand, Mark}
use Rattle.mc_theory.specs.declared.act.Deed.{Deed}
use Rattle.mc_theory.specs.declared.act.Deed.TheVariants as deed
use Rattle.mc_theory.proofs.Lists.Fronts.{after_all-append}
use Rattle.mc_plan.specs.declared.answer.Answer.{Answer}
use Rattle.mc_plan.specs.declared.answer.Answer.TheVariants as answer
use Rattle.mc_plan.specs.declared.books.Books.{Books}
use Rattle.mc_plan.specs.declared.clerk.Clerk.{Clerk}
use Rattle.mc_plan.specs.declared.clerk.Stage.{Stage}
use Rattle.mc_plan.specs.declared.clerk.Stage.TheVariants.{Idle, Sweeping, Planned}
use Rattle.mc_plan.specs.WholeCalls.{Answered, AnsweredBy, Call, KeptCall, PutCall, PutIfCall, RemoveCall, IsOfDeed, AreOfDeeds, IsSweepOf, Means, Marks, MarksLast, MarksPut, acts_of, state_after_sweep}
use Rattle.mc_plan.specs.Books.{AreBooksOf, IsPlanned}
use Rattle.mc_plan.specs.Clerks.{IsAtStage, IsOn, HasCall, Knows, MakesPlan, StageHasCall, next_act, next_in, shape_of_clerk}
use Rattle.mc_plan.specs.Making.{IsQuiet, as_made, state_after_acts}
use Rattle.mc_search.specs.Sweeps.{Swept, hand_acts}

-- ---- the bit of an act that is none of the hand does nothing
abbrev IsStill : Act → Type 0
IsStill (Hand i) = ⊥
IsStill _ = Unit {0}

abbrev pub AreStill : List Act → Type 0
AreStill [] = Unit {0}
AreStill (a ∷ acts) = IsStill a × AreStill acts

-- the bit that is read says nothing about an act that is no turn of the hand
any_bit : {V : ℕ} (sh : Shape) (s : State V) (a : Act) (bit : ℕ) → IsStill a → after_act sh s a bit ≡ after_act sh s a 0
any_bit sh s (Open k d) bit still = refl
any_bit sh s (Slot p x) bit still = refl
any_bit sh s (Item i j x) bit still = refl
any_bit sh s Moment bit still = refl
any_bit sh s Close bit still = refl
any_bit sh s (Mark i) bit still = refl
any_bit sh s (Hand i) bit still = absurd still

-- so such acts lead to the same state with any bits
pub same_state : (V : ℕ) (sh : Shape) (s : State V) (acts : List Made) → AreStill (acts_of acts) → after_all sh s acts ≡ state_after_acts V sh s (acts_of acts)
same_state V sh s [] still = refl
same_state V sh s (m ∷ ms) still =
    ap (λ (t : State V). after_all sh t ms) (any_bit sh s m.act m.bit still.0) ∙ same_state V sh (after_act sh s m.act 0) ms still.1

-- and are allowed with any bits
pub same_allowed : (V : ℕ) (sh : Shape) (s : State V) (acts : List Made) → AreStill (acts_of acts) → AreAllowed sh s (as_made (acts_of acts)) → AreAllowed sh s acts
same_allowed V sh s [] still may = tt
same_allowed V sh s (m ∷ ms) still may =
    (may.0, subst (λ (t : State V). AreAllowed sh t ms) (sym (any_bit sh s m.act m.bit still.0)) (same_allowed V sh (after_act sh s m.act 0) ms still.1 may.1))

-- an act of a deed is no turn of the hand
still_deed : (a : Act) → IsOfDeed a → IsStill a
still_deed (Open k d) o = tt
still_deed (Slot p x) o = tt
still_deed (Item i j x) o = tt
still_deed Moment o = tt
still_deed Close o = tt
still_deed (Mark i) o = absurd o
still_deed (Hand i) o = absurd o

-- nor is any of a list of them
still_deeds : (acts : List Act) → AreOfDeeds acts → AreStill acts
still_deeds [] o = tt
still_deeds (a ∷ acts) o = (still_deed a o.0, still_deeds acts o.1)

-- nor any of two such lists
still_then : (xs ys : List Act) → AreStill xs → AreStill ys → AreStill (xs ++ ys)
still_then [] ys a b = b
still_then (x ∷ xs) ys a b = (a.0, still_then xs ys a.1 b)

-- nor any of the first of them
pub still_take : (n : ℕ) (acts : List Act) → AreStill acts → AreStill (take n acts)
still_take zero acts a = tt
still_take (suc n) [] a = tt
still_take (suc n) (x ∷ acts) a = (a.0, still_take n acts a.1)

-- no act after the sweep is one of the hand
still_last : (V : ℕ) (sh : Shape) (w : List ℕ) (k : ℕ) (acts : List Act) → MarksLast V sh w k acts → AreStill acts
still_last V sh w k acts m = subst AreStill (sym m.last) (still_then m.before (Mark m.item ∷ []) (still_deeds m.before m.deeds) (tt, tt))

still_put : (policy : Policy) (V : ℕ) (sh : Shape) (w : List ℕ) (k : ℕ) (told : Put) (acts : List Act) → MarksPut policy V sh w k told acts → AreStill acts
still_put Clock V sh w k told acts m = still_last V sh w k acts m
still_put ScanResistant V sh w k (Renewed at) acts m = still_last V sh w k acts m
still_put ScanResistant V sh w k (Stored at moves evicted) acts m = still_deeds acts m

pub still_marks : (V : ℕ) (sh : Shape) (policy : Policy) (w : List ℕ) (call : Call) (told : Answer) (acts : List Act) → Marks V sh policy w call told acts → AreStill acts
still_marks V sh policy w (PutCall k v) (answer.Put (Ok put)) acts m = still_put policy V sh w k put acts m
still_marks V sh policy w (PutCall k v) (answer.Put (Err why)) acts m = still_deeds acts m
still_marks V sh policy w (PutCall k v) (answer.PutIf told) acts m = absurd m
still_marks V sh policy w (PutCall k v) (answer.Remove told) acts m = absurd m
still_marks V sh policy w (PutIfCall k since v) (answer.PutIf (Ok at)) acts m = still_last V sh w k acts m
still_marks V sh policy w (PutIfCall k since v) (answer.PutIf (Err why)) acts m = still_deeds acts m
still_marks V sh policy w (PutIfCall k since v) (answer.Put told) acts m = absurd m
still_marks V sh policy w (PutIfCall k since v) (answer.Remove told) acts m = absurd m
still_marks V sh policy w (PutCall k v) (answer.Kept told) acts m = absurd m
still_marks V sh policy w (PutIfCall k since v) (answer.Kept told) acts m = absurd m
still_marks V sh policy w (RemoveCall k) told acts m = still_deeds acts m
still_marks V sh policy w (KeptCall k v) (answer.Kept (Ok put)) acts m = still_put policy V sh w k put acts m
still_marks V sh policy w (KeptCall k v) (answer.Kept (Err why)) acts m = still_deeds acts m
still_marks V sh policy w (KeptCall k v) (answer.Put told) acts m = absurd m
still_marks V sh policy w (KeptCall k v) (answer.PutIf told) acts m = absurd m
still_marks V sh policy w (KeptCall k v) (answer.Remove told) acts m = absurd m

-- an act that is none of the hand keeps CLOCK's order
still_keeps : {V : ℕ} (sh : Shape) (s : State V) (a : Act) → IsStill a → KeepsClock sh s a
still_keeps sh s (Hand i) still = absurd still
still_keeps sh s (Open k d) still = tt
still_keeps sh s (Slot p x) still = tt
still_keeps sh s (Item i j x) still = tt
still_keeps sh s Moment still = tt
still_keeps sh s Close still = tt
still_keeps sh s (Mark i) still = tt

still_next : (acts : List Act) (n : ℕ) (a : Act) → AreStill acts → slice_get acts n ≡ Some a → IsStill a
still_next [] n a still e = absurd (cc)
still_next (x ∷ xs) zero a still e = let is : x ≡ a = cc in subst IsStill is still.0
still_next (x ∷ xs) (suc n) a still e = still_next xs n a still.1 e

-- ---- the next act
pub allowed_next : (V : ℕ) (sh : Shape) (s : State V) (acts : List Act) (n : ℕ) (a : Act) → AreAllowed sh s (as_made acts) → slice_get acts n ≡ Some a → IsAllowed sh (state_after_acts V sh s (take n acts)) a
allowed_next V sh s [] n a l e = absurd (cc)
allowed_next V sh s (x ∷ xs) zero a l e = let is : x ≡ a = cc in subst (λ (y : Act). IsAllowed {V = V} sh s y) is l.0
allowed_next V sh s (x ∷ xs) (suc n) a l e = allowed_next V sh (after_act sh s x 0) xs n a l.1 e

-- one more act of the plan is the one at that place
pub take_next : (acts : List Act) (n : ℕ) (a : Act) → slice_get acts n ≡ Some a → take (suc n) acts ≡ take n acts ++ a ∷ []
take_next [] n a e = absurd (cc)
take_next (x ∷ xs) zero a e = let is : x ≡ a = cc in ap (λ (y : Act). y ∷ []) is
take_next (x ∷ xs) (suc n) a e = ap (λ (ys : List Act). x ∷ ys) (take_next xs n a e)

-- which is within the plan
pub next_below : (acts : List Act) (n : ℕ) (a : Act) → slice_get acts n ≡ Some a → n < length acts
next_below [] n a e = absurd (cc)
next_below (x ∷ xs) zero a e = omega arith
next_below (x ∷ xs) (suc n) a e = let l = next_below xs n a e in omega arith

-- if there is none, all were made
pub none_left : (acts : List Act) (n : ℕ) → slice_get acts n ≡ None → take n acts ≡ acts
none_left [] zero e = refl
none_left [] (suc n) e = refl
none_left (x ∷ xs) zero e = absurd (cc)
none_left (x ∷ xs) (suc n) e = ap (λ (ys : List Act). x ∷ ys) (none_left xs n e)

-- ---- an open leaves room for its close
-- the version changes, with that of the close that is to come
tally : {V : ℕ} → State V → ℕ
tally s = s.version_steps + close_owed s.phase

-- no act takes from the tally
tally_act : (V : ℕ) (sh : Shape) (w : List ℕ) (hand : ℕ) (cleared : Option ℕ) (p : Phase) (a : Act) (c : ℕ) → MayFrom V sh w hand cleared p a → c + close_owed p ≤ version_steps_after c a + close_owed (phase_after p a)
tally_act V sh w hand cleared Quiet (Open k d) c may = omega arith
tally_act V sh w hand cleared Quiet (Hand g) c may = omega arith
tally_act V sh w hand cleared Quiet (Mark g) c may = omega arith
tally_act V sh w hand cleared (Filling k) (Item g j x) c may = omega arith
tally_act V sh w hand cleared (Keyed k f xs) (Item g j x) c may = omega arith
tally_act V sh w hand cleared (Keyed k f xs) (Slot p x) c may = omega arith
tally_act V sh w hand cleared (Placed k f xs) Moment c may = omega arith
tally_act V sh w hand cleared (Renewing k xs) (Item g j x) c may = omega arith
tally_act V sh w hand cleared (Renewing k xs) Moment c may = omega arith
tally_act V sh w hand cleared (Removing k e) (Slot p x) c may = omega arith
tally_act V sh w hand cleared (Removed k e) Moment c may = omega arith
tally_act V sh w hand cleared (Moving k) (Slot p x) c may = omega arith
tally_act V sh w hand cleared (Moved k f) (Slot p x) c may = omega arith
tally_act V sh w hand cleared (Closing k) Close c may = omega arith
tally_act V sh w hand cleared _ _ c may = absurd may

-- nor do more of them
tally_all : (V : ℕ) (sh : Shape) (s : State V) (acts : List Act) → AreAllowed sh s (as_made acts) → tally s ≤ tally (state_after_acts V sh s acts)
unfolding tally
tally_all V sh s [] may = omega arith
tally_all V sh s (a ∷ acts) may =
    let one = tally_act V sh s.words s.hand s.cleared s.phase a s.version_steps may.0 in
    omega (arith, one, tally_all V sh (after_act sh s a 0) acts may.1)

-- a deed that is opened owes its close
opened_runs : (k : ℕ) (d : Deed) → close_owed (first_phase k d) ≡ 1
opened_runs k deed.Fill = refl
opened_runs k deed.Renew = refl
opened_runs k deed.Remove = refl
opened_runs k deed.Evict = refl
opened_runs k deed.Move = refl

-- so an opening that is closed in the end takes two version steps
open_closes : (V : ℕ) (sh : Shape) (s : State V) (acts : List Act) (n k : ℕ) (d : Deed) → AreAllowed sh s (as_made acts) → slice_get acts n ≡ Some (Open k d) → (state_after_acts V sh s acts).phase ≡ Quiet
    → (state_after_acts V sh s (take n acts)).version_steps + 2 ≤ (state_after_acts V sh s acts).version_steps
unfolding tally
open_closes V sh s [] n k d may e quiet = absurd (cc)
open_closes V sh s (x ∷ xs) zero k d may e quiet =
    let is : x ≡ Open k d = cc in
    let grows = tally_all V sh (after_act sh s x 0) xs may.1 in
    let opens : close_owed (phase_after s.phase x) ≡ 1 = ap (λ (y : Act). close_owed (phase_after s.phase y)) is ∙ opened_runs k d in
    let counts : version_steps_after s.version_steps x ≡ s.version_steps + 1 = ap (λ (y : Act). version_steps_after s.version_steps y) is in
    let ends : close_owed (state_after_acts V sh s (x ∷ xs)).phase ≡ 0 = ap close_owed quiet in
    omega (arith, grows, opens, counts, ends)
open_closes V sh s (x ∷ xs) (suc n) k d may e quiet = open_closes V sh (after_act sh s x 0) xs n k d may.1 e quiet

-- if the end is within the limit, each act has the version steps that it needs
pub changes_left : (V : ℕ) (sh : Shape) (s : State V) (acts : List Act) (n : ℕ) (a : Act) (limit : ℕ) → AreAllowed sh s (as_made acts) → slice_get acts n ≡ Some a → (state_after_acts V sh s acts).phase ≡ Quiet → (state_after_acts V sh s acts).version_steps ≤ limit
    → HasVersionSteps limit (state_after_acts V sh s (take n acts)).version_steps a
changes_left V sh s acts n (Open k d) limit may e quiet l = let c = open_closes V sh s acts n k d may e quiet in omega arith
changes_left V sh s acts n (Slot p x) limit may e quiet l = tt
changes_left V sh s acts n (Item i j x) limit may e quiet l = tt
changes_left V sh s acts n Moment limit may e quiet l = tt
changes_left V sh s acts n Close limit may e quiet l = tt
changes_left V sh s acts n (Hand i) limit may e quiet l = tt
changes_left V sh s acts n (Mark i) limit may e quiet l = tt

-- what the slice of a plan gives at a place
pub copied_is : (xs : List Act) (n : ℕ) (r : Option (Bor Act)) → IfSome r (λ x. x.now ≡ get_or xs n x.now) → MatchOption r (length xs ≤ n) (λ x. (n < length xs) × HoldsAt (λ y. x.now ≡ y) xs n) → option_copied r ≡ slice_get xs n
copied_is xs n None read m = sym (slice_get_past xs n m)
copied_is xs n (Some x) read m = sym (slice_get_read xs (length xs) n x.now refl m.0 read)

-- ---- a plan that is being made
-- acts that are allowed, and then others
pub allowed_then : (V : ℕ) (sh : Shape) (s : State V) (xs ys : List Made) → AreAllowed sh s xs → AreAllowed sh (after_all sh s xs) ys → AreAllowed sh s (xs ++ ys)
allowed_then V sh s [] ys a b = b
allowed_then V sh s (m ∷ ms) ys a b = (a.0, allowed_then V sh (after_act sh s m.act m.bit) ms ys a.1 b)

module _ (V : ℕ) (b : Books) (plan : List Act) (many : ℕ) (call : Call) (s : State V) (acts : List Made) (told : Answer) (makes : MakesPlan V b plan many call s acts told) where
  abbrev pub sh : Shape
  sh = shape_of b.checked

  abbrev pub mid : State V
  mid = state_after_sweep V sh s makes.sweep

  still_on : AreStill (acts_of makes.others)
  still_on = subst AreStill (sym makes.done) (still_take many plan (still_marks V sh (policy_of b.checked) _ call told plan makes.planned.marks))

  -- the state now is that after the sweep and the first acts of the plan
  pub state_now : after_all sh s acts ≡ state_after_acts V sh mid (take many plan)
  state_now =
      ap (λ (xs : List Made). after_all sh s xs) makes.parts ∙ after_all-append sh s (hand_acts makes.sweep) makes.others
      ∙ same_state V sh mid makes.others still_on ∙ ap (λ (xs : List Act). state_after_acts V sh mid xs) makes.done

  -- the act that comes next is allowed, and an open leaves two version changes within the limit
  pub plan_may : (r : Option Act) → r ≡ slice_get plan many → IfSome r (λ a. IsAllowedByClock sh (after_all sh s acts) a × HasVersionSteps sh.limit (after_all sh s acts).version_steps a)
  plan_may None e = tt
  plan_may (Some a) e =
      let planned = makes.planned in
      let may = allowed_next V sh mid plan many a planned.allowed (sym e) in
      let room = changes_left V sh mid plan many a sh.limit planned.allowed (sym e) planned.ends.quiet.quiet planned.ends.limit in
      let still = still_next plan many a (still_marks V sh (policy_of b.checked) _ call told plan planned.marks) (sym e) in
      subst (λ (t : State V). IsAllowedByClock sh t a × HasVersionSteps sh.limit t.version_steps a) (sym state_now) ((may, still_keeps {V = V} sh (state_after_acts V sh mid (take many plan)) a still), room)

  -- one act more was made
  pub plan_next : (a : Act) (bit : ℕ) → slice_get plan many ≡ Some a → MakesPlan V b plan (many + 1) call s (acts ++ record { act = a; bit = bit } ∷ []) told
  plan_next a bit at =
      let m : Made = record { act = a; bit = bit } in
      let below = next_below plan many a at in
      record {
        sweep = makes.sweep;
        others = makes.others ++ m ∷ [];
        parts = ap (λ (xs : List Made). xs ++ m ∷ []) makes.parts ∙ append_assoc (hand_acts makes.sweep) makes.others (m ∷ []);
        hands = makes.hands;
        sweeps = makes.sweeps;
        planned = makes.planned;
        fits = makes.fits;
        within = omega arith;
        done = map-append (λ (m : Made). m.act) makes.others (m ∷ []) ∙ ap (λ (xs : List Act). xs ++ a ∷ []) makes.done ∙ rw add-one (sym (take_next plan many a at));
      }

-- a sweep and then all acts of a plan are a whole call
pub whole_plan : (V : ℕ) (b : Books) (plan : List Act) (call : Call) (s : State V) (rs : List Swept) (others : List Made) (told : Answer) → AreAllowed (shape_of b.checked) s (hand_acts rs) → IsSweepOf V (shape_of b.checked) (policy_of b.checked) s rs told
    → IsPlanned V b plan call s (state_after_sweep V (shape_of b.checked) s rs) told → acts_of others ≡ plan
    → AnsweredBy V (shape_of b.checked) (policy_of b.checked) call s (hand_acts rs ++ others) told × (after_all (shape_of b.checked) s (hand_acts rs ++ others) ≡ state_after_acts V (shape_of b.checked) (state_after_sweep V (shape_of b.checked) s rs) plan)
whole_plan V b plan call s rs others told hands sweeps p done =
    let sh = shape_of b.checked in
    let mid = state_after_sweep V sh s rs in
    let still : AreStill (acts_of others) = subst AreStill (sym done) (still_marks V sh (policy_of b.checked) _ call told plan p.marks) in
    let now : after_all sh s (hand_acts rs ++ others) ≡ state_after_acts V sh mid plan = after_all-append sh s (hand_acts rs) others ∙ same_state V sh mid others still ∙ ap (λ (xs : List Act). state_after_acts V sh mid xs) done in
    let rest = same_allowed V sh mid others still (subst (λ (xs : List Act). AreAllowed sh mid (as_made xs)) (sym done) p.allowed) in (
      record {
        sweep = rs;
        others = others;
        parts = refl;
        allowed = allowed_then V sh s (hand_acts rs) others hands rest;
        quiet = subst (λ (t : State V). IsQuiet V sh t) (sym now) p.ends.quiet;
        means = subst (λ (t : State V). Means sh call told s t) (sym now) p.means;
        sweeps = sweeps;
        marks = subst (λ (xs : List Act). Marks V sh (policy_of b.checked) (after_all sh s (hand_acts rs ++ others)).words call told xs) (sym done) (subst (λ (t : State V). Marks V sh (policy_of b.checked) t.words call told plan) (sym now) p.marks);
      },
      now,
    )

-- a plan that was made after a sweep, and none of its acts
pub planned_after : (V : ℕ) (b : Books) (plan : List Act) (many : ℕ) (call : Call) (s : State V) (rs : List Swept) (told : Answer) (sh : Shape) → sh ≡ shape_of b.checked → AreAllowed sh s (hand_acts rs) → IsSweepOf V sh (policy_of b.checked) s rs told
    → IsPlanned V b plan call s (state_after_sweep V sh s rs) told → length plan ≤ 64 → many ≡ 0 → MakesPlan V b plan many call s (hand_acts rs) told
planned_after V b plan many call s rs told sh same hands sweeps planned fits none =
    subst (λ (y : Shape). AreAllowed y s (hand_acts rs) → IsSweepOf V y (policy_of b.checked) s rs told → IsPlanned V b plan call s (state_after_sweep V y s rs) told → MakesPlan V b plan many call s (hand_acts rs) told) (sym same)
    (λ hands sweeps planned. record {
      sweep = rs;
      others = [];
      parts = sym (append-nil (hand_acts rs));
      hands = hands;
      sweeps = sweeps;
      planned = planned;
      fits = fits;
      within = omega arith;
      done = rw none refl;
    }) hands sweeps planned

-- ---- a clerk in a call
-- a clerk that has planned makes its plan
pub at_stage : (V : ℕ) (clerk : Clerk V) (call : Call) (s : State V) (acts : List Made) (told : Answer) → IsOn V clerk call s acts → clerk.stage ≡ Planned told → MakesPlan V clerk.books clerk.plan.items clerk.made call s acts told
at_stage V clerk call s acts told on is = subst (λ (st : Stage V). IsAtStage V st clerk.books clerk.plan.items clerk.made call s acts) is on.now

-- a clerk that is in a call runs
runs_at : (V : ℕ) (st : Stage V) (b : Books) (plan : List Act) (many : ℕ) (call : Call) (s : State V) (acts : List Made) → IsAtStage V st b plan many call s acts → StageHasCall st
runs_at V Idle b plan many call s acts now = absurd now
runs_at V (Sweeping waiting) b plan many call s acts now = now.2
runs_at V (Planned told) b plan many call s acts now = tt

-- a clerk that is on a call has one
pub on_runs : (V : ℕ) (clerk : Clerk V) (call : Call) (s : State V) (acts : List Made) → IsOn V clerk call s acts → HasCall {V = V} clerk
unfolding HasCall
on_runs V clerk call s acts on = runs_at V clerk.stage clerk.books clerk.plan.items clerk.made call s acts on.now

-- its values have V words
width_at : (V : ℕ) (st : Stage V) (b : Books) (plan : List Act) (many : ℕ) (call : Call) (s : State V) (acts : List Made) → IsAtStage V st b plan many call s acts → IsWidth V
width_at V Idle b plan many call s acts now = absurd now
width_at V (Sweeping waiting) b plan many call s acts now = now.1.waits.known.width
width_at V (Planned told) b plan many call s acts now = now.planned.ends.width

pub on_width : (V : ℕ) (clerk : Clerk V) (call : Call) (s : State V) (acts : List Made) → IsOn V clerk call s acts → IsWidth V
on_width V clerk call s acts on = width_at V clerk.stage clerk.books clerk.plan.items clerk.made call s acts on.now

-- no act is left: the call is whole
pub whole_call : (V : ℕ) (clerk : Clerk V) (call : Call) (s : State V) (acts : List Made) (told : Answer) → IsOn V clerk call s acts → next_act clerk ≡ None → clerk.stage ≡ Planned told
    → Answered V (shape_of_clerk clerk) call s acts told × Knows V (record clerk { stage = Idle }) (after_all (shape_of_clerk clerk) s acts)
unfolding next_act
whole_call V clerk call s acts told on next is =
    let sh = shape_of_clerk clerk in
    let plan = clerk.plan.items in
    let makes = at_stage V clerk call s acts told on is in
    let at : slice_get plan clerk.made ≡ None = ap (λ (st : Stage V). next_in st plan clerk.made) (sym is) ∙ next in
    let whole = whole_plan V clerk.books plan call s makes.sweep makes.others told makes.hands makes.sweeps makes.planned (makes.done ∙ none_left plan clerk.made at) in
    let now : after_all sh s acts ≡ state_after_acts V sh (state_after_sweep V sh s makes.sweep) plan = ap (λ (xs : List Made). after_all sh s xs) makes.parts ∙ whole.1 in (
      subst (λ (p : Policy). AnsweredBy V sh p call s acts told) on.clock (subst (λ (xs : List Made). AnsweredBy V sh (policy_of clerk.books.checked) call s xs told) (sym makes.parts) whole.0),
      record { idle = refl; clock = on.clock; books = subst (λ (t : State V). AreBooksOf V clerk.books t) (sym now) makes.planned.ends },
    )

-- a call that was planned at once begins
pub begins : (V : ℕ) (clerk : Clerk V) (call : Call) (s : State V) (told : Answer) → clerk.stage ≡ Planned told → clerk.made ≡ 0 → length clerk.plan.items ≤ 64 → IsQuiet V (shape_of_clerk clerk) s → policy_of clerk.books.checked ≡ Clock
    → IsPlanned V clerk.books clerk.plan.items call s s told → IsSweepOf V (shape_of_clerk clerk) (policy_of clerk.books.checked) s [] told → IsOn V clerk call s []
begins V clerk call s told owes none fits quiet clock planned sweeps =
    let makes = planned_after V clerk.books clerk.plan.items clerk.made call s [] told (shape_of_clerk clerk) refl tt sweeps planned fits none in
    record { begun = quiet; clock = clock; now = subst (λ (st : Stage V). IsAtStage V st clerk.books clerk.plan.items clerk.made call s []) (sym owes) makes }
