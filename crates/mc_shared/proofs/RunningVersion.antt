-- The version of the running deed: which acts leave it as it is, what an open makes it, and what a close writes.
use Rattle.std.proofs.Common.{◌≡◌, ℕ, ◌+◌, ◌%◌, ◌<◌, ◌≤◌, Bool, eqb, eq-eqb, ne_eqb, refl, None, List, [], ◌∷◌, ◌++◌, length, ap, sym, ◌∙◌, subst, arith, Option, Some}
use Rattle.mc_words.specs.Keys.{stripe_of}
use Rattle.mc_words.specs.Places.{word_count, version_place, version, with_moment, with_slot, with_item}
use Rattle.mc_words.specs.Shapes.{IsShape}
use Rattle.mc_words.specs.declared.shape.Shape.{Shape}
use Rattle.mc_words.proofs.Keys.{stripe_of-lt}
use Rattle.mc_words.proofs.Places.{version-with_moment, version-with_version_same, version-with_slot, version-with_item}
use Rattle.mc_theory.specs.Acts.{IsAllowed, MayFrom}
use Rattle.mc_theory.specs.Effects.{phase_after, words_after, with_bump}
use Rattle.mc_theory.specs.Inner.{StateHolds}
use Rattle.mc_theory.specs.Lists.{IsLawful, Made, state_of}
use Rattle.mc_theory.specs.Phases.{Phase, Quiet, Filling, Keyed, Placed, Renewing, Removing, Removed, Moving, Moved, Closing, deed_key, first_phase}
use Rattle.mc_theory.specs.States.{State}
use Rattle.mc_theory.specs.Writes.{write_of}
use Rattle.mc_theory.specs.declared.act.Act.{Act}
use Rattle.mc_theory.specs.declared.act.Act.TheVariants.{Open, Slot, Item, Moment, Close, Hand, Mark}
use Rattle.mc_theory.specs.declared.act.Deed.{Deed}
use Rattle.mc_theory.specs.declared.act.Deed.TheVariants as deed
use Rattle.mc_theory.proofs.Lists.Bounds.{state_length}
use Rattle.mc_theory.proofs.Lists.Fronts.{state_push}
use Rattle.std.specs.Prelude.{if◌then◌else◌, slice_index}
use mathlib.Core.Logic.{dite}
use native.Mathlib.Decide.{ℕ_discrete}
use Rattle.mc_words.specs.Standing.{odd_at}
use Rattle.mc_theory.proofs.Lists.Fronts.{state_holds}
use Rattle.mc_shared.specs.SeatFacts.{IsRun}
use Rattle.mc_shared.specs.Records.{Opening, WriterRecord, HasActed}
use Rattle.mc_shared.specs.Running.{RunsAt, RunsIn, IsRunning}
use Rattle.mc_shared.specs.Views.{with_bit}
use Rattle.mc_shared.specs.declared.running.Running.{Running}

-- the act neither opens a deed nor closes one
abbrev pub IsInner : Act → Type 0
IsInner (Open k d) = ⊥
IsInner Close = ⊥
IsInner _ = Unit {0}

-- ---- words and phases
-- writing a slot leaves the running version
slot_keeps : (sh : Shape) (w : List ℕ) (q x k : ℕ) (r : Running) → IsShape sh → RunsAt sh w (Some k) r → RunsAt sh (with_slot sh w q x) (Some k) r
slot_keeps sh w q x k r s h = (h.0, h.1 ∙ sym (version-with_slot sh w q x (stripe_of sh k) (stripe_of-lt sh k s)))

-- so does writing a word of an item
item_keeps : (V : ℕ) (sh : Shape) (w : List ℕ) (i j x k : ℕ) (r : Running) → IsShape sh → RunsAt sh w (Some k) r → RunsAt sh (with_item V sh w i j x) (Some k) r
item_keeps V sh w i j x k r s h = (h.0, h.1 ∙ sym (version-with_item V sh w i j x (stripe_of sh k) (stripe_of-lt sh k s)))

-- so does counting a change
moment_keeps : (sh : Shape) (w : List ℕ) (x k : ℕ) (r : Running) → RunsAt sh w (Some k) r → RunsAt sh (with_moment w x) (Some k) r
moment_keeps sh w x k r h = (h.0, h.1 ∙ sym (version-with_moment w (stripe_of sh k) x))

-- so does every act that neither opens nor closes
inner_keeps : (V : ℕ) (sh : Shape) (w : List ℕ) (hand : ℕ) (cleared : Option ℕ) (p : Phase) (a : Act) (r : Running) → IsShape sh → IsInner a → MayFrom V sh w hand cleared p a → RunsAt sh w (deed_key p) r → RunsAt sh (words_after V sh w p a) (deed_key (phase_after p a)) r
inner_keeps V sh w hand cleared Quiet (Hand i) r s is may h = h
inner_keeps V sh w hand cleared Quiet (Mark i) r s is may h = h
inner_keeps V sh w hand cleared (Filling k) (Item i j x) r s is may h = item_keeps V sh w i j x k r s h
inner_keeps V sh w hand cleared (Keyed k i xs) (Item g j x) r s is may h = item_keeps V sh w g j x k r s h
inner_keeps V sh w hand cleared (Keyed k i xs) (Slot p x) r s is may h = slot_keeps sh w _ x k r s h
inner_keeps V sh w hand cleared (Placed k i xs) Moment r s is may h = moment_keeps sh w _ k r h
inner_keeps V sh w hand cleared (Renewing k xs) (Item i j x) r s is may h = item_keeps V sh w i j x k r s h
inner_keeps V sh w hand cleared (Renewing k xs) Moment r s is may h = moment_keeps sh w _ k r h
inner_keeps V sh w hand cleared (Removing k e) (Slot p x) r s is may h = slot_keeps sh w _ x k r s h
inner_keeps V sh w hand cleared (Removed k e) Moment r s is may h = moment_keeps sh w _ k r h
inner_keeps V sh w hand cleared (Moving k) (Slot p x) r s is may h = slot_keeps sh w _ x k r s h
inner_keeps V sh w hand cleared (Moved k fresh) (Slot p x) r s is may h = slot_keeps sh w _ x k r s h
inner_keeps V sh w hand cleared Quiet (Open k d) r s is may h = absurd is
inner_keeps V sh w hand cleared (Closing k) Close r s is may h = absurd is
inner_keeps V sh w hand cleared _ _ r s is may h = absurd may

-- an open makes it the version after that of the key's stripe
opens : (V : ℕ) (sh : Shape) (w : List ℕ) (k : ℕ) (d : Deed) (r : Running) → IsShape sh → word_count V sh ≤ length w → r.place ≡ version_place (stripe_of sh k) → r.count ≡ version w (stripe_of sh k) + 1 → RunsAt sh (with_bump sh w k) (deed_key (first_phase k d)) r
opens V sh w k d r s size here next =
    let t = stripe_of sh k in
    let below = stripe_of-lt sh k s in
    by_deed d (here, next ∙ sym (version-with_version_same w t (version w t + 1) (omega arith)))
  where
    by_deed : (d : Deed) → RunsAt sh (with_bump sh w k) (Some k) r → RunsAt sh (with_bump sh w k) (deed_key (first_phase k d)) r
    by_deed deed.Fill h = h
    by_deed deed.Renew h = h
    by_deed deed.Remove h = h
    by_deed deed.Evict h = h
    by_deed deed.Move h = h

-- where a close writes, and what
pub close_writes : (V : ℕ) (sh : Shape) (w : List ℕ) (hand : ℕ) (cleared : Option ℕ) (p : Phase) (r : Running) → MayFrom V sh w hand cleared p Close → RunsAt sh w (deed_key p) r → write_of V sh w p Close ≡ Some (r.place, r.count + 1)
close_writes V sh w hand cleared (Closing k) r may h = closing_writes h.0 h.1
  where
    closing_writes : r.place ≡ version_place (stripe_of sh k) → r.count ≡ version w (stripe_of sh k) → write_of V sh w (Closing k) Close ≡ Some (r.place, r.count + 1)
    closing_writes e f = ap Some (λ i. (sym e i, sym f i + 1))
close_writes V sh w hand cleared _ r may h = absurd may

-- ---- lists of acts
-- an act that neither opens nor closes leaves it
pub inner_runs : (V : ℕ) (sh : Shape) (acts : List Made) (a : Act) (b : ℕ) (r : Running) → IsShape sh → IsInner a → IsAllowed sh (state_of V sh acts) a → RunsIn sh (state_of V sh acts) r → RunsIn sh (state_of V sh (acts ++ with_bit a b ∷ [])) r
inner_runs V sh acts a b r s is may h =
    let before = state_of V sh acts in
    subst (λ (z : State V). RunsIn sh z r) (sym (state_push V sh acts (with_bit a b))) (inner_keeps V sh before.words before.hand before.cleared before.phase a r s is may h)

-- ---- records
-- after an act, from the acts before it
after_acted : {V : ℕ} {before after : WriterRecord} {a : Act} {b : ℕ} (r : Running) → HasActed before after a b → IsShape before.of.layout.shape → RunsIn before.of.layout.shape (state_of V before.of.layout.shape (before.acts ++ with_bit a b ∷ [])) r → IsRunning V after r
after_acted {V} {before} {after} {a} {b} r h s runs = record {
  shape = subst (λ (o : Opening). IsShape o.layout.shape) (sym h.of) s;
  runs = subst (λ (y : Opening × List Made). RunsIn y.0.layout.shape (state_of V y.0.layout.shape y.1) r) (λ i. (sym h.of i, sym h.acts i)) runs;
}

-- an open
pub opened_acted : {V : ℕ} {before after : WriterRecord} {k : ℕ} {d : Deed} {b : ℕ} (r : Running) → IsShape before.of.layout.shape → r.place ≡ version_place (stripe_of before.of.layout.shape k) → r.count ≡ version (state_of V before.of.layout.shape before.acts).words (stripe_of before.of.layout.shape k) + 1 → HasActed before after (Open k d) b → IsRunning V after r
opened_acted {V} {before} {after} {k} {d} {b} r s here next h =
    let sh = before.of.layout.shape in let st = state_of V sh before.acts in
    let long = state_length V sh before.acts in
    after_acted r h s (subst (λ (z : State V). RunsIn sh z r) (sym (state_push V sh before.acts (with_bit (Open k d) b))) (opens V sh st.words k d r s (omega arith) here next))

-- ---- the odd version
-- if the version of a stripe is odd, the running deed's key has this stripe
odd_is : (sh : Shape) (w : List ℕ) (running : Option ℕ) (t : ℕ) (r : Running) → r.place ≡ version_place t → r.count ≡ version w t → r.count % 2 ≡ 1 → version w t % 2 ≡ odd_at sh running t → RunsAt sh w running r
odd_is sh w None t r here is odd told = tt
odd_is sh w (Some k) t r here is odd told = dite (ℕ_discrete (stripe_of sh k) t)
    (λ same. (here ∙ ap version_place (sym same), is ∙ ap (version w) (sym same)))
    (λ other.
    let zero : ◌≡◌ {A = ℕ} (if eqb (stripe_of sh k) t then 1 else 0) 0 = ap (λ (b : Bool). if◌then◌else◌ {A = ℕ} b 1 0) (ne_eqb (stripe_of sh k) t other) in
    absurd (omega (arith, ap (λ (z : ℕ). z % 2) is, odd, told, zero)))

-- if the version of every stripe is even, no deed runs
even_is : (sh : Shape) (w : List ℕ) (running : Option ℕ) (r : Running) → IsShape sh → ((t : ℕ) → t < sh.stripes → version w t % 2 ≡ 0) → ((t : ℕ) → t < sh.stripes → version w t % 2 ≡ odd_at sh running t) → RunsAt sh w running r
even_is sh w None r s even told = tt
even_is sh w (Some k) r s even told =
    let t = stripe_of sh k in
    let below = stripe_of-lt sh k s in
    let one : ◌≡◌ {A = ℕ} (if eqb t t then 1 else 0) 1 = ap (λ (b : Bool). if◌then◌else◌ {A = ℕ} b 1 0) (eq-eqb t t refl) in
    absurd (omega (arith, even t below, told t below, one))

-- the word that was fetched from the place of a version is that version
pub fetched : (V : ℕ) (sh : Shape) (w w' : WriterRecord) (t n x : ℕ) → w' ≡ w → n ≡ version_place t → x ≡ slice_index (state_of V sh w'.acts).words n → x ≡ version (state_of V sh w.acts).words t
unfolding version
fetched V sh w w' t n x same here is = is ∙ λ i. slice_index (state_of V sh (same i).acts).words (here i)

module _ (V : ℕ) (w : WriterRecord) (o : Opening) (of : w.of ≡ o) (wide : o.layout.width ≡ V) (run : IsRun w.of.layout w.acts) where
  running_holds : StateHolds o.layout.shape (state_of V o.layout.shape w.acts)
  running_holds = let r = subst (λ (p : Opening). IsRun p.layout w.acts) of run in state_holds V o.layout.shape w.acts r.shape (subst (λ (v : ℕ). IsLawful v o.layout.shape w.acts) wide r.lawful)

  is_running : (r : Running) → RunsIn o.layout.shape (state_of V o.layout.shape w.acts) r → IsRunning V w r
  is_running r runs = record { shape = run.shape; runs = subst (λ (p : Opening). RunsIn p.layout.shape (state_of V p.layout.shape w.acts) r) (sym of) runs }

  -- so the odd version is that of the running deed
  pub odd_runs : (t : ℕ) (r : Running) → t < o.layout.shape.stripes → r.place ≡ version_place t → r.count ≡ version (state_of V o.layout.shape w.acts).words t → r.count % 2 ≡ 1 → IsRunning V w r
  odd_runs t r below here is odd =
      let s = state_of V o.layout.shape w.acts in
      is_running r (odd_is o.layout.shape s.words (deed_key s.phase) t r here is odd (running_holds.agrees.versions t below))

  -- and without one no deed runs
  pub none_odd : (r : Running) → ((t : ℕ) → t < o.layout.shape.stripes → version (state_of V o.layout.shape w.acts).words t % 2 ≡ 0) → IsRunning V w r
  none_odd r even =
      let s = state_of V o.layout.shape w.acts in
      is_running r (even_is o.layout.shape s.words (deed_key s.phase) r (subst (λ (p : Opening). IsShape p.layout.shape) of run.shape) even running_holds.agrees.versions)
