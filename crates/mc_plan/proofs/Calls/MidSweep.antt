-- A put for which the hand looks for an item, reading by reading.
use Rattle.std.proofs.Common.{ℕ, ◌≡◌, ◌≢◌, ◌<◌, ◌∙◌, List, [], ◌∷◌, ◌++◌, Option, Some, None, ap, refl, sym, subst, arith}
use Rattle.std.specs.Option.{IfSome, is_some}
use Rattle.std.specs.Prelude.{IsSome}
use Rattle.mc_words.specs.Checks.{shape_of}
use Rattle.mc_words.specs.Standing.{HasFree}
use Rattle.mc_theory.specs.Acts.{IsAllowedByClock}
use Rattle.mc_theory.specs.Lists.{Made, AreAllowed, after_all}
use Rattle.mc_theory.specs.States.{State}
use Rattle.mc_theory.specs.Traces.{HasVersionSteps}
use Rattle.mc_theory.specs.declared.act.Act.{Act}
use Rattle.mc_theory.specs.declared.act.Act.TheVariants.{Hand}
use Rattle.mc_plan.specs.declared.books.Books.{Books}
use Rattle.mc_plan.specs.declared.clerk.Clerk.{Clerk}
use Rattle.mc_plan.specs.declared.clerk.Stage.{Stage}
use Rattle.mc_plan.specs.declared.clerk.Stage.TheVariants.{Sweeping}
use Rattle.mc_search.specs.declared.room.Room.{Room}
use Rattle.mc_search.specs.declared.sweep.Sweep.{Sweep}
use Rattle.mc_plan.specs.declared.waiting.Waiting.{Waiting}
use Rattle.mc_plan.specs.WholeCalls.{Call, state_after_sweep}
use Rattle.mc_plan.specs.Books.{IsSweeping, Waits}
use Rattle.mc_plan.specs.Clerks.{IsAtStage, IsOn, hand_of, next_act, next_in, shape_of_clerk}
use Rattle.mc_search.specs.Sweeps.{Swept, HasSwept, hand_acts, next_item}
use Rattle.mc_search.proofs.SweepReadings.{next_parts, next_some}
use Rattle.mc_plan.proofs.Puts.NamedItems.{full_has_none}
use Rattle.mc_plan.proofs.Calls.SweptStates.{hand_acts_then, hand_next, sweep_allowed, swept_still}

-- no item is free
none_free : (V : ℕ) (b : Books) (k : ℕ) (v : List ℕ) (s : State V) (room : Room) → Waits V b k v s room → HasFree (shape_of b.checked) s.words → ⊥
none_free V b k v s room waits = full_has_none (shape_of b.checked) s.words (λ i l. waits.known.named i l (waits.none i))

module _ (V : ℕ) (b : Books) (waiting : Waiting V) (call : Call) (s : State V) (rs : List Swept) (on : IsSweeping V b waiting call s rs) where
  full : HasFree (shape_of b.checked) s.words → ⊥
  full = none_free V b waiting.key waiting.value s waiting.room on.waits

  -- the readings are allowed one after the other
  pub hands_may : AreAllowed (shape_of b.checked) s (hand_acts rs)
  hands_may = sweep_allowed V (shape_of b.checked) s rs on.waits.known.quiet on.has.sweeps.searches

  -- the hand reads at most twice as many bits as there are items, round from its item
  pub hand_may : (i : ℕ) → next_item waiting.sweep ≡ Some i → IsAllowedByClock (shape_of b.checked) (state_after_sweep V (shape_of b.checked) s rs) (Hand i)
  unfolding next_item
  hand_may i next =
      let parts = next_parts waiting.sweep.victim waiting.sweep.left waiting.sweep.hand i next in
      hand_next V (shape_of b.checked) s s.hand rs i on.waits.known.quiet full refl on.has.sweeps on.has.start (parts.2 ∙ on.has.stands)

  -- the next reading is allowed
  next_hand : (o : Option ℕ) → o ≡ next_item waiting.sweep → IfSome (hand_of o) (λ a. IsAllowedByClock (shape_of b.checked) (state_after_sweep V (shape_of b.checked) s rs) a × HasVersionSteps (shape_of b.checked).limit (state_after_sweep V (shape_of b.checked) s rs).version_steps a)
  next_hand None e = tt
  next_hand (Some i) e = (hand_may i (sym e), tt)

  next_of_sweep : (r : Option Act) → r ≡ hand_of (next_item waiting.sweep) → IfSome r (λ a. IsAllowedByClock (shape_of b.checked) (state_after_sweep V (shape_of b.checked) s rs) a × HasVersionSteps (shape_of b.checked).limit (state_after_sweep V (shape_of b.checked) s rs).version_steps a)
  next_of_sweep r e =
      subst (λ (o : Option Act). IfSome o (λ a. IsAllowedByClock (shape_of b.checked) (state_after_sweep V (shape_of b.checked) s rs) a × HasVersionSteps (shape_of b.checked).limit (state_after_sweep V (shape_of b.checked) s rs).version_steps a)) (sym e) (next_hand (next_item waiting.sweep) refl)

  -- a sweep with other readings
  pub sweep_on : (sweep : Sweep) (qs : List Swept) → HasSwept sweep (shape_of b.checked).items s.hand qs → IsSweeping V b (record waiting { sweep = sweep }) call s qs
  sweep_on sweep qs has = record { waits = on.waits; called = on.called; clock = on.clock; has = has }

-- a sweep that has read nothing has an item to read
starts : (sweep : Sweep) (items hand : ℕ) → HasSwept sweep items hand [] → IsSome (next_item sweep)
unfolding next_item
starts sweep items hand has =
    let some : 0 < items = omega (arith, has.start) in
    let left : sweep.left ≢ 0 = λ e. absurd (omega (arith, has.left, e, some)) in
    subst (λ (o : Option ℕ). IsSome o) (sym (next_some sweep.victim sweep.left sweep.hand (ap is_some has.found) left)) refl

-- a put that waits for an item begins
pub begins_sweep : (V : ℕ) (clerk : Clerk V) (call : Call) (s : State V) (waiting : Waiting V) → clerk.stage ≡ Sweeping waiting → clerk.made ≡ 0 → clerk.plan.items ≡ [] → IsSweeping V clerk.books waiting call s [] → IsOn V clerk call s []
begins_sweep V clerk call s waiting is none empty on = record {
  begun = on.waits.known.quiet;
  clock = on.clock;
  now = subst (λ (st : Stage V). IsAtStage V st clerk.books clerk.plan.items clerk.made call s []) (sym is) ([], on, starts waiting.sweep (shape_of_clerk clerk).items s.hand on.has, none, refl, empty);
}

-- ---- a clerk whose hand looks for an item
at_sweep : (V : ℕ) (clerk : Clerk V) (call : Call) (s : State V) (acts : List Made) (waiting : Waiting V) → IsOn V clerk call s acts → clerk.stage ≡ Sweeping waiting → IsAtStage V (Sweeping waiting) clerk.books clerk.plan.items clerk.made call s acts
at_sweep V clerk call s acts waiting on is = subst (λ (st : Stage V). IsAtStage V st clerk.books clerk.plan.items clerk.made call s acts) is on.now

-- the act that comes next is allowed
pub sweep_may : (V : ℕ) (clerk : Clerk V) (call : Call) (s : State V) (acts : List Made) (waiting : Waiting V) (r : Option Act) → IsOn V clerk call s acts → clerk.stage ≡ Sweeping waiting → r ≡ hand_of (next_item waiting.sweep)
    → IfSome r (λ a. IsAllowedByClock (shape_of_clerk clerk) (after_all (shape_of_clerk clerk) s acts) a × HasVersionSteps (shape_of_clerk clerk).limit (after_all (shape_of_clerk clerk) s acts).version_steps a)
sweep_may V clerk call s acts waiting r on is next =
    let sh = shape_of_clerk clerk in
    let now = at_sweep V clerk call s acts waiting on is in
    subst (λ (xs : List Made). IfSome r (λ a. IsAllowedByClock sh (after_all sh s xs) a × HasVersionSteps sh.limit (after_all sh s xs).version_steps a)) (sym now.4)
    (next_of_sweep V clerk.books waiting call s now.0 now.1 r next)

-- what was read once the next bit was
pub record HasRead (V : ℕ) (clerk : Clerk V) (waiting : Waiting V) (sweep : Sweep) (call : Call) (s : State V) (acts : List Made) : Type 0 where
  pub readings : List Swept
  pub sweeping : IsSweeping V clerk.books (record waiting { sweep = sweep }) call s readings
  pub are : acts ≡ hand_acts readings
  pub none : clerk.made ≡ 0
  pub empty : clerk.plan.items ≡ []

-- the act of a sweep is a turn of the hand to its next item
hand_is : (o : Option ℕ) (a : Act) → hand_of o ≡ Some a → (i : ℕ) × (o ≡ Some i) × (Hand i ≡ a)
hand_is None a e = absurd (cc)
hand_is (Some i) a e = (i, refl, cc)

-- one turn more of the hand is one reading more of the sweep
pub one_read : (V : ℕ) (clerk : Clerk V) (call : Call) (s : State V) (acts : List Made) (waiting : Waiting V) (a : Act) (bit : ℕ) (sweep : Sweep) → IsOn V clerk call s acts → clerk.stage ≡ Sweeping waiting → next_act clerk ≡ Some a
    → ((items hand : ℕ) (rs : List Swept) (i : ℕ) → HasSwept waiting.sweep items hand rs → next_item waiting.sweep ≡ Some i → HasSwept sweep items hand (rs ++ record { item = i; bit = bit } ∷ [])) → HasRead V clerk waiting sweep call s (acts ++ record { act = a; bit = bit } ∷ [])
unfolding next_act
one_read V clerk call s acts waiting a bit sweep on is next reads =
    let now = at_sweep V clerk call s acts waiting on is in
    let rs = now.0 in
    let hand = hand_is (next_item waiting.sweep) a (ap (λ (st : Stage V). next_in st clerk.plan.items clerk.made) (sym is) ∙ next) in
    let r : Swept = record { item = hand.0; bit = bit } in
    record {
      readings = rs ++ r ∷ [];
      sweeping = sweep_on V clerk.books waiting call s rs now.1 sweep (rs ++ r ∷ []) (reads (shape_of_clerk clerk).items s.hand rs hand.0 now.1.has hand.1);
      are = ap (λ (xs : List Made). xs ++ record { act = a; bit = bit } ∷ []) now.4 ∙ ap (λ (x : Act). hand_acts rs ++ record { act = x; bit = bit } ∷ []) (sym hand.2) ∙ sym (hand_acts_then rs (r ∷ []));
      none = now.3;
      empty = now.5;
    }

-- the hand wrote no word
pub words_read : (V : ℕ) (clerk : Clerk V) (waiting : Waiting V) (sweep : Sweep) (call : Call) (s : State V) (acts : List Made) (w : List ℕ) → HasRead V clerk waiting sweep call s acts → w ≡ (after_all (shape_of_clerk clerk) s acts).words → w ≡ s.words
words_read V clerk waiting sweep call s acts w read is =
    is ∙ ap (λ (xs : List Made). (after_all (shape_of_clerk clerk) s xs).words) read.are ∙ (swept_still V (shape_of_clerk clerk) s read.readings).words
