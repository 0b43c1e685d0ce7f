-- Each allowed act keeps the invariant.
use Rattle.std.proofs.Common.{ℕ, ◌≡◌, ◌≢◌, ◌+◌, ◌/◌, ◌⊎◌, Bool, true, false, List, [], ◌∷◌, ◌++◌, length, Option, Some, None, ◌∙◌, ap, subst, inl, inr, arith}
use Rattle.std.proofs.lemmas.Bool.{cases_eq}
use Rattle.std.proofs.lemmas.List.{length_push}
use Rattle.mc_theory.proofs.Invariant.RunningDeed.{absent_on, begins_more, bucket_of_number, keyed_facts, moved_only, only-with_value, open_facts, placed_only, ready_more, removed_absent, stamped_more, twice_facts, unstamped}
use Rattle.mc_theory.proofs.Invariant.PlainParts.{filled_after, length_after, moment_after, versions_after}
use Rattle.mc_theory.proofs.Invariant.OtherKeys.{step_held, step_same}
use Rattle.mc_theory.specs.Acts.{MayFrom}
use Rattle.mc_theory.specs.Effects.{history_after, phase_after, removal_of, words_after}
use Rattle.mc_theory.specs.Inner.{DeedFacts}
use Rattle.mc_theory.specs.Phases.{Closing, Filling, Keyed, Moved, Moving, Phase, Placed, Quiet, Removed, Removing, Renewing, deed_key}
use Rattle.mc_words.proofs.Frames.{agrees_on, begins_on, only_on, same-with_moment, same-with_version}
use Rattle.mc_words.proofs.Keys.{stripe_of-lt}
use Rattle.mc_words.proofs.Maps.{held-evict, held-put, held-remove}
use Rattle.mc_words.proofs.Payload.{whole_payload}
use Rattle.mc_words.proofs.Places.{item-with_moment, item-with_slot}
use Rattle.mc_words.specs.History.{map_value, value_of}
use Rattle.mc_words.specs.Keys.{alternate, tag_of}
use Rattle.mc_words.specs.Places.{slot, slot_number}
use Rattle.mc_words.specs.Shapes.{IsShape}
use Rattle.mc_words.specs.Standing.{Agrees, AgreesAt, OnlyAt}
use Rattle.mc_theory.specs.declared.act.Act.{Act}
use Rattle.mc_words.specs.declared.history.Change.{Change}
use Rattle.mc_words.specs.declared.shape.Shape.{Shape}
use Rattle.mc_theory.specs.declared.act.Act.TheVariants.{Open, Slot, Item, Moment, Close, Hand, Mark}

-- a key that was taken out is no longer held
taken_out_held : {V : ℕ} (h : List (Change V)) (e : Bool) (k : ℕ) → map_value (h ++ removal_of e k ∷ []) k ≡ None
taken_out_held h true k = held-evict h k
taken_out_held h false k = held-remove h k

-- each act leaves what is known of the deed that then runs
pub deed_after : (V : ℕ) (sh : Shape) (w : List ℕ) (hand : ℕ) (cleared : Option ℕ) (h : List (Change V)) (p : Phase) (a : Act) → IsShape sh → Agrees V sh w (deed_key p) h → DeedFacts V sh w h p → MayFrom V sh w hand cleared p a → DeedFacts V sh (words_after V sh w p a) (history_after h p a) (phase_after p a)
deed_after V sh w hand cleared h Quiet (Open k u) s g d may =
    open_facts V sh w _ cleared h k u (same-with_version V sh w _ _ k (stripe_of-lt sh k s)) (g.keys k (λ e. cc)) may.0 may.1
deed_after V sh w hand cleared h Quiet (Hand i) s g d may = tt
deed_after V sh w hand cleared h Quiet (Mark i) s g d may = tt
deed_after V sh w hand cleared h (Filling k) (Item i j x) s g d may =
    rw (may.2, may.3) (keyed_facts V sh w k i g.size d.0 d.1 may.0 may.1, d.2, unstamped V h)
deed_after V sh w hand cleared h (Keyed k i xs) (Item f j x) s g d may =
    rw (may.0, may.1) (
      ready_more V sh w k i x xs g.size (omega (arith, may.1)) d.0,
      d.1,
      stamped_more V w h xs x g.at_moment (λ e. may.4 (omega (arith, may.1, e))),
    )
deed_after V sh w hand cleared h (Keyed k i xs) (Slot p x) s g d may = (
  (slot_number p, placed_only V sh w k i (slot_number p) x xs s g.size d.0 may.1 (rw (bucket_of_number p may.3) may.2) may.4),
  (may.0, begins_on V sh w _ i xs (λ j l. item-with_slot V sh w (slot_number p) x i j may.1.0) (omega (arith, may.0)) d.0.begins),
  d.1,
  d.2,
)
deed_after V sh w hand cleared h (Placed k i xs) Moment s g d may =
    rw (held-put h k (value_of V xs), whole_payload V (length h + 1) xs d.1.0 (d.3 d.1.0))
    (d.0.0, i, only_on V sh w _ k d.0.0 i (same-with_moment V sh w _ k) d.0.1, (d.1.0, λ j l. item-with_moment V sh w _ i (j + 1) ∙ d.1.1 j l))
deed_after V sh w hand cleared h (Renewing k xs) (Item i j x) s g d may =
    let only : OnlyAt V sh w k d.0.0 d.0.1 = d.0.2 in
    let is : i ≡ d.0.1 = (only.once may.3.0 i may.3.1).1 in
    rw (is, may.0) (
      (d.0.0, d.0.1, only-with_value V sh w k d.0.0 d.0.1 d.0.1 (length xs + 1) x (omega arith) (omega (arith, may.0)) only, begins_more V sh w d.0.1 x xs g.size only.stands.names.in_items (omega (arith, may.0)) d.0.3),
      omega (arith, may.0, length_push xs x),
      d.2,
      stamped_more V w h xs x g.at_moment (λ e. may.4 (omega (arith, may.0, e))),
    )
deed_after V sh w hand cleared h (Renewing k xs) Moment s g d may =
    rw (held-put h k (value_of V xs), whole_payload V (length h + 1) xs may (d.3 may))
    (d.0.0, d.0.1, only_on V sh w _ k d.0.0 d.0.1 (same-with_moment V sh w _ k) d.0.2, (may, λ j l. item-with_moment V sh w _ d.0.1 (j + 1) ∙ d.0.3 j l))
deed_after V sh w hand cleared h (Removing k e) (Slot p x) s g d may =
    (removed_absent V sh w k (slot_number p) x d.0.0 d.0.1 may.2.0 g.size may.1 d.0.2 may.2.1, d.1)
deed_after V sh w hand cleared h (Removed k e) Moment s g d may =
    rw (taken_out_held h e k) (absent_on V sh w _ k (same-with_moment V sh w _ k) d.0)
deed_after V sh w hand cleared h (Moving k) (Slot p x) s g d may =
    let at : AgreesAt V sh w k (Some d.0) = d.2 in
    let where_is = at.2.once may.2.0 may.2.1 may.2.2 in (
      d.0,
      d.1,
      twice_facts V sh w k (slot_number p) x at.0 at.1 d.0 s g.size may.1
          (bucket_of_number p may.0 ∙ may.2.3 ∙ ap (λ y. alternate sh (y / 4) (tag_of sh k)) where_is.0)
          (may.2.4 ∙ ap (λ y. slot sh w y) where_is.0) at.2 at.3,
    )
deed_after V sh w hand cleared h (Moved k fresh) (Slot p x) s g d may =
    rw d.1 (moved_only V sh w k fresh (slot_number p) x may.3.0 d.0 g.size may.1 may.2 d.2 may.3.1)
deed_after V sh w hand cleared h (Closing k) Close s g d may = tt
deed_after V sh w hand cleared h _ _ s g d may = absurd may

-- an option is this key or it is not
some_or_not : (o : Option ℕ) (k : ℕ) → (o ≡ Some k) ⊎ (o ≢ Some k)
some_or_not None k = inr (λ e. cc)
some_or_not (Some f) k = elim (cases_eq f k) [ inl e ↦ inl (ap Some e) | inr ne ↦ inr (λ e. ne (cc)) ]

-- the key of the deed that ends here
closed_keys : (V : ℕ) (sh : Shape) (w : List ℕ) (hand : ℕ) (cleared : Option ℕ) (h : List (Change V)) (k : ℕ) (p : Phase) (a : Act) → IsShape sh → DeedFacts V sh w h p → MayFrom V sh w hand cleared p a → deed_key p ≡ Some k → deed_key (phase_after p a) ≢ Some k → AgreesAt V sh (words_after V sh w p a) k (map_value (history_after h p a) k)
closed_keys V sh w hand cleared h k (Closing f) Close s d may e ne =
    let is : f ≡ k = cc in
    agrees_on V sh w _ k (map_value h k) (same-with_version V sh w _ _ k (stripe_of-lt sh f s)) (subst (λ (y : ℕ). AgreesAt V sh w y (map_value h y)) is d)
closed_keys V sh w hand cleared h k Quiet (Open f u) s d may e ne = absurd (cc)
closed_keys V sh w hand cleared h k Quiet (Hand i) s d may e ne = absurd (ne e)
closed_keys V sh w hand cleared h k Quiet (Mark i) s d may e ne = absurd (ne e)
closed_keys V sh w hand cleared h k (Filling f) (Item i j x) s d may e ne = absurd (ne e)
closed_keys V sh w hand cleared h k (Keyed f i xs) (Item g j x) s d may e ne = absurd (ne e)
closed_keys V sh w hand cleared h k (Keyed f i xs) (Slot p x) s d may e ne = absurd (ne e)
closed_keys V sh w hand cleared h k (Placed f i xs) Moment s d may e ne = absurd (ne e)
closed_keys V sh w hand cleared h k (Renewing f xs) (Item i j x) s d may e ne = absurd (ne e)
closed_keys V sh w hand cleared h k (Renewing f xs) Moment s d may e ne = absurd (ne e)
closed_keys V sh w hand cleared h k (Removing f u) (Slot p x) s d may e ne = absurd (ne e)
closed_keys V sh w hand cleared h k (Removed f u) Moment s d may e ne = absurd (ne e)
closed_keys V sh w hand cleared h k (Moving f) (Slot p x) s d may e ne = absurd (ne e)
closed_keys V sh w hand cleared h k (Moved f fresh) (Slot p x) s d may e ne = absurd (ne e)
closed_keys V sh w hand cleared h k _ _ s d may e ne = absurd may

-- each key but that of the deed agrees with the history after the act
pub keys_after : (V : ℕ) (sh : Shape) (w : List ℕ) (hand : ℕ) (cleared : Option ℕ) (h : List (Change V)) (p : Phase) (a : Act) → IsShape sh → Agrees V sh w (deed_key p) h → DeedFacts V sh w h p → MayFrom V sh w hand cleared p a → (k : ℕ) → deed_key (phase_after p a) ≢ Some k → AgreesAt V sh (words_after V sh w p a) k (map_value (history_after h p a) k)
keys_after V sh w hand cleared h p a s g d may k ne =
    elim (some_or_not (deed_key p) k) [
      | inl e ↦ closed_keys V sh w hand cleared h k p a s d may e ne
      | inr other ↦
          rw (step_held V sh w hand cleared h k p a may other)
          (agrees_on V sh w (words_after V sh w p a) k (map_value h k) (step_same V sh w hand cleared h k p a s g.size d may other) (g.keys k other))
    ]

-- so the words agree with the history after the act
pub agrees_after : (V : ℕ) (sh : Shape) (w : List ℕ) (hand : ℕ) (cleared : Option ℕ) (h : List (Change V)) (p : Phase) (a : Act) → IsShape sh → Agrees V sh w (deed_key p) h → DeedFacts V sh w h p → MayFrom V sh w hand cleared p a → Agrees V sh (words_after V sh w p a) (deed_key (phase_after p a)) (history_after h p a)
agrees_after V sh w hand cleared h p a s g d may = record {
  size = omega (arith, length_after V sh w p a, g.size);
  at_moment = moment_after V sh w hand cleared h p a g.size g.at_moment may;
  filled = filled_after V sh w hand cleared h p a s g.size d may g.filled;
  versions = versions_after V sh w hand cleared p a s g.size may g.versions;
  keys = keys_after V sh w hand cleared h p a s g d may;
}
