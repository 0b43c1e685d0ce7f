-- A reading leads from one stage of a lookup to the next: what is left before it is that reading and what is left after it.
use Rattle.std.proofs.Common.{ℕ, zero, suc, ◌≡◌, ◌≢◌, ◌+◌, ◌*◌, ◌%◌, ◌-◌, ◌<◌, ◌≤◌, List, [], ◌∷◌, ◌++◌, length, take, drop, Some, None, refl, sym, ◌∙◌, ap, subst, inl, inr, arith, length-set}
use Rattle.std.proofs.lemmas.Bool.{cases_lt, cond_below, cond_above}
use Rattle.std.specs.Prelude.{◌↔◌, slice_set, IfSome}
use Rattle.std.proofs.lemmas.Grind.{take-set_at}
use Rattle.std.proofs.lemmas.List.{length-take, take_all, take-append-le}
use Rattle.mc_words.specs.Keys.{first_of, second_of, stripe_of, tag_of}
use Rattle.mc_words.proofs.Keys.{first_of-lt, alternate-lt}
use Rattle.mc_words.proofs.Payload.{payload_is, since_of-push, value_of-push}
use Rattle.mc_words.specs.Places.{payload, IsPlace}
use Rattle.mc_words.specs.Shapes.{IsShape}
use Rattle.mc_words.specs.declared.history.Reply.{Reply}
use Rattle.mc_words.specs.declared.history.Reply.TheVariants.{Found}
use Rattle.mc_words.specs.declared.place.Place.{Place}
use Rattle.mc_words.specs.declared.shape.Shape.{Shape}
use Rattle.mc_theory.specs.Lookups.{TagMatches, MarksHit, reply_of, slots_for, IsLookup}
use Rattle.mc_lookup.specs.Machine.{next_at, next_access, shape_for, held_by, place_in, slots_from, values_from, IsRemainderAt, IsRemainder, steps_at, Consumes}
use Rattle.mc_lookup.specs.Inside.Machine.{Restarts}
use Rattle.mc_theory.specs.Readings.{Reading}
use Rattle.mc_lookup.specs.Rest.{RemainderAtSlots, RemainderAtValues, RemainderAtStamp, RemainderAtMoment, RemainderAtLast}
use Rattle.mc_theory.specs.declared.access.Access.{Access}
use Rattle.mc_theory.specs.declared.access.Access.TheVariants as access
use Rattle.mc_lookup.specs.declared.lookup.Lookup.{Lookup}
use Rattle.mc_lookup.specs.declared.stage.Stage.{Stage}
use Rattle.mc_lookup.specs.declared.stage.Stage.TheVariants.{Slot, Key, Value, Stamp, Moment}
use Rattle.mc_lookup.proofs.StageLaws.{feed_even, feed_odd, feed_other, feed_meet, feed_none, feed_value, feed_full, feed_same, feed_stamp}

-- two facts of which each follows from the other
pub both_trans : {A B C : Type 0} → A ↔ B → B ↔ C → A ↔ C
both_trans p q = (λ a. q.0 (p.0 a), λ c. p.1 (q.1 c))

-- from the stages before and after a reading to the lookups
pub takes_at : {V : ℕ} (old new : Lookup V) (st after : Stage) (a : Access) (w : ℕ) → old.stage ≡ st → new.stage ≡ after → new.checked ≡ old.checked → new.key ≡ old.key →
    ((f : ℕ) (rs : List Reading) (reply : Reply V) → IsRemainderAt V (shape_for {V = V} old) old.key new.tries new.version (held_by {V = V} new) new.reply after rs reply ↔ IsRemainderAt V (shape_for {V = V} old) old.key old.tries old.version (held_by {V = V} old) old.reply st (record { access = a; word = w; front = f } ∷ rs) reply) →
    steps_at V new.tries after < steps_at V old.tries st → Consumes {V = V} old a w new
unfolding IsRemainder
takes_at {V} old new st after a w before then shape key left fewer = record {
  shape = shape;
  key = key;
  left = λ f rs reply.
      subst (λ (y : Stage). IsRemainderAt V (shape_for {V = V} new) new.key new.tries new.version (held_by {V = V} new) new.reply new.stage rs reply ↔ IsRemainderAt V (shape_for {V = V} old) old.key old.tries old.version (held_by {V = V} old) old.reply y (record { access = a; word = w; front = f } ∷ rs) reply) (sym before)
      (subst (λ (y : Stage). IsRemainderAt V (shape_for {V = V} new) new.key new.tries new.version (held_by {V = V} new) new.reply y rs reply ↔ IsRemainderAt V (shape_for {V = V} old) old.key old.tries old.version (held_by {V = V} old) old.reply st (record { access = a; word = w; front = f } ∷ rs) reply) (sym then)
      (rw (shape, key) (left f rs reply)));
  fewer = rw (before, then) fewer;
}

-- the slots from slot j on
pub slots_at : (sh : Shape) (k first second j : ℕ) → first ≡ first_of sh k → second ≡ second_of sh k → j < 8 → drop j (slots_for sh k) ≡ place_in first second j ∷ drop (suc j) (slots_for sh k)
slots_at sh k first second zero a b h = rw a refl
slots_at sh k first second (suc zero) a b h = rw a refl
slots_at sh k first second (suc (suc zero)) a b h = rw a refl
slots_at sh k first second (suc (suc (suc zero))) a b h = rw a refl
slots_at sh k first second (suc (suc (suc (suc zero)))) a b h = rw b refl
slots_at sh k first second (suc (suc (suc (suc (suc zero))))) a b h = rw b refl
slots_at sh k first second (suc (suc (suc (suc (suc (suc zero)))))) a b h = rw b refl
slots_at sh k first second (suc (suc (suc (suc (suc (suc (suc zero))))))) a b h = rw b refl
slots_at sh k first second (suc (suc (suc (suc (suc (suc (suc (suc j)))))))) a b h = absurd (omega arith)

-- each of the eight slots is one of the table
pub place_in_table : (sh : Shape) (k first second j : ℕ) → IsShape sh → first ≡ first_of sh k → second ≡ second_of sh k → j < 8 → IsPlace sh (place_in first second j)
place_in_table sh k first second j s a b l =
    let one : first_of sh k < sh.buckets = first_of-lt sh k s in
    elim (cases_lt j 4) [
      | inl below ↦
          let p : Place = record { bucket = first; slot = j } in
          let q : Place = record { bucket = second; slot = j - 4 } in
          let is : IsPlace sh p = record { in_table = omega (arith, a, one); in_bucket = below } in
          subst (λ (y : Place). IsPlace sh y) (cond_below j 4 p q below) is
      | inr past ↦
          let p : Place = record { bucket = first; slot = j } in
          let q : Place = record { bucket = second; slot = j - 4 } in
          let is : IsPlace sh q = record { in_table = omega (arith, b, alternate-lt sh (first_of sh k) (tag_of sh k) s one); in_bucket = omega arith } in
          subst (λ (y : Place). IsPlace sh y) (cond_above j 4 p q q past refl) is
    ]

abbrev pub read : Access → ℕ → ℕ → Reading
read a w f = record { access = a; word = w; front = f }

pub both_refl : {A : Type 0} → A ↔ A
both_refl = (λ a. a, λ a. a)

-- the slots from j on; there may be none
pub left_slots : (V : ℕ) (sh : Shape) (k t x : ℕ) (v : List ℕ) (told : Reply V) (j : ℕ) (rs : List Reading) (reply : Reply V) → j ≤ 8 → IsRemainderAt V sh k t x v told (slots_from j) rs reply ↔ RemainderAtSlots V sh k t x (drop j (slots_for sh k)) rs reply
left_slots V sh k t x v told j rs reply l =
    elim (cases_lt j 8) [
      | inl below ↦
          subst (λ (st : Stage). IsRemainderAt V sh k t x v told st rs reply ↔ RemainderAtSlots V sh k t x (drop j (slots_for sh k)) rs reply) (cond_below j 8 (Slot j) (Moment None) below) both_refl
      | inr past ↦
          let e : j ≡ 8 = omega arith in
          let none : drop j (slots_for sh k) ≡ [] = rw e refl in
          subst (λ (st : Stage). IsRemainderAt V sh k t x v told st rs reply ↔ RemainderAtSlots V sh k t x (drop j (slots_for sh k)) rs reply) (cond_above j 8 (Slot j) (Moment None) (Moment None) past refl)
          (subst (λ (ps : List Place). RemainderAtMoment V sh k t x None [] rs reply ↔ RemainderAtSlots V sh k t x ps rs reply) (sym none) (feed_none V sh k t x rs reply))
    ]

-- before a slot that doesn't name the tag, and the slots after it
pub left_other : (V : ℕ) (sh : Shape) (k t x : ℕ) (v : List ℕ) (told : Reply V) (first second j w f : ℕ) (rs : List Reading) (reply : Reply V) → first ≡ first_of sh k → second ≡ second_of sh k → j < 8 → ((i : ℕ) → TagMatches sh k w i → ⊥) → IsRemainderAt V sh k t x v told (slots_from (j + 1)) rs reply ↔ IsRemainderAt V sh k t x v told (Slot j) (read (access.Slot (place_in first second j)) w f ∷ rs) reply
left_other V sh k t x v told first second j w f rs reply a b l other =
    let e : suc j ≡ j + 1 = omega arith in
    let here : drop j (slots_for sh k) ≡ place_in first second j ∷ drop (j + 1) (slots_for sh k) = subst (λ (y : ℕ). drop j (slots_for sh k) ≡ place_in first second j ∷ drop y (slots_for sh k)) e (slots_at sh k first second j a b l) in
    both_trans (left_slots V sh k t x v told (j + 1) rs reply (omega arith))
    (subst (λ (ps : List Place). RemainderAtSlots V sh k t x (drop (j + 1) (slots_for sh k)) rs reply ↔ RemainderAtSlots V sh k t x ps (read (access.Slot (place_in first second j)) w f ∷ rs) reply) (sym here)
    (feed_other V sh k t x (place_in first second j) (drop (j + 1) (slots_for sh k)) (read (access.Slot (place_in first second j)) w f) rs reply refl other))

-- before one that names an item under it, and the key of that item
pub left_met : (V : ℕ) (sh : Shape) (k t x : ℕ) (v : List ℕ) (told : Reply V) (first second j i w f : ℕ) (rs : List Reading) (reply : Reply V) → IsShape sh → first ≡ first_of sh k → second ≡ second_of sh k → j < 8 → TagMatches sh k w i → IsRemainderAt V sh k t x v told (Key (j + 1) i) rs reply ↔ IsRemainderAt V sh k t x v told (Slot j) (read (access.Slot (place_in first second j)) w f ∷ rs) reply
left_met V sh k t x v told first second j i w f rs reply s a b l meets =
    let e : j + 1 ≡ suc j = omega arith in
    rw (e, slots_at sh k first second j a b l) (feed_meet V sh k t x i (place_in first second j) (drop (suc j) (slots_for sh k)) (read (access.Slot (place_in first second j)) w f) rs reply s refl meets)

-- before a word of the value, and the words after it
pub left_value : (V : ℕ) (sh : Shape) (k t x : ℕ) (v : List ℕ) (n : ℕ) (told : Reply V) (i c w f : ℕ) (rs : List Reading) (reply : Reply V) → length v ≡ V → c < V → IsRemainderAt V sh k t x (slice_set v c w ++ n ∷ []) told (values_from V i (c + 1)) rs reply ↔ IsRemainderAt V sh k t x (v ++ n ∷ []) told (Value i c) (read (access.Value i (c + 1)) w f ∷ rs) reply
left_value V sh k t x v n told i c w f rs reply whole l =
    let r = read (access.Value i (c + 1)) w f in
    let new = slice_set v c w in
    let long : length new ≡ V = omega (arith, length-set v c w, whole) in
    let got : length (take c v) ≡ c = omega (arith, length-take c v) in
    let before : take c (v ++ n ∷ []) ≡ take c v = take-append-le c v (n ∷ []) (omega arith) in
    let more : take (c + 1) (new ++ n ∷ []) ≡ take c v ++ w ∷ [] = take-append-le (c + 1) new (n ∷ []) (omega (arith, long)) ∙ take-set_at v c (c + 1) w refl (omega (arith, whole)) in
    let fed : RemainderAtValues V sh k t x i (take c v ++ w ∷ []) rs reply ↔ RemainderAtValues V sh k t x i (take c v) (r ∷ rs) reply =
    feed_value V sh k t x i (take c v) r rs reply (omega arith) (ap (λ y. access.Value i y) (omega (arith, got))) in
    let one : RemainderAtValues V sh k t x i (take (c + 1) (new ++ n ∷ [])) rs reply ↔ RemainderAtValues V sh k t x i (take c (v ++ n ∷ [])) (r ∷ rs) reply =
    subst (λ (y : List ℕ). RemainderAtValues V sh k t x i (take (c + 1) (new ++ n ∷ [])) rs reply ↔ RemainderAtValues V sh k t x i y (r ∷ rs) reply) (sym before)
    (subst (λ (y : List ℕ). RemainderAtValues V sh k t x i y rs reply ↔ RemainderAtValues V sh k t x i (take c v) (r ∷ rs) reply) (sym more) fed) in
    elim (cases_lt (c + 1) V) [
      | inl below ↦
          subst (λ (st : Stage). IsRemainderAt V sh k t x (new ++ n ∷ []) told st rs reply ↔ RemainderAtValues V sh k t x i (take c (v ++ n ∷ [])) (r ∷ rs) reply) (cond_below (c + 1) V (Value i (c + 1)) (Stamp i) below) one
      | inr past ↦
          let all : take (c + 1) (new ++ n ∷ []) ≡ new = take-append-le (c + 1) new (n ∷ []) (omega (arith, long)) ∙ take_all (c + 1) new (omega (arith, long)) in
          subst (λ (st : Stage). IsRemainderAt V sh k t x (new ++ n ∷ []) told st rs reply ↔ RemainderAtValues V sh k t x i (take c (v ++ n ∷ [])) (r ∷ rs) reply) (cond_above (c + 1) V (Value i (c + 1)) (Stamp i) (Stamp i) past refl)
          (subst (λ (y : List ℕ). RemainderAtStamp V sh k t x i y rs reply ↔ RemainderAtValues V sh k t x i (take c (v ++ n ∷ [])) (r ∷ rs) reply) (sym (value_of-push V n new long))
          (both_trans (feed_full V sh k t x i new rs reply long)
          (subst (λ (y : List ℕ). RemainderAtValues V sh k t x i y rs reply ↔ RemainderAtValues V sh k t x i (take c (v ++ n ∷ [])) (r ∷ rs) reply) all one)))
    ]

-- before the stamp, and the moment after it
pub left_stamp : (V : ℕ) (sh : Shape) (k t x : ℕ) (v : List ℕ) (n : ℕ) (told : Reply V) (i w f : ℕ) (rs : List Reading) (reply : Reply V) → length v ≡ V → IsRemainderAt V sh k t x (v ++ w ∷ []) told (Moment (Some i)) rs reply ↔ IsRemainderAt V sh k t x (v ++ n ∷ []) told (Stamp i) (read (access.Stamp i) w f ∷ rs) reply
left_stamp V sh k t x v n told i w f rs reply whole =
    subst (λ (y : List ℕ). RemainderAtMoment V sh k t x (Some i) (v ++ w ∷ []) rs reply ↔ RemainderAtStamp V sh k t x i y (read (access.Stamp i) w f ∷ rs) reply) (sym (value_of-push V n v whole))
    (feed_stamp V sh k t x i v (read (access.Stamp i) w f) rs reply refl)

-- before the last version of a try that succeeds, and the mark after it: the reply has the value and the stamp
pub left_found : (V : ℕ) (sh : Shape) (k t x i : ℕ) (v : List ℕ) (n at : ℕ) (r : Reading) (rs : List Reading) (reply : Reply V) → length v ≡ V → r.access ≡ access.Version (stripe_of sh k) → r.word ≡ x → (MarksHit (Some i) rs × (reply ≡ Found v at n)) ↔ RemainderAtLast V sh k t x (Some i) (v ++ n ∷ []) at (r ∷ rs) reply
left_found V sh k t x i v n at r rs reply whole a e =
    let told : reply_of {V = V} (Some i) (v ++ n ∷ []) at ≡ Found v at n = rw (value_of-push V n v whole, since_of-push V n v whole) refl in
    subst (λ (y : Reply V). (MarksHit (Some i) rs × (reply ≡ y)) ↔ RemainderAtLast V sh k t x (Some i) (v ++ n ∷ []) at (r ∷ rs) reply) told
    (feed_same V sh k t x (Some i) (v ++ n ∷ []) at r rs reply a e)

-- ---- how many accesses are left
pub steps_slots : (V t j : ℕ) → j ≤ 8 → steps_at V t (slots_from j) ≤ 2 * (8 - j) + payload V + 2 + t * (19 + payload V) + 1
steps_slots V t j l =
    elim (cases_lt j 8) [
      | inl below ↦ subst (λ (st : Stage). steps_at V t st ≤ 2 * (8 - j) + payload V + 2 + t * (19 + payload V) + 1) (cond_below j 8 (Slot j) (Moment None) below) (omega arith)
      | inr past ↦ subst (λ (st : Stage). steps_at V t st ≤ 2 * (8 - j) + payload V + 2 + t * (19 + payload V) + 1) (cond_above j 8 (Slot j) (Moment None) (Moment None) past refl) (omega arith)
    ]

pub steps_values : (V t i c : ℕ) → c ≤ V → steps_at V t (values_from V i c) ≤ payload V - c + 2 + t * (19 + payload V) + 1
steps_values V t i c l =
    elim (cases_lt c V) [
      | inl below ↦ subst (λ (st : Stage). steps_at V t st ≤ payload V - c + 2 + t * (19 + payload V) + 1) (cond_below c V (Value i c) (Stamp i) below) (omega arith)
      | inr past ↦ subst (λ (st : Stage). steps_at V t st ≤ payload V - c + 2 + t * (19 + payload V) + 1) (cond_above c V (Value i c) (Stamp i) (Stamp i) past refl) (omega (arith, payload_is V))
    ]

-- a try begun leaves as many accesses as it can make
pub steps_try : (V t : ℕ) → 0 < t → (t - 1) * (19 + payload V) + (19 + payload V) ≡ t * (19 + payload V)
steps_try V zero l = absurd (omega arith)
steps_try V (suc t) l = let e : suc t - 1 ≡ t = omega arith in rw e (grind arith)

-- what is left at the stage of a lookup
pub at_stage : {V : ℕ} (l : Lookup V) (st : Stage) (rs : List Reading) (reply : Reply V) → l.stage ≡ st → IsRemainderAt V (shape_for {V = V} l) l.key l.tries l.version (held_by {V = V} l) l.reply st rs reply ↔ IsRemainder {V = V} l rs reply
unfolding IsRemainder
at_stage {V} l st rs reply e =
    subst (λ (y : Stage). IsRemainderAt V (shape_for {V = V} l) l.key l.tries l.version (held_by {V = V} l) l.reply st rs reply ↔ IsRemainderAt V (shape_for {V = V} l) l.key l.tries l.version (held_by {V = V} l) l.reply y rs reply) (sym e) both_refl

-- a reading that spoils a try
pub takes_restart : {V : ℕ} (old mid new : Lookup V) (st : Stage) (a : Access) (w : ℕ) → Restarts {V = V} mid new → old.stage ≡ st → mid.checked ≡ old.checked → mid.key ≡ old.key →
    ((f : ℕ) (rs : List Reading) (reply : Reply V) → IsLookup V (shape_for {V = V} mid) mid.key mid.tries rs reply ↔ IsRemainderAt V (shape_for {V = V} old) old.key old.tries old.version (held_by {V = V} old) old.reply st (record { access = a; word = w; front = f } ∷ rs) reply) →
    mid.tries * (19 + payload V) + 1 < steps_at V old.tries st → Consumes {V = V} old a w new
takes_restart {V} old mid new st a w again before shape key left fewer = record {
  shape = again.shape ∙ shape;
  key = again.key ∙ key;
  left = λ f rs reply. both_trans (again.left rs reply) (both_trans (left f rs reply) (at_stage {V = V} old st (record { access = a; word = w; front = f } ∷ rs) reply before));
  fewer = rw before (omega (arith, again.most, fewer));
}

-- a first version, and the tries after this one
pub left_first : (V : ℕ) (sh : Shape) (k t : ℕ) (r : Reading) (rs : List Reading) (reply : Reply V) → 0 < t → r.access ≡ access.Version (stripe_of sh k) → r.word % 2 ≡ 0 → RemainderAtSlots V sh k (t - 1) r.word (slots_for sh k) rs reply ↔ IsLookup V sh k t (r ∷ rs) reply
left_first V sh k t r rs reply some a even =
    let e : suc (t - 1) ≡ t = omega arith in
    subst (λ (y : ℕ). RemainderAtSlots V sh k (t - 1) r.word (slots_for sh k) rs reply ↔ IsLookup V sh k y (r ∷ rs) reply) e (feed_even V sh k (t - 1) r rs reply a even)

pub left_odd : (V : ℕ) (sh : Shape) (k t : ℕ) (r : Reading) (rs : List Reading) (reply : Reply V) → 0 < t → r.access ≡ access.Version (stripe_of sh k) → r.word % 2 ≢ 0 → IsLookup V sh k (t - 1) rs reply ↔ IsLookup V sh k t (r ∷ rs) reply
left_odd V sh k t r rs reply some a odd =
    let e : suc (t - 1) ≡ t = omega arith in
    subst (λ (y : ℕ). IsLookup V sh k (t - 1) rs reply ↔ IsLookup V sh k y (r ∷ rs) reply) e (feed_odd V sh k (t - 1) r rs reply a (omega arith))

-- the access at a stage is the one that comes next
pub takes_next : {V : ℕ} (old new : Lookup V) (st : Stage) (w : ℕ) → old.stage ≡ st → IfSome (next_at {V = V} old st) (λ (a : Access). Consumes {V = V} old a w new) → IfSome (next_access {V = V} old) (λ (a : Access). Consumes {V = V} old a w new)
takes_next {V} old new st w e h = subst (λ (y : Stage). IfSome (next_at {V = V} old y) (λ (a : Access). Consumes {V = V} old a w new)) (sym e) h
