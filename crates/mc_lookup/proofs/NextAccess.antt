-- The access that comes next is the only one with which a lookup can continue, and some readings end it.
use Rattle.std.proofs.Common.{ℕ, zero, suc, ◌≡◌, ◌+◌, ◌-◌, ◌<◌, ◌≤◌, List, [], ◌∷◌, ◌++◌, length, take, drop, replicate, Option, Some, None, refl, sym, ◌∙◌, ap, subst, inl, inr, arith}
use Rattle.std.specs.Prelude.{IfSome}
use Rattle.std.proofs.lemmas.List.{length-take, length-append, length-replicate}
use Rattle.mc_words.specs.Keys.{stripe_of, tag_of}
use Rattle.mc_words.specs.History.{value_of}
use Rattle.mc_words.specs.declared.history.Reply.{Reply}
use Rattle.mc_words.specs.declared.history.Reply.TheVariants.{Busy}
use Rattle.mc_words.specs.declared.place.Place.{Place}
use Rattle.mc_words.specs.declared.shape.Shape.{Shape}
use Rattle.mc_lookup.specs.Course.{BeginsWith, NextIsDetermined, NextIsInTable, CanEnd}
use Rattle.mc_theory.specs.Lookups.{slots_for, ReadsValues, Scans, IsLookup}
use Rattle.mc_lookup.specs.Machine.{shape_for, next_at, held_by, held_for, lookup_place, IsRemainderAt}
use Rattle.mc_theory.specs.Readings.{Reading}
use Rattle.mc_lookup.specs.Rest.{RemainderAtMoment, RemainderAtStamp, RemainderAtValues, RemainderAtSlots, RemainderAtKey, RemainderAtLast}
use Rattle.mc_lookup.specs.Inside.Stages.{slot_at, word_at, tries_owed}
use Rattle.mc_theory.specs.Writes.{IsAccess}
use Rattle.mc_theory.specs.declared.access.Access.{Access}
use Rattle.mc_theory.specs.declared.access.Access.TheVariants as access
use Rattle.mc_lookup.specs.declared.lookup.Lookup.{Lookup}
use Rattle.mc_lookup.specs.declared.stage.Stage.{Stage}
use Rattle.mc_lookup.specs.declared.stage.Stage.TheVariants.{First, Slot, Key, Value, Stamp, Moment, Last, Mark, Over}
use Rattle.mc_words.proofs.Frames.{slot_word-some}
use Rattle.mc_words.proofs.Keys.{stripe_of-lt}
use Rattle.mc_lookup.proofs.Prepend.{from_odd}
use Rattle.mc_lookup.proofs.Split.{first_reading, slot_reading, value_reading}
use Rattle.mc_lookup.proofs.StageSteps.{at_stage, place_in_table, slots_at}

-- ---- the next access
begins_at : {V : ℕ} (l : Lookup V) (st : Stage) (rs : List Reading) (reply : Reply V) → slot_at st < 8 → word_at st < V → tries_owed st ≤ l.tries → IsRemainderAt V (shape_for {V = V} l) l.key l.tries l.version (held_by {V = V} l) l.reply st rs reply → BeginsWith {V = V} l (next_at {V = V} l st) rs reply
begins_at {V} l First rs reply slots words tries left =
    let e : l.tries ≡ suc (l.tries - 1) = omega arith in
    let one = first_reading V (shape_for {V = V} l) l.key (l.tries - 1) rs reply (subst (λ (t : ℕ). IsLookup V (shape_for {V = V} l) l.key t rs reply) e left) in
    (one.0, one.1, one.2, one.3 ∙ ap (λ y. access.Version y) (sym l.parts_are.stripe))
begins_at {V} l (Slot j) rs reply slots words tries left =
    let here = slots_at (shape_for {V = V} l) l.key l.parts.first l.parts.second j l.parts_are.first l.parts_are.second slots in
    let one = slot_reading V (shape_for {V = V} l) l.key l.tries l.version (lookup_place {V = V} l j) (drop (suc j) (slots_for (shape_for {V = V} l) l.key)) rs reply
    (subst (λ (ps : List Place). RemainderAtSlots V (shape_for {V = V} l) l.key l.tries l.version ps rs reply) here left) in
    (one.0, one.1, one.2, one.3)
begins_at {V} l (Key j i) rs reply slots words tries left = (left.0, left.1, left.2, left.3)
begins_at {V} l (Value i c) rs reply slots words tries left =
    let got : length (take c (held_by {V = V} l)) ≡ c = omega (arith, length-take c (held_by {V = V} l), length-append l.value (l.since ∷ []), l.whole) in
    elim (value_reading V (shape_for {V = V} l) l.key l.tries l.version i (take c (held_by {V = V} l)) rs reply left) [
      | inl y ↦ absurd (omega (arith, y.0, got))
      | inr y ↦ (y.0, y.1, y.2, y.3 ∙ ap (λ n. access.Value i n) (omega (arith, got)))
    ]
begins_at {V} l (Stamp i) rs reply slots words tries left = (left.0, left.1, left.2, left.3)
begins_at {V} l (Moment hit) rs reply slots words tries left = (left.0, left.1, left.2, left.3)
begins_at {V} l (Last hit at) rs reply slots words tries left = (left.0, left.1, left.2, left.3 ∙ ap (λ y. access.Version y) (sym l.parts_are.stripe))
begins_at {V} l (Mark i) rs reply slots words tries left = (left.0.0, [], left.0.1, left.0.2)
begins_at {V} l Over rs reply slots words tries left = left

pub next_is_determined : (V : ℕ) → NextIsDetermined V
next_is_determined V l rs reply left =
    begins_at {V = V} l l.stage rs reply l.slot_in l.word_in l.tried ((at_stage {V = V} l l.stage rs reply refl).1 left)

-- ---- a way to the end
abbrev read : Access → ℕ → Reading
read a w = record { access = a; word = w; front = 0 }

-- tries that are all spoiled at once
spoiled : (V : ℕ) (sh : Shape) (k t : ℕ) → (rs : List Reading) × IsLookup V sh k t rs Busy
spoiled V sh k zero = ([], (refl, refl))
spoiled V sh k (suc t) =
    let rest = spoiled V sh k t in
    (read (access.Version (stripe_of sh k)) 1 ∷ rest.0, from_odd V sh k t (read (access.Version (stripe_of sh k)) 1) rest.0 Busy refl refl rest.1)

last_ends : (V : ℕ) (sh : Shape) (k t x : ℕ) (hit : Option ℕ) (v : List ℕ) (at : ℕ) → (rs : List Reading) × RemainderAtLast V sh k t x hit v at rs Busy
last_ends V sh k t x hit v at =
    let rest = spoiled V sh k t in
    (read (access.Version (stripe_of sh k)) (suc x) ∷ rest.0, (read (access.Version (stripe_of sh k)) (suc x), rest.0, refl, refl, inl (λ e. omega (arith, e), rest.1)))

moment_ends : (V : ℕ) (sh : Shape) (k t x : ℕ) (hit : Option ℕ) (v : List ℕ) → (rs : List Reading) × RemainderAtMoment V sh k t x hit v rs Busy
moment_ends V sh k t x hit v =
    let rest = last_ends V sh k t x hit v 0 in
    (read access.Moment 0 ∷ rest.0, (read access.Moment 0, rest.0, refl, refl, rest.1))

stamp_ends : (V : ℕ) (sh : Shape) (k t x i : ℕ) (v : List ℕ) → (rs : List Reading) × RemainderAtStamp V sh k t x i v rs Busy
stamp_ends V sh k t x i v =
    let rest = moment_ends V sh k t x (Some i) (v ++ 0 ∷ []) in
    (read (access.Stamp i) 0 ∷ rest.0, (read (access.Stamp i) 0, rest.0, refl, refl, rest.1))

-- words of a value that are all 0
zeros : (n i j : ℕ) → (xs : List Reading) × ReadsValues i j xs (replicate n 0)
zeros zero i j = ([], tt)
zeros (suc n) i j = let rest = zeros n i (j + 1) in (read (access.Value i j) 0 ∷ rest.0, (refl, refl, rest.1))

values_end : (V : ℕ) (sh : Shape) (k t x i : ℕ) (got : List ℕ) → length got ≤ V → (rs : List Reading) × RemainderAtValues V sh k t x i got rs Busy
values_end V sh k t x i got l =
    let n = V - length got in
    let more : List ℕ = replicate n 0 in
    let xs = zeros n i (suc (length got)) in
    let rest = stamp_ends V sh k t x i (got ++ more) in
    (xs.0 ++ rest.0, (xs.0, more, rest.0, refl, omega (arith, length-append got more, length-replicate {A = ℕ} n 0), xs.1, rest.1))

-- slots that are all empty
empties : (sh : Shape) (k : ℕ) (ps : List Place) → (rs : List Reading) × Scans sh k ps rs None
empties sh k [] = ([], (refl, refl))
empties sh k (p ∷ ps) =
    let rest = empties sh k ps in
    (read (access.Slot p) 0 ∷ rest.0, (read (access.Slot p) 0, rest.0, refl, refl, inl (λ i m. slot_word-some (tag_of sh k) i (sym m.1), rest.1)))

slots_end : (V : ℕ) (sh : Shape) (k t x : ℕ) (ps : List Place) → (rs : List Reading) × RemainderAtSlots V sh k t x ps rs Busy
slots_end V sh k t x ps =
    let scan = empties sh k ps in
    let rest = moment_ends V sh k t x None [] in
    (scan.0 ++ rest.0, (scan.0, None, rest.0, refl, scan.1, rest.1))

key_ends : (V : ℕ) (sh : Shape) (k t x i : ℕ) (ps : List Place) → (rs : List Reading) × RemainderAtKey V sh k t x i ps rs Busy
key_ends V sh k t x i ps =
    let rest = slots_end V sh k t x ps in
    (read (access.Key i) (suc k) ∷ rest.0, (read (access.Key i) (suc k), rest.0, refl, refl, inr (λ e. omega (arith, e), rest.1)))

ends_at : {V : ℕ} (l : Lookup V) (st : Stage) → word_at st < V → (rs : List Reading) × (reply : Reply V) × IsRemainderAt V (shape_for {V = V} l) l.key l.tries l.version (held_by {V = V} l) l.reply st rs reply
ends_at {V} l First words = let e = spoiled V (shape_for {V = V} l) l.key l.tries in (e.0, Busy, e.1)
ends_at {V} l (Slot j) words = let e = slots_end V (shape_for {V = V} l) l.key l.tries l.version (drop j (slots_for (shape_for {V = V} l) l.key)) in (e.0, Busy, e.1)
ends_at {V} l (Key j i) words = let e = key_ends V (shape_for {V = V} l) l.key l.tries l.version i (drop j (slots_for (shape_for {V = V} l) l.key)) in (e.0, Busy, e.1)
ends_at {V} l (Value i c) words = let e = values_end V (shape_for {V = V} l) l.key l.tries l.version i (take c (held_by {V = V} l)) (omega (arith, length-take c (held_by {V = V} l), words)) in (e.0, Busy, e.1)
ends_at {V} l (Stamp i) words = let e = stamp_ends V (shape_for {V = V} l) l.key l.tries l.version i (value_of V (held_by {V = V} l)) in (e.0, Busy, e.1)
ends_at {V} l (Moment hit) words = let e = moment_ends V (shape_for {V = V} l) l.key l.tries l.version hit (held_for hit (held_by {V = V} l)) in (e.0, Busy, e.1)
ends_at {V} l (Last hit at) words = let e = last_ends V (shape_for {V = V} l) l.key l.tries l.version hit (held_for hit (held_by {V = V} l)) at in (e.0, Busy, e.1)
ends_at {V} l (Mark i) words = (read (access.Mark i) 0 ∷ [], l.reply, ((read (access.Mark i) 0, refl, refl), refl))
ends_at {V} l Over words = ([], l.reply, (refl, refl))

pub can_end : (V : ℕ) → CanEnd V
can_end V l =
    let e = ends_at {V = V} l l.stage l.word_in in
    (e.0, e.1, (at_stage {V = V} l l.stage e.0 e.1 refl).0 e.2)

-- ---- it is one of the table
-- at each stage
pub next_at_in : {V : ℕ} (l : Lookup V) (st : Stage) → l.stage ≡ st → IfSome (next_at {V = V} l st) (IsAccess V (shape_for {V = V} l))
next_at_in {V} l First e = rw l.parts_are.stripe (stripe_of-lt (shape_for {V = V} l) l.key l.checked.sound)
next_at_in {V} l (Slot j) e = place_in_table (shape_for {V = V} l) l.key l.parts.first l.parts.second j l.checked.sound l.parts_are.first l.parts_are.second (rw e at l.slot_in)
next_at_in {V} l (Key j i) e = rw e at l.item_in
next_at_in {V} l (Value i c) e =
    let word = rw e at l.word_in in
    (rw e at l.item_in, omega arith, omega (arith, word))
next_at_in {V} l (Stamp i) e = rw e at l.item_in
next_at_in {V} l (Moment hit) e = tt
next_at_in {V} l (Last hit at) e = rw l.parts_are.stripe (stripe_of-lt (shape_for {V = V} l) l.key l.checked.sound)
next_at_in {V} l (Mark i) e = rw e at l.item_in
next_at_in {V} l Over e = tt

-- and so the access that comes next
pub next_is_in_table : (V : ℕ) → NextIsInTable V
next_is_in_table V l a e = subst (λ (o : Option Access). IfSome o (IsAccess V (shape_for {V = V} l))) e (next_at_in {V = V} l l.stage refl)
