-- An allowed act writes the one word that it names, at a place of the table; an access reads the one that it names.
use Rattle.std.proofs.Common.{ℕ, ◌≡◌, ◌*◌, ◌^◌, ◌<◌, ◌≤◌, List, [], ◌∷◌, ◌+◌, length, take, Option, Some, None, refl, arith, sym, ap, subst}
use Rattle.std.specs.Prelude.{slice_index}
use Rattle.std.specs.List.{All}
use Rattle.std.proofs.lemmas.List.Elements.{All-set, All-replicate}
use Rattle.mc_words.proofs.SlotWords.{slot_word-fits}
use Rattle.mc_words.proofs.Keys.{stripe_of-lt, tag_of-lt}
use Rattle.mc_words.proofs.Payload.{value_fits}
use Rattle.mc_words.proofs.Places.{row_below}
use Rattle.mc_words.specs.History.{IsWord}
use Rattle.mc_words.specs.Keys.{stripe_of}
use Rattle.mc_words.specs.Places.{IsPlace, payload, slot_number, version, moment, slot, item, with_moment, with_version, with_slot, with_item, item_place, slot_place, version_place, word_count}
use Rattle.mc_words.specs.Shapes.{IsShape}
use Rattle.mc_words.specs.Standing.{Stands}
use Rattle.mc_words.specs.declared.place.Place.{Place}
use Rattle.mc_words.specs.declared.shape.Shape.{Shape}
use Rattle.mc_words.specs.declared.history.Change.{Change}
use Rattle.mc_theory.specs.Acts.{IsAllowed, MayFrom}
use Rattle.mc_theory.specs.Effects.{after_act, version_steps_after, with_close, words_after}
use Rattle.mc_theory.specs.Inner.{DeedFacts, IsCounted, StateCounted, StateHolds}
use Rattle.mc_theory.specs.Lists.{AreAllowed, IsLawful, Made, after_all, front, state_of}
use Rattle.mc_theory.specs.Phases.{Phase, Quiet, Filling, Keyed, Placed, Renewing, Removing, Removed, Moving, Moved, Closing, deed_key}
use Rattle.mc_theory.specs.Readings.{IsWordOf}
use Rattle.mc_theory.specs.States.{State, opening}
use Rattle.mc_theory.specs.Writes.{ActsNameTheTable, NamesIn, bump_of, write_of, with_write, FitsIn, place_read, IsAccess, WritesItsWord, KeepsItsWords, WordsFit, ReadsItsWord}
use Rattle.mc_theory.specs.declared.access.Access.{Access}
use Rattle.mc_theory.specs.declared.access.Access.TheVariants as access
use Rattle.mc_theory.specs.declared.act.Act.{Act}
use Rattle.mc_theory.specs.declared.act.Act.TheVariants.{Open, Slot, Item, Moment, Close, Hand, Mark}
use Rattle.mc_theory.proofs.Lists.Bounds.{front_length, opening_counted, state_counted, state_counted_after}
use Rattle.mc_theory.proofs.Lists.Fronts.{allowed_take, state_holds}
use Rattle.mc_theory.proofs.Invariant.EachState.{holds_after, opening_holds}

-- ---- the word
closed_written : (sh : Shape) (w : List ℕ) (o : Option ℕ) → with_close sh w o ≡ with_write w (bump_of sh w o)
unfolding with_version
closed_written sh w None = refl
closed_written sh w (Some k) = refl

-- what an act leaves is a write of the word that it names
pub words_written : (V : ℕ) (sh : Shape) (w : List ℕ) (p : Phase) (a : Act) → words_after V sh w p a ≡ with_write w (write_of V sh w p a)
unfolding with_version with_moment with_slot with_item
words_written V sh w p (Open k d) = refl
words_written V sh w p (Slot q x) = refl
words_written V sh w p (Item i j x) = refl
words_written V sh w p Moment = refl
words_written V sh w p Close = closed_written sh w (deed_key p)
words_written V sh w p (Hand i) = refl
words_written V sh w p (Mark i) = refl

-- ---- its place, and that it is below 2^64
bump_fits : (V : ℕ) (sh : Shape) (w : List ℕ) (k c : ℕ) → IsShape sh → word_count V sh ≤ length w → ((t : ℕ) → t < sh.stripes → version w t ≤ c) → c + 1 < 2 ^ 64 → FitsIn w (bump_of sh w (Some k))
bump_fits V sh w k c s size v l = let below = stripe_of-lt sh k s in (omega arith, omega (arith, v (stripe_of sh k) below))

-- a slot is within the words
slot_fits : (V : ℕ) (sh : Shape) (w : List ℕ) (q x : ℕ) → word_count V sh ≤ length w → q < 4 * sh.buckets → x < 2 ^ 64 → FitsIn w (Some (slot_place sh q, x))
slot_fits V sh w q x size l fits = (omega arith, fits)

-- so is each word of an item
item_fits : (V : ℕ) (sh : Shape) (w : List ℕ) (i j x : ℕ) → word_count V sh ≤ length w → i < sh.items → j ≤ payload V → x < 2 ^ 64 → FitsIn w (Some (item_place V sh i j, x))
item_fits V sh w i j x size a b fits = (omega (arith, row_below (payload V) i j sh.items a b), fits)

-- numbers of items are below 2^32
items_small : (sh : Shape) (i : ℕ) → IsShape sh → i < sh.items → i < 2 ^ 32
items_small sh i s l = omega (arith, s.items.1, s.buckets.1)

-- each act that may be made writes a word within the words
pub write_fits : (V : ℕ) (sh : Shape) (w : List ℕ) (hand : ℕ) (cleared : Option ℕ) (h : List (Change V)) (c : ℕ) (p : Phase) (a : Act) → IsShape sh → word_count V sh ≤ length w → moment w ≡ length h → DeedFacts V sh w h p → IsCounted sh w p (length h) c → version_steps_after c a < 2 ^ 64 → MayFrom V sh w hand cleared p a → FitsIn w (write_of V sh w p a)
write_fits V sh w hand cleared h c Quiet (Open k u) s size at d n l may = bump_fits V sh w k c s size n.versions l
write_fits V sh w hand cleared h c Quiet (Hand i) s size at d n l may = tt
write_fits V sh w hand cleared h c Quiet (Mark i) s size at d n l may = tt
write_fits V sh w hand cleared h c (Filling k) (Item i j x) s size at d n l may = item_fits V sh w i j x size may.0 (omega (arith, may.2)) (omega (arith, may.3, d.0))
write_fits V sh w hand cleared h c (Keyed k i xs) (Item g j x) s size at d n l may = item_fits V sh w g j x size (omega (arith, may.0, d.0.in_items)) may.2 may.3
write_fits V sh w hand cleared h c (Keyed k i xs) (Slot p x) s size at d n l may =
    slot_fits V sh w (slot_number p) x size may.1.0 (rw may.4 (slot_word-fits _ i (tag_of-lt sh k d.0.in_range) (items_small sh i s d.0.in_items)))
write_fits V sh w hand cleared h c (Placed k i xs) Moment s size at d n l may = (omega arith, omega (arith, at, n.moments))
write_fits V sh w hand cleared h c (Renewing k xs) (Item i j x) s size at d n l may = item_fits V sh w i j x size may.3.1.names.in_items may.1 may.2
write_fits V sh w hand cleared h c (Renewing k xs) Moment s size at d n l may = (omega arith, omega (arith, at, n.moments))
write_fits V sh w hand cleared h c (Removing k e) (Slot p x) s size at d n l may = slot_fits V sh w (slot_number p) x size may.2.1.names.in_table (omega (arith, may.1))
write_fits V sh w hand cleared h c (Removed k e) Moment s size at d n l may = (omega arith, omega (arith, at, n.moments))
write_fits V sh w hand cleared h c (Moving k) (Slot p x) s size at d n l may =
    let there : Stands V sh w k may.2.0 may.2.1 = may.2.2 in
    slot_fits V sh w (slot_number p) x size may.1.0 (rw (may.2.4, there.names.word) (slot_word-fits there.names.tag may.2.1 there.names.is_tag (items_small sh may.2.1 s there.names.in_items)))
write_fits V sh w hand cleared h c (Moved k fresh) (Slot p x) s size at d n l may = slot_fits V sh w (slot_number p) x size may.3.1.names.in_table (omega (arith, may.1))
write_fits V sh w hand cleared h c (Closing k) Close s size at d n l may = bump_fits V sh w k c s size n.versions l
write_fits V sh w hand cleared h c _ _ s size at d n l may = absurd may

-- ---- what an act names
-- a number of the table is that of a slot of the table
in_place : (sh : Shape) (p : Place) → slot_number p < 4 * sh.buckets → p.slot < 4 → IsPlace sh p
in_place sh p l b = record { in_table = omega arith; in_bucket = b }

-- what an act may name in its phase belongs to the table
names_in : (V : ℕ) (sh : Shape) (w : List ℕ) (hand : ℕ) (cleared : Option ℕ) (h : List (Change V)) (p : Phase) (a : Act) → DeedFacts V sh w h p → MayFrom V sh w hand cleared p a → NamesIn V sh a
names_in V sh w hand cleared h Quiet (Open k u) d may = tt
names_in V sh w hand cleared h Quiet (Hand i) d may = may
names_in V sh w hand cleared h Quiet (Mark i) d may = may
names_in V sh w hand cleared h (Filling k) (Item i j x) d may = (may.0, omega (arith, may.2))
names_in V sh w hand cleared h (Keyed k i xs) (Item g j x) d may = (omega (arith, may.0, d.0.in_items), may.2)
names_in V sh w hand cleared h (Keyed k i xs) (Slot p x) d may = in_place sh p may.1.0 may.3
names_in V sh w hand cleared h (Placed k i xs) Moment d may = tt
names_in V sh w hand cleared h (Renewing k xs) (Item i j x) d may = (may.3.1.names.in_items, may.1)
names_in V sh w hand cleared h (Renewing k xs) Moment d may = tt
names_in V sh w hand cleared h (Removing k e) (Slot p x) d may = in_place sh p may.2.1.names.in_table may.0
names_in V sh w hand cleared h (Removed k e) Moment d may = tt
names_in V sh w hand cleared h (Moving k) (Slot p x) d may = in_place sh p may.1.0 may.0
names_in V sh w hand cleared h (Moved k fresh) (Slot p x) d may = in_place sh p may.3.1.names.in_table may.0
names_in V sh w hand cleared h (Closing k) Close d may = tt
names_in V sh w hand cleared h _ _ d may = absurd may

pub acts_name_the_table : (V : ℕ) → ActsNameTheTable V
acts_name_the_table V sh acts a shape l may =
    let s = state_of V sh acts in
    names_in V sh s.words s.hand s.cleared s.history s.phase a (state_holds V sh acts shape l).deed may

-- ---- the version changes
-- an act leaves as many, or one more
changes_le : (c : ℕ) (a : Act) → (c ≤ version_steps_after c a) × (version_steps_after c a ≤ c + 1)
changes_le c (Open k d) = (omega arith, omega arith)
changes_le c (Slot q x) = (omega arith, omega arith)
changes_le c (Item i j x) = (omega arith, omega arith)
changes_le c Moment = (omega arith, omega arith)
changes_le c Close = (omega arith, omega arith)
changes_le c (Hand i) = (omega arith, omega arith)
changes_le c (Mark i) = (omega arith, omega arith)

-- acts leave no fewer
changes_rise : {V : ℕ} (sh : Shape) (s : State V) (xs : List Made) → s.version_steps ≤ (after_all sh s xs).version_steps
changes_rise sh s [] = omega arith
changes_rise {V} sh s (x ∷ xs) =
    let one : s.version_steps ≤ version_steps_after s.version_steps x.act = (changes_le s.version_steps x.act).0 in
    let rest : version_steps_after s.version_steps x.act ≤ (after_all sh (after_act sh s x.act x.bit) xs).version_steps = changes_rise sh (after_act sh s x.act x.bit) xs in
    omega (arith, one, rest)

pub writes_its_word : (V : ℕ) → WritesItsWord V
writes_its_word V sh acts m shape l may most =
    let i = state_holds V sh acts shape l in (
      words_written V sh _ _ m.act,
      write_fits V sh _ (state_of V sh acts).hand _ _ _ _ m.act shape i.agrees.size i.agrees.at_moment i.deed (state_counted V sh acts shape l) (omega (arith, most, (changes_le (state_of V sh acts).version_steps m.act).1)) may,
    )

pub keeps_its_words : (V : ℕ) → KeepsItsWords V
keeps_its_words V = front_length V

-- ---- the words of every front
-- a write of a word below 2^64
fit_written : (w : List ℕ) (o : Option (ℕ × ℕ)) → FitsIn w o → All IsWord w → All IsWord (with_write w o)
fit_written w None fits all = all
fit_written w (Some at) fits all = All-set IsWord w at.0 at.1 fits.1 all

-- one act keeps each word below 2^64
fit_after : {V : ℕ} (sh : Shape) (s : State V) (a : Act) (bit : ℕ) → IsShape sh → StateHolds sh s → StateCounted sh s → IsAllowed sh s a → version_steps_after s.version_steps a < 2 ^ 64 → All IsWord s.words → All IsWord (after_act sh s a bit).words
fit_after {V} sh s a bit shape i c may few all =
    subst (All IsWord) (sym (words_written V sh s.words s.phase a))
    (fit_written s.words (write_of V sh s.words s.phase a) (write_fits V sh s.words s.hand s.cleared s.history s.version_steps s.phase a shape i.agrees.size i.agrees.at_moment i.deed c few may) all)

-- and so do acts one after the other
fit_all : {V : ℕ} (sh : Shape) (s : State V) (xs : List Made) → IsShape sh → StateHolds sh s → StateCounted sh s → AreAllowed sh s xs → (after_all sh s xs).version_steps < 2 ^ 64 → All IsWord s.words → All IsWord (after_all sh s xs).words
fit_all sh s [] shape i c l few all = all
fit_all {V} sh s (x ∷ xs) shape i c l few all =
    let next = after_act sh s x.act x.bit in
    let up : version_steps_after s.version_steps x.act ≤ (after_all sh next xs).version_steps = changes_rise sh next xs in
    fit_all sh next xs shape (holds_after sh s x.act x.bit shape i l.0) (state_counted_after sh s x.act x.bit shape i l.0 c) l.1 few
    (fit_after sh s x.act x.bit shape i c l.0 (omega (arith, up, few)) all)

-- a new table has zeros
opening_fits : (V : ℕ) (sh : Shape) → All IsWord (opening V sh).words
unfolding opening
opening_fits V sh = All-replicate IsWord (word_count V sh) 0 (omega arith)

pub words_fit : (V : ℕ) → WordsFit V
unfolding front IsLawful
words_fit V sh acts f shape l few =
    fit_all sh (opening V sh) (take f acts) shape (opening_holds V sh) (opening_counted V sh) (allowed_take sh (opening V sh) f acts l) few (opening_fits V sh)

-- ---- an access
read_word : (V : ℕ) (sh : Shape) (w : List ℕ) (a : Access) (n : ℕ) → place_read V sh a ≡ Some n → IsWordOf V sh w a (slice_index w n)
unfolding version slot item moment
read_word V sh w (access.Version t) n e = let is : version_place t ≡ n = cc in ap (λ y. slice_index w y) (sym is)
read_word V sh w (access.Slot p) n e = let is : slot_place sh (slot_number p) ≡ n = cc in ap (λ y. slice_index w y) (sym is)
read_word V sh w (access.Key i) n e = let is : item_place V sh i 0 ≡ n = cc in ap (λ y. slice_index w y) (sym is)
read_word V sh w (access.Value i j) n e = let is : item_place V sh i j ≡ n = cc in ap (λ y. slice_index w y) (sym is)
read_word V sh w (access.Stamp i) n e = let is : item_place V sh i (payload V) ≡ n = cc in ap (λ y. slice_index w y) (sym is)
read_word V sh w access.Moment n e = let is : 0 ≡ n = cc in ap (λ y. slice_index w y) (sym is)
read_word V sh w (access.Mark i) n e = tt

-- an access within the table reads one of its words
read_in : (V : ℕ) (sh : Shape) (a : Access) (n : ℕ) → place_read V sh a ≡ Some n → IsAccess V sh a → n < word_count V sh
read_in V sh (access.Version t) n e l = let is : version_place t ≡ n = cc in omega arith
read_in V sh (access.Slot p) n e l = let is : slot_place sh (slot_number p) ≡ n = cc in omega (arith, l.in_table, l.in_bucket)
read_in V sh (access.Key i) n e l = let is : item_place V sh i 0 ≡ n = cc in omega (arith, row_below (payload V) i 0 sh.items l (omega arith))
read_in V sh (access.Value i j) n e l = let is : item_place V sh i j ≡ n = cc in omega (arith, row_below (payload V) i j sh.items l.0 (omega (arith, l.2, value_fits V)))
read_in V sh (access.Stamp i) n e l = let is : item_place V sh i (payload V) ≡ n = cc in omega (arith, row_below (payload V) i (payload V) sh.items l (omega arith))
read_in V sh access.Moment n e l = let is : 0 ≡ n = cc in omega arith
read_in V sh (access.Mark i) n e l = absurd (cc)

pub reads_its_word : (V : ℕ) → ReadsItsWord V
reads_its_word V sh w a n e = (read_word V sh w a n e, read_in V sh a n e)
