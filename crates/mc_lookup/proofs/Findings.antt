-- While the version of a key's stripe stays even, what a try has read stays so.
use Rattle.std.proofs.Common.{ℕ, ◌≡◌, ◌≤◌, ◌↔◌, All, List, [], ◌∷◌, take, sym, ◌∙◌, ap, arith}
use Rattle.std.proofs.lemmas.List.{take_at}
use Rattle.std.proofs.lemmas.List.Elements.{All-from_recursion}
use Rattle.std.specs.List.{AllByRecursion}
use Rattle.mc_lookup.specs.Findings.{FindingsStay, IsStillSo, StaysEven, TakesItem}
use Rattle.mc_theory.proofs.Lists.Fronts.{versions_rise}
use Rattle.mc_theory.proofs.Lists.Histories.{history_rises}
use Rattle.mc_theory.proofs.Lists.Readings.{rise_le}
use Rattle.mc_theory.proofs.Replies.Scans.{hit_stands, word_at}
use Rattle.mc_theory.proofs.Replies.Windows.{Window, tag_from_agree, window}
use Rattle.mc_theory.specs.Lists.{Made, front}
use Rattle.mc_theory.specs.Lookups.{TagMatches}
use Rattle.mc_theory.specs.Readings.{AreRead, IsWordOf, Reading, RiseTo}
use Rattle.mc_words.proofs.Frames.{stands_on}
use Rattle.mc_words.proofs.Keys.{stripe_of-lt, tag_of-lt}
use Rattle.mc_words.specs.History.{map_value}
use Rattle.mc_words.specs.Keys.{stripe_of}
use Rattle.mc_words.specs.Places.{payload, slot_number, version}
use Rattle.mc_words.specs.Standing.{Stands}
use Rattle.mc_words.specs.declared.place.Place.{Place}
use Rattle.mc_words.specs.declared.shape.Shape.{Shape}
use Rattle.mc_theory.specs.declared.access.Access.{Access}
use Rattle.mc_theory.specs.declared.access.Access.TheVariants.{Version, Slot, Key, Value, Stamp, Moment, Mark}

-- the window from the first front to the last
open_window : (V : ℕ) (sh : Shape) (acts : List Made) (k f g : ℕ) → StaysEven V sh acts k f g → f ≤ g → Window V sh acts k f g
open_window V sh acts k f g stays le = window V sh acts k f g stays.shape stays.lawful le stays.even stays.same

-- if the key is at the last front, it was at an earlier one
was_there : (V : ℕ) (sh : Shape) (acts : List Made) (k f g n q i : ℕ) → Window V sh acts k f g → f ≤ n → n ≤ g → Stands V sh (front V sh acts g).words k q i → Stands V sh (front V sh acts n).words k q i
was_there V sh acts k f g n q i w a b is = (w.kept n g a b (omega arith)).same.back q i is

-- one reading in the window
still_so : (V : ℕ) (sh : Shape) (acts : List Made) (k f g n : ℕ) (a : Access) (x : ℕ) → StaysEven V sh acts k f g → f ≤ n → n ≤ g → IsWordOf V sh (front V sh acts n).words a x → IsStillSo sh (front V sh acts g) k a x
still_so V sh acts k f g n (Version t) x stays a b word = λ is.
    let below = stripe_of-lt sh k stays.shape in
    let early = versions_rise V sh acts f n (stripe_of sh k) stays.shape stays.lawful a below in
    let late = versions_rise V sh acts n g (stripe_of sh k) stays.shape stays.lawful b below in
    let here : x ≡ version (front V sh acts n).words (stripe_of sh k) = word ∙ ap (λ y. version (front V sh acts n).words y) is in
    let there : version (front V sh acts g).words t ≡ version (front V sh acts g).words (stripe_of sh k) = ap (λ y. version (front V sh acts g).words y) is in
    omega (arith, early, late, here, there, stays.same)
still_so V sh acts k f g n (Slot p) x stays a b word = λ i is.
    let w = open_window V sh acts k f g stays (omega arith) in
    (w.kept n g a b (omega arith)).same.slots (slot_number p) i (was_there V sh acts k f g n (slot_number p) i w a b is) ∙ sym word
still_so V sh acts k f g n (Key i) x stays a b word = λ q is.
    let w = open_window V sh acts k f g stays (omega arith) in
    (w.kept n g a b (omega arith)).same.items q i (was_there V sh acts k f g n q i w a b is) 0 (omega arith) ∙ sym word
still_so V sh acts k f g n (Value i j) x stays a b word = λ q is within.
    let w = open_window V sh acts k f g stays (omega arith) in
    (w.kept n g a b (omega arith)).same.items q i (was_there V sh acts k f g n q i w a b is) j within ∙ sym word
still_so V sh acts k f g n (Stamp i) x stays a b word = λ q is.
    let w = open_window V sh acts k f g stays (omega arith) in
    (w.kept n g a b (omega arith)).same.items q i (was_there V sh acts k f g n q i w a b is) (payload V) (omega arith) ∙ sym word
still_so V sh acts k f g n Moment x stays a b word =
    let w = open_window V sh acts k f g stays (omega arith) in
    let grown = history_rises V sh acts n g b in
    let cut : take x (front V sh acts g).history ≡ (front V sh acts n).history = rw grown.1 (take_at (front V sh acts n).history grown.0 x (sym (word ∙ w.at_moment n))) in
    ap (λ y. map_value y k) cut ∙ sym (w.kept n g a b (omega arith)).told
still_so V sh acts k f g n (Mark i) x stays a b word = tt

-- each of the readings
each_still_so : (V : ℕ) (sh : Shape) (acts : List Made) (k f g n : ℕ) (rs : List Reading) → StaysEven V sh acts k f g → f ≤ n → AreRead V sh acts rs → RiseTo n rs g →
    AllByRecursion (λ (r : Reading). IsStillSo sh (front V sh acts g) k r.access r.word) rs
each_still_so V sh acts k f g n [] stays a read rise = tt
each_still_so V sh acts k f g n (r ∷ rs) stays a read rise = (
  still_so V sh acts k f g r.front r.access r.word stays (omega (arith, rise.0)) (rise_le r.front rs g rise.1) read.0,
  each_still_so V sh acts k f g r.front rs stays (omega (arith, rise.0)) read.1 rise.1,
)

all_still_so : (V : ℕ) (sh : Shape) (acts : List Made) (k f g : ℕ) (rs : List Reading) → StaysEven V sh acts k f g → AreRead V sh acts rs → RiseTo f rs g →
    All (λ (r : Reading). IsStillSo sh (front V sh acts g) k r.access r.word) rs
all_still_so V sh acts k f g rs stays read rise =
    All-from_recursion (λ (r : Reading). IsStillSo sh (front V sh acts g) k r.access r.word) rs (each_still_so V sh acts k f g f rs stays (omega arith) read rise)

-- a slot in which the key is names its item under the key's tag
names_its_tag : (V : ℕ) (sh : Shape) (acts : List Made) (k f g n i : ℕ) (p : Place) (x : ℕ) → StaysEven V sh acts k f g → f ≤ n → n ≤ g → IsWordOf V sh (front V sh acts n).words (Slot p) x →
    Stands V sh (front V sh acts g).words k (slot_number p) i → TagMatches sh k x i
names_its_tag V sh acts k f g n i p x stays a b word is =
    let w = open_window V sh acts k f g stays (omega arith) in
    let there = was_there V sh acts k f g n (slot_number p) i w a b is in
    (is.names.in_items, word ∙ (tag_from_agree V sh _ k (slot_number p) i _ (w.agrees n a b) there).0)

is_passed : (V : ℕ) (sh : Shape) (acts : List Made) (k f g : ℕ) (p : Place) (r : Reading) → StaysEven V sh acts k f g → AreRead V sh acts (r ∷ []) → RiseTo f (r ∷ []) g →
    r.access ≡ Slot p → ((i : ℕ) → TagMatches sh k r.word i → ⊥) → (i : ℕ) → Stands V sh (front V sh acts g).words k (slot_number p) i → ⊥
is_passed V sh acts k f g p r stays read rise access none i is =
    none i (names_its_tag V sh acts k f g r.front i p r.word stays rise.0 rise.1 (word_at V sh (front V sh acts r.front).words (Slot p) r access read.0) is)

is_taken : (V : ℕ) (sh : Shape) (acts : List Made) (k f g i : ℕ) (p : Place) (r s : Reading) → StaysEven V sh acts k f g → AreRead V sh acts (r ∷ s ∷ []) → RiseTo f (r ∷ s ∷ []) g →
    TakesItem sh k p i r s → (s.word ≡ k) ↔ Stands V sh (front V sh acts g).words k (slot_number p) i
is_taken V sh acts k f g i p r s stays read rise takes =
    let w = open_window V sh acts k f g stays (omega (arith, rise.0, rise.1.0, rise.1.1)) in
    let named = word_at V sh (front V sh acts r.front).words (Slot p) r takes.reads_slot read.0 in
    let key = word_at V sh (front V sh acts s.front).words (Key i) s takes.reads_key read.1.0 in
    let tag = tag_of-lt sh k stays.key in (
      λ is. stands_on V sh _ _ k (slot_number p) i (w.kept f g (omega arith) (omega (arith, rise.0, rise.1.0, rise.1.1)) (omega arith)).same
          (hit_stands V sh acts k f g p r s i w takes.in_table tag rise.0 rise.1.0 rise.1.1 named key takes.names is),
      λ is. sym (still_so V sh acts k f g s.front (Key i) s.word stays (omega (arith, rise.0, rise.1.0)) rise.1.1 key (slot_number p) is) ∙ is.key,
    )

pub findings_stay : (V : ℕ) → FindingsStay V
findings_stay V = record { all = all_still_so V; passed = is_passed V; taken = is_taken V }
