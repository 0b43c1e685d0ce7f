-- What holds in the middle of a deed, after each act.
use Rattle.std.proofs.Common.{ℕ, ◌≡◌, ◌≢◌, ◌+◌, ◌*◌, ◌/◌, ◌^◌, ◌<◌, ◌≤◌, List, [], ◌∷◌, ◌++◌, length, Option, Some, None, refl, sym, ◌∙◌, ap, subst, inl, inr, arith}
use Rattle.std.specs.Option.{IsSome}
use Rattle.std.proofs.lemmas.Bool.{cases_eq}
use Rattle.std.proofs.lemmas.List.{length_push, get_or_push, get_or_append_left}
use Rattle.mc_theory.proofs.Invariant.OtherKeys.{cleared_stands, names_back-with_item, slot_in, written_stands}
use Rattle.mc_theory.specs.Acts.{IsStampAt, MayOpen}
use Rattle.mc_theory.specs.Inner.{DeedFacts, IsFillReady, IsStamped, StandsTwice}
use Rattle.mc_theory.specs.Phases.{first_phase}
use Rattle.mc_words.proofs.Frames.{SameFor, agrees_on, begins_on, empty_names_none, moved_names}
use Rattle.mc_words.proofs.Keys.{alternate-alternate, tag_of-lt}
use Rattle.mc_words.proofs.Payload.{payload_is}
use Rattle.mc_words.proofs.Places.{item-with_item_other, item-with_item_same, item-with_item_word, item-with_slot, slot-with_item, slot-with_slot_other, slot-with_slot_same}
use Rattle.mc_words.specs.History.{map_value}
use Rattle.mc_words.specs.Keys.{IsBucketOf, alternate, first_of, slot_word, tag_of}
use Rattle.mc_words.specs.Places.{item, moment, payload, slot, slot_number, with_item, with_slot, word_count}
use Rattle.mc_words.specs.Shapes.{IsShape}
use Rattle.mc_words.specs.Standing.{AgreesAt, ItemBegins, HasPayload, IsAbsent, IsEmpty, IsFree, IsPresent, NamesItem, OnlyAt, Stands}
use Rattle.mc_theory.specs.declared.act.Deed.{Deed}
use Rattle.mc_words.specs.declared.history.Change.{Change}
use Rattle.mc_words.specs.declared.place.Place.{Place}
use Rattle.mc_words.specs.declared.shape.Shape.{Shape}
use Rattle.mc_theory.specs.declared.act.Deed.TheVariants as deed

-- ---- what the agreement says of a key that stands, or doesn't
pub held_from_absent : (V : ℕ) (sh : Shape) (w : List ℕ) (k : ℕ) (o : Option (List ℕ)) → AgreesAt V sh w k o → IsAbsent V sh w k → o ≡ None
held_from_absent V sh w k None a none = refl
held_from_absent V sh w k (Some v) a none = absurd (none a.0 a.1 a.2.stands)

-- a key that agrees and stands somewhere has a value in the history
pub held_from_present : (V : ℕ) (sh : Shape) (w : List ℕ) (k : ℕ) (o : Option (List ℕ)) → AgreesAt V sh w k o → IsPresent V sh w k → (v : List ℕ) × (o ≡ Some v) × AgreesAt V sh w k (Some v)
held_from_present V sh w k None a here = absurd (a here.0 here.1 here.2)
held_from_present V sh w k (Some v) a here = (v, refl, a)

-- what is this value is some
pub some_from : {A : Type 0} (o : Option A) (v : A) → o ≡ Some v → IsSome o
some_from o v e = rw e refl

-- an absent key stays absent in words that are the same for it
pub absent_on : (V : ℕ) (sh : Shape) (w x : List ℕ) (k : ℕ) → SameFor V sh w x k → IsAbsent V sh w k → IsAbsent V sh x k
absent_on V sh w x k s a = λ q i h. a q i (s.back q i h)

-- ---- a slot number and its bucket
pub bucket_of_number : (p : Place) → p.slot < 4 → slot_number p / 4 ≡ p.bucket
bucket_of_number p l = omega arith

-- ---- the stamp
-- no word was written yet
pub unstamped : (V : ℕ) (h : List (Change V)) → IsStamped V h []
unstamped V h none = absurd (omega (arith, none, payload_is V))

-- after one word more
pub stamped_more : (V : ℕ) (w : List ℕ) (h : List (Change V)) (xs : List ℕ) (x : ℕ) → moment w ≡ length h → IsStampAt V w (length xs + 1) x → IsStamped V h (xs ++ x ∷ [])
stamped_more V w h xs x at is whole =
    let many : length xs ≡ V = omega (arith, whole, length_push xs x, payload_is V) in
    get_or_push xs x 0 V many ∙ is (omega (arith, many, payload_is V)) ∙ ap (λ n. n + 1) at

-- ---- open
pub open_facts : (V : ℕ) (sh : Shape) (w x : List ℕ) (cleared : Option ℕ) (h : List (Change V)) (k : ℕ) (d : Deed) → SameFor V sh w x k → AgreesAt V sh w k (map_value h k) → k < 2 ^ 64 → MayOpen V sh w cleared k d → DeedFacts V sh x h (first_phase k d)
open_facts V sh w x cleared h k deed.Fill s a l may = (l, absent_on V sh w x k s may.0, held_from_absent V sh w k (map_value h k) a may.0)
open_facts V sh w x cleared h k deed.Renew s a l may =
    let here = held_from_present V sh w k (map_value h k) a may in
    let after = agrees_on V sh w x k (Some here.0) s here.2 in
    ((after.0, after.1, after.2, λ j b. absurd (omega arith)), omega arith, some_from (map_value h k) here.0 here.1, unstamped V h)
open_facts V sh w x cleared h k deed.Remove s a l may =
    let here = held_from_present V sh w k (map_value h k) a may in
    let after = agrees_on V sh w x k (Some here.0) s here.2 in
    ((after.0, after.1, after.2), some_from (map_value h k) here.0 here.1)
open_facts V sh w x cleared h k deed.Evict s a l may =
    let here = held_from_present V sh w k (map_value h k) a (may.0, may.1, may.2) in
    let after = agrees_on V sh w x k (Some here.0) s here.2 in
    ((after.0, after.1, after.2), some_from (map_value h k) here.0 here.1)
open_facts V sh w x cleared h k deed.Move s a l may =
    let here = held_from_present V sh w k (map_value h k) a may in
    (here.0, here.1, agrees_on V sh w x k (Some here.0) s here.2)

-- ---- a fill
pub keyed_facts : (V : ℕ) (sh : Shape) (w : List ℕ) (k i : ℕ) → word_count V sh ≤ length w → k < 2 ^ 64 → IsAbsent V sh w k → i < sh.items → IsFree sh w i → IsFillReady V sh (with_item V sh w i 0 k) k i []
keyed_facts V sh w k i size l none below free = record {
  in_range = l;
  in_items = below;
  free = λ q a. free q (names_back-with_item V sh w i 0 k q i a);
  key = item-with_item_same V sh w i 0 k below (omega arith) size;
  absent = λ q g a.
      let back = names_back-with_item V sh w i 0 k q g a.names in
      let apart : i ≢ g = λ e. free q (subst (λ (y : ℕ). NamesItem sh w q y) (sym e) back) in
      none q g (record { names = back; key = sym (item-with_item_other V sh w i 0 k g 0 apart (omega arith) (omega arith)) ∙ a.key });
  fits = omega arith;
  begins = λ j b. absurd (omega arith);
}

-- the value words so far, after one more
pub begins_more : (V : ℕ) (sh : Shape) (w : List ℕ) (i x : ℕ) (xs : List ℕ) → word_count V sh ≤ length w → i < sh.items → length xs + 1 ≤ payload V → ItemBegins V sh w i xs → ItemBegins V sh (with_item V sh w i (length xs + 1) x) i (xs ++ x ∷ [])
begins_more V sh w i x xs size below l b j h =
    elim (cases_eq j (length xs)) [
      | inl e ↦
          rw e (item-with_item_same V sh w i (length xs + 1) x below l size ∙ sym (get_or_push xs x 0 (length xs) refl))
      | inr ne ↦
          let less : j < length xs = omega (arith, length_push xs x) in
          item-with_item_word V sh w i (length xs + 1) x (j + 1) (omega arith) ∙ b j less ∙ sym (get_or_append_left xs (x ∷ []) 0 j less)
    ]

-- one more word is written of an item that is being filled
pub ready_more : (V : ℕ) (sh : Shape) (w : List ℕ) (k i x : ℕ) (xs : List ℕ) → word_count V sh ≤ length w → length xs + 1 ≤ payload V → IsFillReady V sh w k i xs → IsFillReady V sh (with_item V sh w i (length xs + 1) x) k i (xs ++ x ∷ [])
ready_more V sh w k i x xs size l r = record {
  in_range = r.in_range;
  in_items = r.in_items;
  free = λ q a. r.free q (names_back-with_item V sh w i (length xs + 1) x q i a);
  key = item-with_item_word V sh w i (length xs + 1) x 0 (omega arith) ∙ r.key;
  absent = λ q g a.
      let back = names_back-with_item V sh w i (length xs + 1) x q g a.names in
      let apart : i ≢ g = λ e. r.free q (subst (λ (y : ℕ). NamesItem sh w q y) (sym e) back) in
      r.absent q g (record { names = back; key = sym (item-with_item_other V sh w i (length xs + 1) x g 0 apart l (omega arith)) ∙ a.key });
  fits = omega (arith, length_push xs x);
  begins = begins_more V sh w i x xs size r.in_items l r.begins;
}

-- a key that stood nowhere, at an item that a slot names now
pub placed_only : (V : ℕ) (sh : Shape) (w : List ℕ) (k i p x : ℕ) (xs : List ℕ) → IsShape sh → word_count V sh ≤ length w → IsFillReady V sh w k i xs → IsEmpty sh w p → IsBucketOf sh k (p / 4) → x ≡ slot_word (tag_of sh k) i → OnlyAt V sh (with_slot sh w p x) k p i
placed_only V sh w k i p x xs s size r empty bucket e =
    let word : slot sh (with_slot sh w p x) p ≡ slot_word (tag_of sh k) i = slot-with_slot_same sh w p x (slot_in V sh w p size empty.0) ∙ e in
    record {
      stands = record {
        names = record { tag = tag_of sh k; in_table = empty.0; in_items = r.in_items; is_tag = tag_of-lt sh k r.in_range; word = word };
        key = item-with_slot V sh w p x i 0 empty.0 ∙ r.key;
      };
      once = λ q g a. elim (cases_eq q p) [
        | inl h ↦ (h, (written_stands V sh w p x k (tag_of sh k) i g s size empty.0 e r.in_items (subst (λ (y : ℕ). Stands V sh (with_slot sh w p x) k y g) h a)).0)
        | inr ne ↦ absurd (r.absent q g (record {
          names = moved_names sh (with_slot sh w p x) w q g (sym (slot-with_slot_other sh w p x q ne)) a.names;
          key = sym (item-with_slot V sh w p x g 0 empty.0) ∙ a.key;
        }))
      ];
      tagged = word;
      placed = bucket;
    }

-- ---- a renewal: a write of a value word leaves where keys stand
pub key-with_value : (V : ℕ) (sh : Shape) (w : List ℕ) (i j x g : ℕ) → j ≢ 0 → j ≤ payload V → item V sh (with_item V sh w i j x) g 0 ≡ item V sh w g 0
key-with_value V sh w i j x g ne l =
    elim (cases_eq i g) [
      | inl e ↦ subst (λ (y : ℕ). item V sh (with_item V sh w i j x) y 0 ≡ item V sh w y 0) e (item-with_item_word V sh w i j x 0 (λ z. ne (sym z)))
      | inr apart ↦ item-with_item_other V sh w i j x g 0 apart l (omega arith)
    ]

-- writing a word of a value leaves where a key stands
pub only-with_value : (V : ℕ) (sh : Shape) (w : List ℕ) (k q g i j x : ℕ) → j ≢ 0 → j ≤ payload V → OnlyAt V sh w k q g → OnlyAt V sh (with_item V sh w i j x) k q g
only-with_value V sh w k q g i j x ne l a =
    let same : slot sh (with_item V sh w i j x) q ≡ slot sh w q = slot-with_item V sh w i j x q a.stands.names.in_table in
    record {
      stands = record { names = moved_names sh w (with_item V sh w i j x) q g same a.stands.names; key = key-with_value V sh w i j x g ne l ∙ a.stands.key };
      once = λ p f b. a.once p f (record { names = names_back-with_item V sh w i j x p f b.names; key = sym (key-with_value V sh w i j x f ne l) ∙ b.key });
      tagged = same ∙ a.tagged;
      placed = a.placed;
    }

-- ---- a slot that is cleared
pub back-with_slot : (V : ℕ) (sh : Shape) (w : List ℕ) (p x k q g : ℕ) → p < 4 * sh.buckets → q ≢ p → Stands V sh (with_slot sh w p x) k q g → Stands V sh w k q g
back-with_slot V sh w p x k q g l ne a = record {
  names = moved_names sh (with_slot sh w p x) w q g (sym (slot-with_slot_other sh w p x q ne)) a.names;
  key = sym (item-with_slot V sh w p x g 0 l) ∙ a.key;
}

-- a key still stands in a slot when another is written
forth-with_slot : (V : ℕ) (sh : Shape) (w : List ℕ) (p x k q g : ℕ) → p < 4 * sh.buckets → q ≢ p → Stands V sh w k q g → Stands V sh (with_slot sh w p x) k q g
forth-with_slot V sh w p x k q g l ne a = record {
  names = moved_names sh w (with_slot sh w p x) q g (slot-with_slot_other sh w p x q ne) a.names;
  key = item-with_slot V sh w p x g 0 l ∙ a.key;
}

-- a key that stood in one slot is absent when that is cleared
pub removed_absent : (V : ℕ) (sh : Shape) (w : List ℕ) (k p x q i g : ℕ) → word_count V sh ≤ length w → x ≡ 0 → OnlyAt V sh w k q i → Stands V sh w k p g → IsAbsent V sh (with_slot sh w p x) k
removed_absent V sh w k p x q i g size e only here r f a =
    elim (cases_eq r p) [
      | inl h ↦ cleared_stands V sh w p x k f size here.names.in_table e (subst (λ (y : ℕ). Stands V sh (with_slot sh w p x) k y f) h a)
      | inr ne ↦ ne ((only.once r f (back-with_slot V sh w p x k r f here.names.in_table ne a)).0 ∙ sym (only.once p g here).0)
    ]

-- ---- a move
pub twice_facts : (V : ℕ) (sh : Shape) (w : List ℕ) (k p x q i : ℕ) (v : List ℕ) → IsShape sh → word_count V sh ≤ length w → IsEmpty sh w p → p / 4 ≡ alternate sh (q / 4) (tag_of sh k) → x ≡ slot sh w q → OnlyAt V sh w k q i → HasPayload V sh w i v → StandsTwice V sh (with_slot sh w p x) k p v
twice_facts V sh w k p x q i v s size empty bucket e only val =
    let apart : q ≢ p = λ h. empty_names_none sh w q i (ap (λ y. slot sh w y) h ∙ empty.1) only.stands.names in
    let word : slot sh (with_slot sh w p x) p ≡ slot sh w q = slot-with_slot_same sh w p x (slot_in V sh w p size empty.0) ∙ e in
    let old = only.stands in
    record {
      at = q;
      of = i;
      apart = apart;
      there = forth-with_slot V sh w p x k q i empty.0 apart old;
      here = record {
        names = record { tag = old.names.tag; in_table = empty.0; in_items = old.names.in_items; is_tag = old.names.is_tag; word = word ∙ old.names.word };
        key = item-with_slot V sh w p x i 0 empty.0 ∙ old.key;
      };
      twice = λ r g a. elim (cases_eq r p) [
        | inl h ↦ (inr h, (written_stands V sh w p x k old.names.tag i g s size empty.0 (e ∙ old.names.word) old.names.in_items (subst (λ (y : ℕ). Stands V sh (with_slot sh w p x) k y g) h a)).0)
        | inr ne ↦
            let both = only.once r g (back-with_slot V sh w p x k r g empty.0 ne a) in
            (inl both.0, both.1)
      ];
      tagged = word ∙ only.tagged;
      placed = rw bucket (elim only.placed [
        | inl y ↦ inr (ap (λ b. alternate sh b (tag_of sh k)) y)
        | inr y ↦ inl (ap (λ b. alternate sh b (tag_of sh k)) y ∙ alternate-alternate sh (first_of sh k) (tag_of sh k))
      ]);
      held = (val.0, begins_on V sh w (with_slot sh w p x) i v (λ j l. item-with_slot V sh w p x i j empty.0) (omega (arith, val.0)) val.1);
    }

-- of two slots with a key, clearing one leaves it in the other
pub moved_only : (V : ℕ) (sh : Shape) (w : List ℕ) (k fresh p x g : ℕ) (v : List ℕ) → word_count V sh ≤ length w → x ≡ 0 → p ≢ fresh → StandsTwice V sh w k fresh v → Stands V sh w k p g → AgreesAt V sh (with_slot sh w p x) k (Some v)
moved_only V sh w k fresh p x g v size e apart t gone =
    let here = forth-with_slot V sh w p x k fresh t.of gone.names.in_table (λ h. apart (sym h)) t.here in
    let is_at : p ≡ t.at = elim (t.twice p g gone).0 [ inl h ↦ h | inr h ↦ absurd (apart h) ] in (
      fresh,
      t.of,
      record {
        stands = here;
        once = λ r f a. elim (cases_eq r p) [
          | inl h ↦ absurd (cleared_stands V sh w p x k f size gone.names.in_table e (subst (λ (y : ℕ). Stands V sh (with_slot sh w p x) k y f) h a))
          | inr ne ↦
              let two = t.twice r f (back-with_slot V sh w p x k r f gone.names.in_table ne a) in
              (elim two.0 [ inl h ↦ absurd (ne (h ∙ sym is_at)) | inr h ↦ h ], two.1)
        ];
        tagged = slot-with_slot_other sh w p x fresh (λ h. apart (sym h)) ∙ t.tagged;
        placed = t.placed;
      },
      (t.held.0, begins_on V sh w (with_slot sh w p x) t.of v (λ j l. item-with_slot V sh w p x t.of j gone.names.in_table) (omega (arith, t.held.0)) t.held.1),
    )
