-- What the readings of the slots, of the value words and of the stamp say of the first front of their window.
use Rattle.std.proofs.Common.{ℕ, zero, suc, ◌≡◌, ◌≢◌, ◌+◌, ◌*◌, ◌<◌, ◌≤◌, List, [], ◌∷◌, ◌++◌, length, Some, None, get_or, sym, ◌∙◌, ap, subst, inl, inr, arith}
use Rattle.std.proofs.lemmas.Bool.{cases_eq}
use Rattle.std.proofs.lemmas.List.{get_or_push, get_or_append_left}
use Rattle.mc_theory.specs.Lists.{Made, front}
use Rattle.mc_theory.specs.Lookups.{TagMatches, ReadsHit, ReadsValues, Scans}
use Rattle.mc_theory.specs.Readings.{AreRead, IsWordOf, Reading, RiseTo}
use Rattle.mc_words.proofs.Frames.{slot_word-parts, stands_on}
use Rattle.mc_words.proofs.Payload.{payload_is}
use Rattle.mc_words.specs.Keys.{tag_of}
use Rattle.mc_words.specs.Places.{payload, item, slot, slot_number}
use Rattle.mc_words.specs.Shapes.{IsShape}
use Rattle.mc_words.specs.Standing.{Stands}
use Rattle.mc_theory.specs.declared.access.Access.{Access}
use Rattle.mc_words.specs.declared.place.Place.{Place}
use Rattle.mc_words.specs.declared.shape.Shape.{Shape}
use Rattle.mc_theory.specs.declared.access.Access.TheVariants.{Slot, Key, Value, Stamp}
use Rattle.mc_theory.proofs.Lists.Readings.{rise_le, rise_parts, read_parts}
use Rattle.mc_theory.proofs.Replies.Windows.{Window, tag_from_agree}

-- ---- the slots, one after the other
abbrev pub InTable : Shape → List Place → Type 0
InTable sh [] = Unit {0}
InTable sh (p ∷ ps) = (slot_number p < 4 * sh.buckets) × InTable sh ps

-- a list that was read, as its first reading and the rest
pub read_at : (V : ℕ) (sh : Shape) (acts : List Made) (r : Reading) (rs more : List Reading) → rs ≡ r ∷ more → AreRead V sh acts rs → AreRead V sh acts (r ∷ more)
read_at V sh acts r rs more e a = subst (λ (y : List Reading). AreRead V sh acts y) e a

-- the same of fronts that rise
pub rise_at : (d e : ℕ) (r : Reading) (rs more : List Reading) → rs ≡ r ∷ more → RiseTo d rs e → RiseTo d (r ∷ more) e
rise_at d e r rs more h a = subst (λ (y : List Reading). RiseTo d y e) h a

-- the same of a word, by an equal access
pub word_at : (V : ℕ) (sh : Shape) (w : List ℕ) (a : Access) (r : Reading) → r.access ≡ a → IsWordOf V sh w r.access r.word → IsWordOf V sh w a r.word
word_at V sh w a r e h = subst (λ (y : Access). IsWordOf V sh w y r.word) e h

-- a hit: the key stands at the item
pub hit_stands : (V : ℕ) (sh : Shape) (acts : List Made) (k f g : ℕ) (p : Place) (r s : Reading) (i : ℕ) → Window V sh acts k f g → slot_number p < 4 * sh.buckets → tag_of sh k < 256 → f ≤ r.front → r.front ≤ s.front → s.front ≤ g → IsWordOf V sh (front V sh acts r.front).words (Slot p) r.word → IsWordOf V sh (front V sh acts s.front).words (Key i) s.word → TagMatches sh k r.word i → s.word ≡ k → Stands V sh (front V sh acts f).words k (slot_number p) i
hit_stands V sh acts k f g p r s i w table tag a b c slot_is key_is meets e =
    let then : Stands V sh (front V sh acts r.front).words k (slot_number p) i = record {
      names = record { tag = tag_of sh k; in_table = table; in_items = meets.0; is_tag = tag; word = sym slot_is ∙ meets.1 };
      key = (w.kept r.front s.front a b c).no_new i (sym key_is ∙ e);
    } in
    (w.kept f r.front (omega arith) a (omega arith)).same.back (slot_number p) i then

-- if a scan hits an item, the key stands there in some slot
pub scan_hit : (V : ℕ) (sh : Shape) (acts : List Made) (k f g d e i : ℕ) (ps : List Place) (rs : List Reading) → Window V sh acts k f g → tag_of sh k < 256 → InTable sh ps → f ≤ d → e ≤ g → AreRead V sh acts rs → RiseTo d rs e → Scans sh k ps rs (Some i) → (q : ℕ) × Stands V sh (front V sh acts f).words k q i
scan_hit V sh acts k f g d e i [] rs w tag table a b read rise scan = absurd (cc (scan.1))
scan_hit V sh acts k f g d e i (p ∷ ps) rs w tag table a b read rise scan =
    let r : Reading = scan.0 in
    let here = read_at V sh acts r rs scan.1 scan.2 read in
    let up = rise_at d e r rs scan.1 scan.2 rise in
    let word = word_at V sh (front V sh acts r.front).words (Slot p) r scan.3 here.0 in
    elim scan.4 [
      | inl x ↦ scan_hit V sh acts k f g r.front e i ps scan.1 w tag table.1 (omega (arith, up.0)) b here.1 up.1 x.1
      | inr y ↦
          let s : Reading = y.1 in
          let next = read_at V sh acts s scan.1 y.2 y.4 here.1 in
          let upper = rise_at r.front e s scan.1 y.2 y.4 up.1 in
          let key = word_at V sh (front V sh acts s.front).words (Key y.0) s y.5 next.0 in
          elim y.6 [
            | inl z ↦
                let is : i ≡ y.0 = cc (z.2) in (
                  slot_number p,
                  subst (λ (u : ℕ). Stands V sh (front V sh acts f).words k (slot_number p) u) (sym is)
                      (hit_stands V sh acts k f g p r s y.0 w table.0 tag (omega (arith, up.0)) upper.0 (omega (arith, rise_le s.front y.2 e upper.1)) word key y.3 z.0),
                )
            | inr z ↦ scan_hit V sh acts k f g s.front e i ps y.2 w tag table.1 (omega (arith, up.0, upper.0)) b next.1 upper.1 z.1
          ]
    ]

-- none of the slots is this one
abbrev pub NoneIs : ℕ → List Place → Type 0
NoneIs q [] = Unit {0}
NoneIs q (p ∷ ps) = (slot_number p ≢ q) × NoneIs q ps

-- if it misses, the key stands in none of the slots that were read
pub scan_miss : (V : ℕ) (sh : Shape) (acts : List Made) (k f g d e q i : ℕ) (ps : List Place) (rs : List Reading) → IsShape sh → Window V sh acts k f g → f ≤ d → e ≤ g → AreRead V sh acts rs → RiseTo d rs e → Scans sh k ps rs None → Stands V sh (front V sh acts f).words k q i → NoneIs q ps
scan_miss V sh acts k f g d e q i [] rs shape w a b read rise scan st = tt
scan_miss V sh acts k f g d e q i (p ∷ ps) rs shape w a b read rise scan st =
    let r : Reading = scan.0 in
    let here = read_at V sh acts r rs scan.1 scan.2 read in
    let up = rise_at d e r rs scan.1 scan.2 rise in
    let word = word_at V sh (front V sh acts r.front).words (Slot p) r scan.3 here.0 in
    let end : r.front ≤ e = rise_le r.front scan.1 e up.1 in
    let still : Stands V sh (front V sh acts r.front).words k q i = stands_on V sh _ _ k q i (w.kept f r.front (omega arith) (omega (arith, up.0)) (omega arith)).same st in
    let tagged = (tag_from_agree V sh _ k q i _ (w.agrees r.front (omega (arith, up.0)) (omega arith)) still).0 in
    let meets : slot_number p ≡ q → TagMatches sh k r.word i = λ h. (st.names.in_items, word ∙ ap (λ y. slot sh (front V sh acts r.front).words y) h ∙ tagged) in
    elim scan.4 [
      | inl x ↦ (λ h. x.0 i (meets h), scan_miss V sh acts k f g r.front e q i ps scan.1 shape w (omega (arith, up.0)) b here.1 up.1 x.1 st)
      | inr y ↦
          let s : Reading = y.1 in
          let next = read_at V sh acts s scan.1 y.2 y.4 here.1 in
          let upper = rise_at r.front e s scan.1 y.2 y.4 up.1 in
          let key = word_at V sh (front V sh acts s.front).words (Key y.0) s y.5 next.0 in
          let after : s.front ≤ e = rise_le s.front y.2 e upper.1 in
          elim y.6 [
            | inl z ↦ absurd (cc (z.2))
            | inr z ↦ (
              λ h.
                  let same : y.0 ≡ i = (slot_word-parts (tag_of sh k) (tag_of sh k) y.0 i (omega (arith, y.3.0, shape.items.1, shape.buckets.1)) (omega (arith, st.names.in_items, shape.items.1, shape.buckets.1)) (sym y.3.1 ∙ (meets h).1)).1 in
                  let later : Stands V sh (front V sh acts s.front).words k q i = stands_on V sh _ _ k q i (w.kept f s.front (omega arith) (omega (arith, up.0, upper.0)) (omega arith)).same st in
                  z.0 (key ∙ ap (λ u. item V sh (front V sh acts s.front).words u 0) same ∙ later.key),
              scan_miss V sh acts k f g s.front e q i ps y.2 shape w (omega (arith, up.0, upper.0)) b next.1 upper.1 z.1 st,
            )
          ]
    ]

-- ---- the value words, and the stamp
pub values_are : (V : ℕ) (sh : Shape) (acts : List Made) (k f g d e q i j : ℕ) (rs : List Reading) (v : List ℕ) → Window V sh acts k f g → Stands V sh (front V sh acts f).words k q i → f ≤ d → e ≤ g → AreRead V sh acts rs → RiseTo d rs e → ReadsValues i j rs v → (m : ℕ) → m < length v → j + m ≤ payload V → get_or v m 0 ≡ item V sh (front V sh acts f).words i (j + m)
values_are V sh acts k f g d e q i j [] [] w st a b read rise is m l fits = absurd (omega arith)
values_are V sh acts k f g d e q i j (r ∷ rs) (x ∷ xs) w st a b read rise is zero l fits =
    let word = word_at V sh (front V sh acts r.front).words (Value i j) r is.0 read.0 in
    let end : r.front ≤ e = rise_le r.front rs e rise.1 in
    let same = (w.kept f r.front (omega arith) (omega (arith, rise.0)) (omega arith)).same.items q i st j (omega arith) in
    let z : j + 0 ≡ j = omega arith in
    rw z (sym is.1 ∙ word ∙ same)
values_are V sh acts k f g d e q i j (r ∷ rs) (x ∷ xs) w st a b read rise is (suc m) l fits =
    let z : j + suc m ≡ (j + 1) + m = omega arith in
    rw z (values_are V sh acts k f g r.front e q i (j + 1) rs xs w st (omega (arith, rise.0)) b read.1 rise.1 is.2 m (omega arith) (omega arith))
values_are V sh acts k f g d e q i j [] (x ∷ xs) w st a b read rise is m l fits = absurd is
values_are V sh acts k f g d e q i j (r ∷ rs) [] w st a b read rise is m l fits = absurd is

-- all words of a hit: the value and the stamp
pub held_are : (V : ℕ) (sh : Shape) (acts : List Made) (k f g d e q i : ℕ) (rs : List Reading) (held : List ℕ) → Window V sh acts k f g → Stands V sh (front V sh acts f).words k q i → f ≤ d → e ≤ g → AreRead V sh acts rs → RiseTo d rs e → ReadsHit V (Some i) rs held → (m : ℕ) → m < payload V → get_or held m 0 ≡ item V sh (front V sh acts f).words i (m + 1)
held_are V sh acts k f g d e q i rs held w st a b read rise hit m l =
    let r : Reading = hit.1 in
    let both = read_parts V sh acts hit.0 (r ∷ []) (subst (λ (y : List Reading). AreRead V sh acts y) hit.3 read) in
    let parts = rise_parts d hit.0 (r ∷ []) e (subst (λ (y : List Reading). RiseTo d y e) hit.3 rise) in
    let start : d ≤ parts.0 = rise_le d hit.0 parts.0 parts.1 in
    let last : parts.0 ≤ r.front = parts.2.0 in
    let end : r.front ≤ e = parts.2.1 in
    rw hit.4
    (elim (cases_eq m V) [
      | inl is ↦
          let word = word_at V sh (front V sh acts r.front).words (Stamp i) r hit.7 both.1.0 in
          let same = (w.kept f r.front (omega arith) (omega (arith, a, start, last)) (omega (arith, end, b))).same.items q i st (payload V) (omega arith) in
          get_or_push hit.2 r.word 0 m (omega (arith, hit.5, is)) ∙ word ∙ same ∙ ap (λ y. item V sh (front V sh acts f).words i y) (omega (arith, is, payload_is V))
      | inr ne ↦
          let less : m < V = omega (arith, ne, l, payload_is V) in
          get_or_append_left hit.2 (r.word ∷ []) 0 m (omega (arith, less, hit.5)) ∙
          values_are V sh acts k f g d parts.0 q i 1 hit.0 hit.2 w st a (omega (arith, last, end, b)) both.0 parts.1 hit.6 m (omega (arith, less, hit.5)) (omega (arith, l)) ∙
          ap (λ y. item V sh (front V sh acts f).words i y) (omega arith)
    ])
