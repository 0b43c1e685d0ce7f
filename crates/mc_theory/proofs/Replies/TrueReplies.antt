-- What a lookup replies is true, at a moment of its span.
use Rattle.std.proofs.Common.{ℕ, zero, suc, ◌≡◌, ◌≢◌, ◌+◌, ◌/◌, ◌^◌, ◌<◌, ◌≤◌, List, [], ◌∷◌, ◌++◌, length, take, Option, Some, None, refl, sym, ◌∙◌, ap, subst, inl, inr, arith, length-append}
use Rattle.std.proofs.lemmas.List.{ext_get_or, length-take, take_at}
use Rattle.mc_theory.proofs.Invariant.RunningDeed.{held_from_absent, held_from_present}
use Rattle.mc_theory.proofs.Lists.Fronts.{front_all, front_holds}
use Rattle.mc_theory.specs.Laws.{AgreesAlways, RepliesAreTrue, StaysWhileEven}
use Rattle.mc_theory.specs.Lists.{IsLawful, Made, front, state_of}
use Rattle.mc_theory.specs.Lookups.{IsLookup, ReadsHit, Scans, Tries, reply_of, slots_for, slots_of}
use Rattle.mc_theory.specs.Plain.{IsBetween}
use Rattle.mc_theory.specs.Readings.{AreRead, Reading, RiseTo}
use Rattle.mc_theory.specs.States.{State}
use Rattle.mc_words.proofs.Frames.{stands_on}
use Rattle.mc_words.proofs.Keys.{alternate-lt, first_of-lt, tag_of-lt}
use Rattle.mc_words.proofs.Payload.{payload_is, whole_payload}
use Rattle.mc_words.specs.History.{IsTrueAnswer, map_value, since_of}
use Rattle.mc_words.specs.Keys.{first_of, second_of, stripe_of, tag_of}
use Rattle.mc_words.specs.Places.{item, payload, version}
use Rattle.mc_words.specs.Shapes.{IsShape}
use Rattle.mc_words.specs.Standing.{HasPayload}
use Rattle.mc_words.specs.declared.history.Change.{Change}
use Rattle.mc_words.specs.declared.history.Reply.{Reply}
use Rattle.mc_words.specs.declared.place.Place.{Place}
use Rattle.mc_words.specs.declared.shape.Shape.{Shape}
use Rattle.mc_theory.specs.declared.access.Access.TheVariants.{Version, Moment}
use Rattle.mc_words.specs.declared.history.Reply.TheVariants.{Found, Absent, Busy}
use Rattle.mc_theory.proofs.Lists.Readings.{rise_le, rise_parts, read_parts}
use Rattle.mc_theory.proofs.Replies.Windows.{Window, window, tag_from_agree}
use Rattle.mc_theory.proofs.Lists.Histories.{history_rises, moments_rise}
use Rattle.mc_theory.proofs.Replies.Scans.{InTable, read_at, rise_at, word_at, scan_hit, scan_miss, NoneIs, held_are}

-- ---- a whole try
slots_in : (sh : Shape) (b : ℕ) (ps : List Place) → b < sh.buckets → InTable sh ps → InTable sh (slots_of b ++ ps)
slots_in sh b ps l t = (omega arith, (omega arith, (omega arith, (omega arith, t))))

slots_for_in : (sh : Shape) (k : ℕ) → IsShape sh → InTable sh (slots_for sh k)
slots_for_in sh k s =
    let one : first_of sh k < sh.buckets = first_of-lt sh k s in
    slots_in sh (first_of sh k) (slots_of (second_of sh k)) one (slots_in sh (second_of sh k) [] (alternate-lt sh (first_of sh k) (tag_of sh k) s one) tt)

-- a slot that is none of a bucket's slots is in another bucket
none_in : (q b : ℕ) (ps : List Place) → NoneIs q (slots_of b ++ ps) → q / 4 ≢ b
none_in q b ps h e = omega arith

-- none of more slots is none of the last of them
none_after : (q b : ℕ) (ps : List Place) → NoneIs q (slots_of b ++ ps) → NoneIs q ps
none_after q b ps h = h.1.1.1.1

-- the moment that was read is a front's, and the whole history says of the key what that front's does
told_at : (V : ℕ) (sh : Shape) (acts : List Made) (m at : ℕ) → at ≡ length (front V sh acts m).history → m ≤ length acts → take at (state_of V sh acts).history ≡ (front V sh acts m).history
told_at V sh acts m at e le =
    let all = history_rises V sh acts m (length acts) le in
    let h : (state_of V sh acts).history ≡ (front V sh acts m).history ++ all.0 =
    ap (λ (s : State V). s.history) (sym (front_all V sh acts (length acts) (omega arith))) ∙ all.1 in
    rw h (take_at (front V sh acts m).history all.0 at (sym e))

abbrev pub told_of : Option ℕ → List ℕ → Option (List ℕ)
told_of None v = None
told_of (Some i) v = Some v

-- what was read within a window is what the map held then
held_length : (V i : ℕ) (rs : List Reading) (held : List ℕ) → ReadsHit V (Some i) rs held → length held ≡ payload V
held_length V i rs held reads = let all = ap length reads.4 ∙ length-append reads.2 (reads.1.word ∷ []) in omega (arith, all, reads.5, payload_is V)

hit_told : (V : ℕ) (sh : Shape) (acts : List Made) (k f g d b c e : ℕ) (hit : Option ℕ) (v : List ℕ) (scan values : List Reading) → IsShape sh → Window V sh acts k f g → k < 2 ^ 64 → f ≤ d → b ≤ g → f ≤ c → e ≤ g → f ≤ g → AreRead V sh acts scan → RiseTo d scan b → Scans sh k (slots_for sh k) scan hit → AreRead V sh acts values → RiseTo c values e → ReadsHit V hit values v → map_value (front V sh acts f).history k ≡ told_of hit v
hit_told V sh acts k f g d b c e None v scan values shape w key_in fd bg fc eg fg scan_read scan_rise scans values_read values_rise reads =
    held_from_absent V sh (front V sh acts f).words k (map_value (front V sh acts f).history k) (w.agrees f (omega arith) fg) (λ q i st.
    let none = scan_miss V sh acts k f g d b q i (slots_for sh k) scan shape w fd bg scan_read scan_rise scans st in
    elim (tag_from_agree V sh (front V sh acts f).words k q i (map_value (front V sh acts f).history k) (w.agrees f (omega arith) fg) st).1 [
      | inl y ↦ none_in q (first_of sh k) (slots_of (second_of sh k)) none y
      | inr y ↦ none_in q (second_of sh k) [] (none_after q (first_of sh k) (slots_of (second_of sh k)) none) y
    ])
hit_told V sh acts k f g d b c e (Some i) v scan values shape w key_in fd bg fc eg fg scan_read scan_rise scans values_read values_rise reads =
    let at = scan_hit V sh acts k f g d b i (slots_for sh k) scan w (tag_of-lt sh k key_in) (slots_for_in sh k shape) fd bg scan_read scan_rise scans in
    let here = held_from_present V sh (front V sh acts f).words k (map_value (front V sh acts f).history k) (w.agrees f (omega arith) fg) (at.0, i, at.1) in
    let is : i ≡ here.2.1 = (here.2.2.once at.0 i at.1).1 in
    let holds : HasPayload V sh (front V sh acts f).words here.2.1 here.0 = here.2.3 in
    let many = held_length V i values v reads in
    let same : v ≡ here.0 = ext_get_or 0 v here.0 (many ∙ sym holds.0) (λ m l.
    held_are V sh acts k f g c e at.0 i values v w at.1 fc eg values_read values_rise reads m (omega (arith, l, many)) ∙
    ap (λ y. item V sh (front V sh acts f).words y (m + 1)) is ∙
    holds.1 m (omega (arith, l, many, holds.0))) in
    here.1 ∙ ap Some (sym same)

-- what a hit read has a value and a stamp
abbrev pub IsWhole : ℕ → Option ℕ → List ℕ → Type 0
IsWhole V None held = Unit {0}
IsWhole V (Some i) held = length held ≡ payload V

hit_whole : (V : ℕ) (hit : Option ℕ) (rs : List Reading) (held : List ℕ) → ReadsHit V hit rs held → IsWhole V hit held
hit_whole V None rs held reads = tt
hit_whole V (Some i) rs held reads = held_length V i rs held reads

answer_true : {V : ℕ} (h : List (Change V)) (k at lo hi : ℕ) (hit : Option ℕ) (v : List ℕ) → IsWhole V hit v → at ≤ length h → map_value (take at h) k ≡ told_of hit v → lo ≤ at → at ≤ hi → IsTrueAnswer h k (reply_of {V = V} hit v at) × IsBetween lo hi (reply_of {V = V} hit v at)
answer_true h k at lo hi None v whole a b c d = ((a, b), (c, d))
answer_true {V} h k at lo hi (Some i) v whole a b c d = ((a, b ∙ ap Some (sym (whole_payload V (since_of V v) v whole refl))), (c, d))

-- what a try with one version throughout replies is true, at a moment of its span
pub try_true : (V : ℕ) (sh : Shape) (acts : List Made) (k d e : ℕ) (rs : List Reading) (hit : Option ℕ) (v : List ℕ) (x at : ℕ) → IsShape sh → IsLawful V sh acts → k < 2 ^ 64 → e ≤ length acts → AreRead V sh acts rs → RiseTo d rs e → Tries V sh k rs hit v x x at →
    IsTrueAnswer (state_of V sh acts).history k (reply_of {V = V} hit v at) × IsBetween (length (front V sh acts d).history) (length (front V sh acts e).history) (reply_of {V = V} hit v at)
try_true V sh acts k d e rs hit v x at shape lawful key_in within read rise t =
    let all = t.scan ++ (t.values ++ t.mid ∷ t.last ∷ []) in
    let read_all = read_at V sh acts t.first rs all t.parts read in
    let rise_all = rise_at d e t.first rs all t.parts rise in
    let read_scan = read_parts V sh acts t.scan (t.values ++ t.mid ∷ t.last ∷ []) read_all.1 in
    let rise_scan = rise_parts t.first.front t.scan (t.values ++ t.mid ∷ t.last ∷ []) e rise_all.1 in
    let read_values = read_parts V sh acts t.values (t.mid ∷ t.last ∷ []) read_scan.1 in
    let rise_values = rise_parts rise_scan.0 t.values (t.mid ∷ t.last ∷ []) e rise_scan.2 in
    let f = t.first.front in
    let g = t.last.front in
    let m = t.mid.front in
    let a : f ≤ rise_scan.0 = rise_le f t.scan rise_scan.0 rise_scan.1 in
    let b : rise_scan.0 ≤ rise_values.0 = rise_le rise_scan.0 t.values rise_values.0 rise_values.1 in
    let c : rise_values.0 ≤ m = rise_values.2.0 in
    let u : m ≤ g = rise_values.2.1.0 in
    let z : g ≤ e = rise_values.2.1.1 in
    let first = word_at V sh (front V sh acts f).words (Version (stripe_of sh k)) t.first t.first_is read_all.0 in
    let last = word_at V sh (front V sh acts g).words (Version (stripe_of sh k)) t.last t.last_is read_values.1.1.0 in
    let mid = word_at V sh (front V sh acts m).words Moment t.mid t.mid_is read_values.1.0 in
    let same : version (front V sh acts f).words (stripe_of sh k) ≡ x = sym first ∙ t.first_word in
    let w : Window V sh acts k f g = window V sh acts k f g shape lawful (omega arith) (rw same t.even) (sym last ∙ t.last_word ∙ sym same) in
    let is_at : at ≡ length (front V sh acts m).history = sym t.mid_word ∙ mid ∙ w.at_moment m in
    let told = told_at V sh acts m at is_at (omega arith) in
    let kept : map_value (front V sh acts m).history k ≡ map_value (front V sh acts f).history k = (w.kept f m (omega arith) (omega arith) u).told in
    let low : length (front V sh acts d).history ≤ at = omega (arith, is_at, moments_rise V sh acts d m (omega (arith, rise_all.0))) in
    let high : at ≤ length (front V sh acts e).history = omega (arith, is_at, moments_rise V sh acts m e (omega arith)) in
    let truth : map_value (front V sh acts f).history k ≡ told_of hit v = hit_told V sh acts k f g f rise_scan.0 rise_scan.0 rise_values.0 hit v t.scan t.values shape w key_in (omega arith) (omega arith) a (omega arith) (omega arith) read_scan.0 rise_scan.1 t.scans read_values.0 rise_values.1 t.reads in
    let size : at ≤ length (state_of V sh acts).history = omega (arith, length-take at (state_of V sh acts).history, ap length told, is_at) in
    answer_true (state_of V sh acts).history k at (length (front V sh acts d).history) (length (front V sh acts e).history) hit v (hit_whole V hit t.values v t.reads) size
    (ap (λ y. map_value y k) told ∙ kept ∙ truth) low high

-- what is between two moments is between wider ones
wider : {V : ℕ} (r : Reply V) (a b c d : ℕ) → a ≤ b → c ≤ d → IsBetween b c r → IsBetween a d r
wider (Found v at since) a b c d x y h = (omega arith, omega arith)
wider (Absent at) a b c d x y h = (omega arith, omega arith)
wider Busy a b c d x y h = tt

-- the reader law: what a lookup over one lawful list replies is true, at a moment of its span
pub lookup_true : (V : ℕ) (sh : Shape) (acts : List Made) (k tries d e : ℕ) (rs : List Reading) (reply : Reply V) → IsShape sh → IsLawful V sh acts → k < 2 ^ 64 → e ≤ length acts → AreRead V sh acts rs → RiseTo d rs e → IsLookup V sh k tries rs reply →
    IsTrueAnswer (state_of V sh acts).history k reply × IsBetween (length (front V sh acts d).history) (length (front V sh acts e).history) reply
lookup_true V sh acts k zero d e rs reply shape lawful key_in within read rise look = rw look.1 (tt, tt)
lookup_true V sh acts k (suc t) d e rs reply shape lawful key_in within read rise look =
    elim look [
      | inl x ↦
          let both = read_parts V sh acts x.0 x.1 (subst (λ (y : List Reading). AreRead V sh acts y) x.2 read) in
          let parts = rise_parts d x.0 x.1 e (subst (λ (y : List Reading). RiseTo d y e) x.2 rise) in
          let rest = lookup_true V sh acts k t parts.0 e x.1 reply shape lawful key_in within both.1 parts.2 x.4 in
          (rest.0, wider reply (length (front V sh acts d).history) (length (front V sh acts parts.0).history) (length (front V sh acts e).history) (length (front V sh acts e).history) (moments_rise V sh acts d parts.0 (rise_le d x.0 parts.0 parts.1)) (omega arith) rest.1)
      | inr x ↦
          let both = read_parts V sh acts x.0 x.1 (subst (λ (y : List Reading). AreRead V sh acts y) x.6 read) in
          let parts = rise_parts d x.0 x.1 e (subst (λ (y : List Reading). RiseTo d y e) x.6 rise) in
          let end : parts.0 ≤ e = rise_le parts.0 x.1 e parts.2 in
          let one = try_true V sh acts k d parts.0 x.0 x.2 x.3 x.4 x.5 shape lawful key_in (omega arith) both.0 parts.1 x.7 in
          rw x.9 (one.0, wider (reply_of {V = V} x.2 x.3 x.5) (length (front V sh acts d).history) (length (front V sh acts d).history) (length (front V sh acts parts.0).history) (length (front V sh acts e).history) (omega arith) (moments_rise V sh acts parts.0 e end) one.1)
    ]

-- ---- the laws as they are stated
pub agrees_always : (V : ℕ) → AgreesAlways V
agrees_always V sh acts f shape lawful =
    let i = front_holds V sh acts f shape lawful in
    (i.agrees, i.legal)

pub stays_while_even : (V : ℕ) → StaysWhileEven V
stays_while_even V sh acts f e g k shape lawful a b even same =
    let w = window V sh acts k f g shape lawful (omega arith) even same in
    let kept = w.kept f e (omega arith) a b in
    ((λ q i. (stands_on V sh (front V sh acts f).words (front V sh acts e).words k q i kept.same, kept.same.back q i)), (λ q i j at. kept.same.items q i at j), kept.told)

pub replies_are_true : (V : ℕ) → RepliesAreTrue V
replies_are_true V = lookup_true V
