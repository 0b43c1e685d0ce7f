-- From what is left of a lookup after a reading to what was left before it.
use Rattle.std.proofs.Common.{ℕ, suc, ◌≡◌, ◌+◌, ◌%◌, List, [], ◌∷◌, ◌++◌, length, Option, Some, None, refl, sym, ◌∙◌, ap, subst, inl, inr, arith}
use Rattle.std.proofs.lemmas.List.{append_assoc, length_push}
use Rattle.mc_theory.specs.Lookups.{IsLookup, TagMatches, ReadsHit, Scans, Tries, slots_for}
use Rattle.mc_theory.specs.Readings.{Reading}
use Rattle.mc_lookup.specs.Rest.{RemainderAtHit, RemainderAtKey, RemainderAtMoment, RemainderAtSlots, RemainderAtValues}
use Rattle.mc_words.specs.Keys.{stripe_of}
use Rattle.mc_words.specs.declared.history.Reply.{Reply}
use Rattle.mc_words.specs.declared.place.Place.{Place}
use Rattle.mc_words.specs.declared.shape.Shape.{Shape}
use Rattle.mc_theory.specs.declared.access.Access.TheVariants.{Version, Slot, Value}

-- an odd first version
pub from_odd : (V : ℕ) (sh : Shape) (k t : ℕ) (r : Reading) (rs : List Reading) (reply : Reply V) → r.access ≡ Version (stripe_of sh k) → r.word % 2 ≡ 1 → IsLookup V sh k t rs reply → IsLookup V sh k (suc t) (r ∷ rs) reply
from_odd V sh k t r rs reply a odd l = inl (r ∷ [], rs, refl, inl (r, refl, a, odd), l)

-- the try as a whole, from its parts
try_end : (V : ℕ) (sh : Shape) (k t : ℕ) (r : Reading) (scan values rest : List Reading) (hit : Option ℕ) (v : List ℕ) (reply : Reply V) → r.access ≡ Version (stripe_of sh k) → r.word % 2 ≡ 0 → Scans sh k (slots_for sh k) scan hit → ReadsHit V hit values v → RemainderAtMoment V sh k t r.word hit v rest reply → IsLookup V sh k (suc t) (r ∷ (scan ++ (values ++ rest))) reply
try_end V sh k t r scan values rest hit v reply a even scans reads m =
    let mid : Reading = m.0 in
    let end = m.4 in
    let last : Reading = end.0 in
    let tail : List Reading = end.1 in
    let whole = r ∷ (scan ++ (values ++ mid ∷ last ∷ [])) in
    let is : rest ≡ mid ∷ last ∷ tail = m.2 ∙ ap (λ y. mid ∷ y) end.2 in
    let parts : r ∷ (scan ++ (values ++ rest)) ≡ whole ++ tail =
    ap (λ y. r ∷ (scan ++ (values ++ y))) is ∙ ap (λ y. r ∷ y) (ap (λ y. scan ++ y) (sym (append_assoc values (mid ∷ last ∷ []) tail)) ∙ sym (append_assoc scan (values ++ mid ∷ last ∷ []) tail)) in
    let tried : Tries V sh k whole hit v r.word last.word mid.word = record {
      first = r;
      scan = scan;
      values = values;
      mid = mid;
      last = last;
      parts = refl;
      first_is = a;
      first_word = refl;
      even = even;
      scans = scans;
      reads = reads;
      mid_is = m.3;
      mid_word = refl;
      last_is = end.3;
      last_word = refl;
    } in
    elim end.4 [
      | inl x ↦ inl (whole, tail, parts, inr (hit, v, r.word, last.word, mid.word, x.0, tried), x.1)
      | inr x ↦ inr (whole, tail, hit, v, r.word, mid.word, parts, subst (λ (y : ℕ). Tries V sh k whole hit v r.word y mid.word) x.0 tried, x.1, x.2)
    ]

-- an even first version
pub from_even : (V : ℕ) (sh : Shape) (k t : ℕ) (r : Reading) (rs : List Reading) (reply : Reply V) → r.access ≡ Version (stripe_of sh k) → r.word % 2 ≡ 0 → RemainderAtSlots V sh k t r.word (slots_for sh k) rs reply → IsLookup V sh k (suc t) (r ∷ rs) reply
from_even V sh k t r rs reply a even s = rw s.3 (go s.1 s.4 s.5)
  where
    go : (hit : Option ℕ) → Scans sh k (slots_for sh k) s.0 hit → RemainderAtHit V sh k t r.word hit s.2 reply → IsLookup V sh k (suc t) (r ∷ (s.0 ++ s.2)) reply
    go None scans m = try_end V sh k t r s.0 [] s.2 None [] reply a even scans (refl, refl) m
    go (Some i) scans m =
        let st = m.6 in
        let parts : s.2 ≡ (m.0 ++ st.0 ∷ []) ++ st.1 = m.3 ∙ ap (λ y. m.0 ++ y) st.2 ∙ sym (append_assoc m.0 (st.0 ∷ []) st.1) in
        rw parts (try_end V sh k t r s.0 (m.0 ++ st.0 ∷ []) st.1 (Some i) (m.1 ++ st.0.word ∷ []) reply a even scans (m.0, st.0, m.1, refl, refl, m.4, m.5, st.3) st.4)

-- a slot that doesn't name the tag
pub from_other : (V : ℕ) (sh : Shape) (k t x : ℕ) (p : Place) (ps : List Place) (r : Reading) (rs : List Reading) (reply : Reply V) → r.access ≡ Slot p → ((i : ℕ) → TagMatches sh k r.word i → ⊥) → RemainderAtSlots V sh k t x ps rs reply → RemainderAtSlots V sh k t x (p ∷ ps) (r ∷ rs) reply
from_other V sh k t x p ps r rs reply a other s = (r ∷ s.0, s.1, s.2, ap (λ y. r ∷ y) s.3, (r, s.0, refl, a, inl (other, s.4)), s.5)

-- a slot that names it
pub from_meet : (V : ℕ) (sh : Shape) (k t x i : ℕ) (p : Place) (ps : List Place) (r : Reading) (rs : List Reading) (reply : Reply V) → r.access ≡ Slot p → TagMatches sh k r.word i → RemainderAtKey V sh k t x i ps rs reply → RemainderAtSlots V sh k t x (p ∷ ps) (r ∷ rs) reply
from_meet V sh k t x i p ps r rs reply a meets s =
    elim s.4 [
      | inl h ↦ (r ∷ s.0 ∷ [], Some i, s.1, ap (λ y. r ∷ y) s.2, (r, s.0 ∷ [], refl, a, inr (i, s.0, [], meets, refl, s.3, inl (h.0, refl, refl))), h.1)
      | inr h ↦
          let m = h.1 in
          (r ∷ s.0 ∷ m.0, m.1, m.2, ap (λ y. r ∷ y) s.2 ∙ ap (λ y. r ∷ s.0 ∷ y) m.3, (r, s.0 ∷ m.0, refl, a, inr (i, s.0, m.0, meets, refl, s.3, inr (h.0, m.4))), m.5)
    ]

-- no slot left
pub from_none : (V : ℕ) (sh : Shape) (k t x : ℕ) (rs : List Reading) (reply : Reply V) → RemainderAtMoment V sh k t x None [] rs reply → RemainderAtSlots V sh k t x [] rs reply
from_none V sh k t x rs reply m = ([], None, rs, refl, (refl, refl), m)

-- a value word
pub from_value : (V : ℕ) (sh : Shape) (k t x i : ℕ) (got : List ℕ) (r : Reading) (rs : List Reading) (reply : Reply V) → r.access ≡ Value i (suc (length got)) → RemainderAtValues V sh k t x i (got ++ r.word ∷ []) rs reply → RemainderAtValues V sh k t x i got (r ∷ rs) reply
from_value V sh k t x i got r rs reply a m =
    let e : (got ++ r.word ∷ []) ++ m.1 ≡ got ++ r.word ∷ m.1 = append_assoc got (r.word ∷ []) m.1 in
    let j : suc (length (got ++ r.word ∷ [])) ≡ suc (length got) + 1 = omega (arith, length_push got r.word) in
    (r ∷ m.0, r.word ∷ m.1, m.2, ap (λ y. r ∷ y) m.3, rw (← e) m.4, (a, refl, rw (← j) m.5), rw (← e) m.6)
