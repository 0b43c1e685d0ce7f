-- What is left of a lookup before a reading is that reading and what is left after it: one law a stage.
use Rattle.std.proofs.Common.{ℕ, suc, ◌≡◌, ◌≢◌, ◌%◌, ◌<◌, List, [], ◌∷◌, ◌++◌, length, Option, Some, None, refl, sym, ◌∙◌, ap, subst, inl, inr, arith}
use Rattle.std.specs.Prelude.{◌↔◌}
use Rattle.std.proofs.lemmas.List.{append-nil, length-append, length_push}
use Rattle.mc_words.proofs.Frames.{slot_word-parts}
use Rattle.mc_words.specs.Keys.{stripe_of, tag_of}
use Rattle.mc_words.specs.Shapes.{IsShape}
use Rattle.mc_words.specs.declared.history.Reply.{Reply}
use Rattle.mc_words.specs.declared.place.Place.{Place}
use Rattle.mc_words.specs.declared.shape.Shape.{Shape}
use Rattle.mc_theory.specs.Lookups.{TagMatches, MarksHit, reply_of, slots_for, IsLookup}
use Rattle.mc_theory.specs.Readings.{Reading}
use Rattle.mc_lookup.specs.Rest.{RemainderAtMoment, RemainderAtStamp, RemainderAtValues, RemainderAtSlots, RemainderAtKey, RemainderAtLast}
use Rattle.mc_theory.specs.declared.access.Access.TheVariants.{Version, Slot, Key, Value, Stamp, Moment, Mark}
use Rattle.mc_lookup.proofs.Prepend.{from_odd, from_even, from_other, from_meet, from_none, from_value}
use Rattle.mc_lookup.proofs.Split.{first_reading, slot_reading, slots_over, value_reading}

-- the reading at the head of a list, and the readings after it
pub head_is : (r s : Reading) (rs ss : List Reading) → r ∷ rs ≡ s ∷ ss → s ≡ r
head_is r s rs ss e = let is : r ≡ s = cc in sym is

pub tail_is : (r s : Reading) (rs ss : List Reading) → r ∷ rs ≡ s ∷ ss → ss ≡ rs
tail_is r s rs ss e = let is : rs ≡ ss = cc in sym is

-- an even first version
pub feed_even : (V : ℕ) (sh : Shape) (k t : ℕ) (r : Reading) (rs : List Reading) (reply : Reply V) → r.access ≡ Version (stripe_of sh k) → r.word % 2 ≡ 0 → RemainderAtSlots V sh k t r.word (slots_for sh k) rs reply ↔ IsLookup V sh k (suc t) (r ∷ rs) reply
feed_even V sh k t r rs reply a even = (
  λ h. from_even V sh k t r rs reply a even h,
  λ look.
      let first = first_reading V sh k t (r ∷ rs) reply look in
      let is : first.0 ≡ r = head_is r first.0 rs first.1 first.2 in
      let rest : first.1 ≡ rs = tail_is r first.0 rs first.1 first.2 in
      elim first.4 [
        | inl odd ↦ absurd (omega (arith, even, odd.0, ap (λ (s : Reading). s.word) is))
        | inr x ↦ subst (λ (s : Reading). RemainderAtSlots V sh k t s.word (slots_for sh k) rs reply) is (subst (λ (y : List Reading). RemainderAtSlots V sh k t first.0.word (slots_for sh k) y reply) rest x.1)
      ],
)

-- an odd one
pub feed_odd : (V : ℕ) (sh : Shape) (k t : ℕ) (r : Reading) (rs : List Reading) (reply : Reply V) → r.access ≡ Version (stripe_of sh k) → r.word % 2 ≡ 1 → IsLookup V sh k t rs reply ↔ IsLookup V sh k (suc t) (r ∷ rs) reply
feed_odd V sh k t r rs reply a odd = (
  λ h. from_odd V sh k t r rs reply a odd h,
  λ look.
      let first = first_reading V sh k t (r ∷ rs) reply look in
      let is : first.0 ≡ r = head_is r first.0 rs first.1 first.2 in
      let rest : first.1 ≡ rs = tail_is r first.0 rs first.1 first.2 in
      elim first.4 [
        | inl x ↦ subst (λ (y : List Reading). IsLookup V sh k t y reply) rest x.1
        | inr even ↦ absurd (omega (arith, odd, even.0, ap (λ (s : Reading). s.word) is))
      ],
)

-- a slot that doesn't name the tag
pub feed_other : (V : ℕ) (sh : Shape) (k t x : ℕ) (p : Place) (ps : List Place) (r : Reading) (rs : List Reading) (reply : Reply V) → r.access ≡ Slot p → ((i : ℕ) → TagMatches sh k r.word i → ⊥) → RemainderAtSlots V sh k t x ps rs reply ↔ RemainderAtSlots V sh k t x (p ∷ ps) (r ∷ rs) reply
feed_other V sh k t x p ps r rs reply a other = (
  λ h. from_other V sh k t x p ps r rs reply a other h,
  λ left.
      let one = slot_reading V sh k t x p ps (r ∷ rs) reply left in
      let is : one.0 ≡ r = head_is r one.0 rs one.1 one.2 in
      let rest : one.1 ≡ rs = tail_is r one.0 rs one.1 one.2 in
      elim one.4 [
        | inl y ↦ subst (λ (z : List Reading). RemainderAtSlots V sh k t x ps z reply) rest y.1
        | inr y ↦ absurd (other y.0 (subst (λ (s : Reading). TagMatches sh k s.word y.0) is y.1))
      ],
)

-- a slot that names it
pub feed_meet : (V : ℕ) (sh : Shape) (k t x i : ℕ) (p : Place) (ps : List Place) (r : Reading) (rs : List Reading) (reply : Reply V) → IsShape sh → r.access ≡ Slot p → TagMatches sh k r.word i → RemainderAtKey V sh k t x i ps rs reply ↔ RemainderAtSlots V sh k t x (p ∷ ps) (r ∷ rs) reply
feed_meet V sh k t x i p ps r rs reply shape a meets = (
  λ h. from_meet V sh k t x i p ps r rs reply a meets h,
  λ left.
      let one = slot_reading V sh k t x p ps (r ∷ rs) reply left in
      let is : one.0 ≡ r = head_is r one.0 rs one.1 one.2 in
      let rest : one.1 ≡ rs = tail_is r one.0 rs one.1 one.2 in
      elim one.4 [
        | inl y ↦ absurd (y.0 i (subst (λ (s : Reading). TagMatches sh k s.word i) (sym is) meets))
        | inr y ↦
            let met : TagMatches sh k r.word y.0 = subst (λ (s : Reading). TagMatches sh k s.word y.0) is y.1 in
            let same : y.0 ≡ i = (slot_word-parts (tag_of sh k) (tag_of sh k) y.0 i (omega (arith, met.0, shape.items.1, shape.buckets.1)) (omega (arith, meets.0, shape.items.1, shape.buckets.1)) (sym met.1 ∙ meets.1)).1 in
            subst (λ (g : ℕ). RemainderAtKey V sh k t x g ps rs reply) same (subst (λ (z : List Reading). RemainderAtKey V sh k t x y.0 ps z reply) rest y.2)
      ],
)

-- no slot left
pub feed_none : (V : ℕ) (sh : Shape) (k t x : ℕ) (rs : List Reading) (reply : Reply V) → RemainderAtMoment V sh k t x None [] rs reply ↔ RemainderAtSlots V sh k t x [] rs reply
feed_none V sh k t x rs reply = (λ h. from_none V sh k t x rs reply h, λ h. slots_over V sh k t x rs reply h)

-- the key word of the key itself
pub feed_key : (V : ℕ) (sh : Shape) (k t x i : ℕ) (ps : List Place) (r : Reading) (rs : List Reading) (reply : Reply V) → r.access ≡ Key i → r.word ≡ k → RemainderAtValues V sh k t x i [] rs reply ↔ RemainderAtKey V sh k t x i ps (r ∷ rs) reply
feed_key V sh k t x i ps r rs reply a e = (
  λ h. (r, rs, refl, a, inl (e, h)),
  λ left.
      let is : left.0 ≡ r = head_is r left.0 rs left.1 left.2 in
      let rest : left.1 ≡ rs = tail_is r left.0 rs left.1 left.2 in
      elim left.4 [
        | inl y ↦ subst (λ (z : List Reading). RemainderAtValues V sh k t x i [] z reply) rest y.1
        | inr y ↦ absurd (y.0 (ap (λ (s : Reading). s.word) is ∙ e))
      ],
)

-- and of another
pub feed_stranger : (V : ℕ) (sh : Shape) (k t x i : ℕ) (ps : List Place) (r : Reading) (rs : List Reading) (reply : Reply V) → r.access ≡ Key i → r.word ≢ k → RemainderAtSlots V sh k t x ps rs reply ↔ RemainderAtKey V sh k t x i ps (r ∷ rs) reply
feed_stranger V sh k t x i ps r rs reply a ne = (
  λ h. (r, rs, refl, a, inr (ne, h)),
  λ left.
      let is : left.0 ≡ r = head_is r left.0 rs left.1 left.2 in
      let rest : left.1 ≡ rs = tail_is r left.0 rs left.1 left.2 in
      elim left.4 [
        | inl y ↦ absurd (ne (ap (λ (s : Reading). s.word) (sym is) ∙ y.0))
        | inr y ↦ subst (λ (z : List Reading). RemainderAtSlots V sh k t x ps z reply) rest y.1
      ],
)

-- a word of the value
pub feed_value : (V : ℕ) (sh : Shape) (k t x i : ℕ) (got : List ℕ) (r : Reading) (rs : List Reading) (reply : Reply V) → length got < V → r.access ≡ Value i (suc (length got)) → RemainderAtValues V sh k t x i (got ++ r.word ∷ []) rs reply ↔ RemainderAtValues V sh k t x i got (r ∷ rs) reply
feed_value V sh k t x i got r rs reply more a = (
  λ h. from_value V sh k t x i got r rs reply a h,
  λ left. elim (value_reading V sh k t x i got (r ∷ rs) reply left) [
    | inl y ↦ absurd (omega (arith, more, y.0))
    | inr y ↦
        let is : y.0 ≡ r = head_is r y.0 rs y.1 y.2 in
        let rest : y.1 ≡ rs = tail_is r y.0 rs y.1 y.2 in
        subst (λ (s : Reading). RemainderAtValues V sh k t x i (got ++ s.word ∷ []) rs reply) is (subst (λ (z : List Reading). RemainderAtValues V sh k t x i (got ++ y.0.word ∷ []) z reply) rest y.4)
  ],
)

-- all words of the value
pub feed_full : (V : ℕ) (sh : Shape) (k t x i : ℕ) (got : List ℕ) (rs : List Reading) (reply : Reply V) → length got ≡ V → RemainderAtStamp V sh k t x i got rs reply ↔ RemainderAtValues V sh k t x i got rs reply
feed_full V sh k t x i got rs reply all = (
  λ h. ([], [], rs, refl, rw append-nil all, tt, rw append-nil h),
  λ left. elim (value_reading V sh k t x i got rs reply left) [
    | inl y ↦ y.1
    | inr y ↦ absurd (too_many y.4.1 y.0.word y.4.4)
  ],
)
  where
    too_many : (more : List ℕ) (w : ℕ) → length ((got ++ w ∷ []) ++ more) ≡ V → ⊥
    too_many more w e = omega (arith, e, all, length-append (got ++ w ∷ []) more, length_push got w)

-- the stamp
pub feed_stamp : (V : ℕ) (sh : Shape) (k t x i : ℕ) (v : List ℕ) (r : Reading) (rs : List Reading) (reply : Reply V) → r.access ≡ Stamp i → RemainderAtMoment V sh k t x (Some i) (v ++ r.word ∷ []) rs reply ↔ RemainderAtStamp V sh k t x i v (r ∷ rs) reply
feed_stamp V sh k t x i v r rs reply a = (
  λ h. (r, rs, refl, a, h),
  λ left.
      let is : left.0 ≡ r = head_is r left.0 rs left.1 left.2 in
      let rest : left.1 ≡ rs = tail_is r left.0 rs left.1 left.2 in
      subst (λ (s : Reading). RemainderAtMoment V sh k t x (Some i) (v ++ s.word ∷ []) rs reply) is (subst (λ (z : List Reading). RemainderAtMoment V sh k t x (Some i) (v ++ left.0.word ∷ []) z reply) rest left.4),
)

-- the moment
pub feed_moment : (V : ℕ) (sh : Shape) (k t x : ℕ) (hit : Option ℕ) (v : List ℕ) (r : Reading) (rs : List Reading) (reply : Reply V) → r.access ≡ Moment → RemainderAtLast V sh k t x hit v r.word rs reply ↔ RemainderAtMoment V sh k t x hit v (r ∷ rs) reply
feed_moment V sh k t x hit v r rs reply a = (
  λ h. (r, rs, refl, a, h),
  λ left.
      let is : left.0 ≡ r = head_is r left.0 rs left.1 left.2 in
      let rest : left.1 ≡ rs = tail_is r left.0 rs left.1 left.2 in
      subst (λ (s : Reading). RemainderAtLast V sh k t x hit v s.word rs reply) is (subst (λ (z : List Reading). RemainderAtLast V sh k t x hit v left.0.word z reply) rest left.4),
)

-- another version than the first one
pub feed_spoiled : (V : ℕ) (sh : Shape) (k t x : ℕ) (hit : Option ℕ) (v : List ℕ) (at : ℕ) (r : Reading) (rs : List Reading) (reply : Reply V) → r.access ≡ Version (stripe_of sh k) → r.word ≢ x → IsLookup V sh k t rs reply ↔ RemainderAtLast V sh k t x hit v at (r ∷ rs) reply
feed_spoiled V sh k t x hit v at r rs reply a ne = (
  λ h. (r, rs, refl, a, inl (ne, h)),
  λ left.
      let is : left.0 ≡ r = head_is r left.0 rs left.1 left.2 in
      let rest : left.1 ≡ rs = tail_is r left.0 rs left.1 left.2 in
      elim left.4 [
        | inl y ↦ subst (λ (z : List Reading). IsLookup V sh k t z reply) rest y.1
        | inr y ↦ absurd (ne (ap (λ (s : Reading). s.word) (sym is) ∙ y.0))
      ],
)

-- the same one
pub feed_same : (V : ℕ) (sh : Shape) (k t x : ℕ) (hit : Option ℕ) (v : List ℕ) (at : ℕ) (r : Reading) (rs : List Reading) (reply : Reply V) → r.access ≡ Version (stripe_of sh k) → r.word ≡ x → (MarksHit hit rs × (reply ≡ reply_of hit v at)) ↔ RemainderAtLast V sh k t x hit v at (r ∷ rs) reply
feed_same V sh k t x hit v at r rs reply a e = (
  λ h. (r, rs, refl, a, inr (e, h.0, h.1)),
  λ left.
      let is : left.0 ≡ r = head_is r left.0 rs left.1 left.2 in
      let rest : left.1 ≡ rs = tail_is r left.0 rs left.1 left.2 in
      elim left.4 [
        | inl y ↦ absurd (y.0 (ap (λ (s : Reading). s.word) is ∙ e))
        | inr y ↦ (subst (λ (z : List Reading). MarksHit hit z) rest y.1, y.2)
      ],
)

-- the mark
pub feed_mark : {V : ℕ} (i : ℕ) (r : Reading) (rs : List Reading) (reply is_reply : Reply V) → r.access ≡ Mark i → ((rs ≡ []) × (reply ≡ is_reply)) ↔ (MarksHit (Some i) (r ∷ rs) × (reply ≡ is_reply))
feed_mark i r rs reply is_reply a = (
  λ h. ((r, ap (λ y. r ∷ y) h.0, a), h.1),
  λ left. (sym (tail_is r left.0.0 rs [] left.0.1), left.1),
)
