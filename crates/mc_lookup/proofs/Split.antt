-- From what was left of a lookup to its next reading, and to what is left after it.
use Rattle.std.proofs.Common.{ℕ, suc, ◌≡◌, ◌≢◌, ◌+◌, ◌%◌, ◌⊎◌, List, [], ◌∷◌, ◌++◌, length, Option, Some, None, refl, sym, ◌∙◌, ap, subst, inl, inr, arith}
use Rattle.std.proofs.lemmas.List.{append_assoc, append-nil, length_push}
use Rattle.mc_theory.specs.Lookups.{IsLookup, MarksHit, TagMatches, ReadsHit, ReadsValues, Tries, reply_of, slots_for}
use Rattle.mc_theory.specs.Readings.{Reading}
use Rattle.mc_lookup.specs.Rest.{RemainderAtHit, RemainderAtKey, RemainderAtMoment, RemainderAtSlots, RemainderAtStamp, RemainderAtValues}
use Rattle.mc_words.specs.Keys.{stripe_of}
use Rattle.mc_words.specs.declared.history.Reply.{Reply}
use Rattle.mc_words.specs.declared.place.Place.{Place}
use Rattle.mc_words.specs.declared.shape.Shape.{Shape}
use Rattle.mc_theory.specs.declared.access.Access.TheVariants.{Version, Slot, Value, Moment}

-- after the last version: the next try, or the end
abbrev GoesOn : (V : ℕ) → Shape → ℕ → ℕ → Option ℕ → List ℕ → ℕ → ℕ → ℕ → List Reading → Reply V → Type 0
GoesOn V sh k t hit v before after at ys reply =
    ((after ≢ before) × IsLookup V sh k t ys reply) ⊎ ((after ≡ before) × MarksHit hit ys × (reply ≡ reply_of hit v at))

rest_hit : (V : ℕ) (sh : Shape) (k t x at after : ℕ) (hit : Option ℕ) (v : List ℕ) (values ys : List Reading) (mid last : Reading) (reply : Reply V) → ReadsHit V hit values v → mid.access ≡ Moment → mid.word ≡ at → last.access ≡ Version (stripe_of sh k) → last.word ≡ after → GoesOn V sh k t hit v x after at ys reply → RemainderAtHit V sh k t x hit (values ++ mid ∷ last ∷ ys) reply
rest_hit V sh k t x at after None v values ys mid last reply reads a e b f go =
    rw reads.0 (mid, last ∷ ys, refl, a, (last, ys, refl, b, elim go [ inl h ↦ inl (rw f h.0, h.1) | inr h ↦ inr (f ∙ h.0, h.1, h.2 ∙ ap (λ y. reply_of {V = V} None v y) (sym e)) ]))
rest_hit V sh k t x at after (Some i) v values ys mid last reply reads a e b f go =
    let parts : values ++ mid ∷ last ∷ ys ≡ reads.0 ++ reads.1 ∷ mid ∷ last ∷ ys = ap (λ y. y ++ mid ∷ last ∷ ys) reads.3 ∙ append_assoc reads.0 (reads.1 ∷ []) (mid ∷ last ∷ ys) in
    let end : RemainderAtMoment V sh k t x (Some i) v (mid ∷ last ∷ ys) reply =
    (mid, last ∷ ys, refl, a, (last, ys, refl, b, elim go [ inl h ↦ inl (rw f h.0, h.1) | inr h ↦ inr (f ∙ h.0, h.1, h.2 ∙ ap (λ y. reply_of {V = V} (Some i) v y) (sym e)) ])) in
    (reads.0, reads.2, reads.1 ∷ mid ∷ last ∷ ys, parts, reads.5, reads.6, (reads.1, mid ∷ last ∷ ys, refl, reads.7, subst (λ (y : List ℕ). RemainderAtMoment V sh k t x (Some i) y (mid ∷ last ∷ ys) reply) reads.4 end))

-- the first reading of a try, and what comes after it
abbrev pub FirstReading : (V : ℕ) → Shape → ℕ → ℕ → List Reading → Reply V → Type 0
FirstReading V sh k t rs reply =
    (r : Reading) × (rest : List Reading) × (rs ≡ r ∷ rest) × (r.access ≡ Version (stripe_of sh k)) × (
    ((r.word % 2 ≡ 1) × IsLookup V sh k t rest reply) ⊎ ((r.word % 2 ≡ 0) × RemainderAtSlots V sh k t r.word (slots_for sh k) rest reply))

tries_first : (V : ℕ) (sh : Shape) (k t : ℕ) (xs ys : List Reading) (hit : Option ℕ) (v : List ℕ) (before after at : ℕ) (reply : Reply V) → Tries V sh k xs hit v before after at → GoesOn V sh k t hit v before after at ys reply → FirstReading V sh k t (xs ++ ys) reply
tries_first V sh k t xs ys hit v before after at reply r go =
    let rest = r.scan ++ (r.values ++ r.mid ∷ r.last ∷ ys) in
    let parts : xs ++ ys ≡ r.first ∷ rest =
    ap (λ y. y ++ ys) r.parts ∙ ap (λ y. r.first ∷ y) (append_assoc r.scan (r.values ++ r.mid ∷ r.last ∷ []) ys ∙ ap (λ y. r.scan ++ y) (append_assoc r.values (r.mid ∷ r.last ∷ []) ys)) in
    let hit_rest = rest_hit V sh k t before at after hit v r.values ys r.mid r.last reply r.reads r.mid_is r.mid_word r.last_is r.last_word go in
    (r.first, rest, parts, r.first_is, inr (rw r.first_word r.even, (r.scan, hit, r.values ++ r.mid ∷ r.last ∷ ys, refl, r.scans, rw r.first_word hit_rest)))

pub first_reading : (V : ℕ) (sh : Shape) (k t : ℕ) (rs : List Reading) (reply : Reply V) → IsLookup V sh k (suc t) rs reply → FirstReading V sh k t rs reply
first_reading V sh k t rs reply look =
    elim look [
      | inl x ↦ elim x.3 [
        | inl o ↦ (o.0, x.1, x.2 ∙ ap (λ y. y ++ x.1) o.1, o.2, inl (o.3, x.4))
        | inr o ↦ rw x.2 (tries_first V sh k t x.0 x.1 o.0 o.1 o.2 o.3 o.4 reply o.6 (inl (o.5, x.4)))
      ]
      | inr x ↦ rw x.6 (tries_first V sh k t x.0 x.1 x.2 x.3 x.4 x.4 x.5 reply x.7 (inr (refl, x.8, x.9)))
    ]

-- the reading of a slot
pub slot_reading : (V : ℕ) (sh : Shape) (k t x : ℕ) (p : Place) (ps : List Place) (rs : List Reading) (reply : Reply V) → RemainderAtSlots V sh k t x (p ∷ ps) rs reply →
    (r : Reading) × (more : List Reading) × (rs ≡ r ∷ more) × (r.access ≡ Slot p) × (
    (((i : ℕ) → TagMatches sh k r.word i → ⊥) × RemainderAtSlots V sh k t x ps more reply) ⊎ ((i : ℕ) × TagMatches sh k r.word i × RemainderAtKey V sh k t x i ps more reply))
slot_reading V sh k t x p ps rs reply s =
    let scan = s.4 in
    let more : List Reading = scan.1 ++ s.2 in (
      scan.0,
      more,
      s.3 ∙ ap (λ y. y ++ s.2) scan.2,
      scan.3,
      elim scan.4 [
        | inl a ↦ inl (a.0, (scan.1, s.1, s.2, refl, a.1, s.5))
        | inr a ↦ inr (
          a.0,
          a.3,
          (
            a.1,
            a.2 ++ s.2,
            ap (λ y. y ++ s.2) a.4,
            a.5,
            elim a.6 [
              | inl b ↦
                  let h : RemainderAtHit V sh k t x (Some a.0) s.2 reply = subst (λ (o : Option ℕ). RemainderAtHit V sh k t x o s.2 reply) b.2 s.5 in
                  inl (b.0, rw b.1 h)
              | inr b ↦ inr (b.0, (a.2, s.1, s.2, refl, b.1, s.5))
            ],
          ),
        )
      ],
    )

pub slots_over : (V : ℕ) (sh : Shape) (k t x : ℕ) (rs : List Reading) (reply : Reply V) → RemainderAtSlots V sh k t x [] rs reply → RemainderAtMoment V sh k t x None [] rs reply
slots_over V sh k t x rs reply s =
    let h : RemainderAtHit V sh k t x None s.2 reply = subst (λ (o : Option ℕ). RemainderAtHit V sh k t x o s.2 reply) s.4.1 s.5 in
    subst (λ (y : List Reading). RemainderAtMoment V sh k t x None [] y reply) (sym (s.3 ∙ ap (λ y. y ++ s.2) s.4.0)) h

-- the reading of a value word
pub value_reading : (V : ℕ) (sh : Shape) (k t x i : ℕ) (got : List ℕ) (rs : List Reading) (reply : Reply V) → RemainderAtValues V sh k t x i got rs reply →
    ((length got ≡ V) × RemainderAtStamp V sh k t x i got rs reply) ⊎
    ((r : Reading) × (more : List Reading) × (rs ≡ r ∷ more) × (r.access ≡ Value i (suc (length got))) × RemainderAtValues V sh k t x i (got ++ r.word ∷ []) more reply)
value_reading V sh k t x i got rs reply m = go m.0 m.1 m.3 m.4 m.5 m.6
  where
    go : (xs : List Reading) (v : List ℕ) → rs ≡ xs ++ m.2 → length (got ++ v) ≡ V → ReadsValues i (suc (length got)) xs v → RemainderAtStamp V sh k t x i (got ++ v) m.2 reply →
        ((length got ≡ V) × RemainderAtStamp V sh k t x i got rs reply) ⊎
        ((r : Reading) × (more : List Reading) × (rs ≡ r ∷ more) × (r.access ≡ Value i (suc (length got))) × RemainderAtValues V sh k t x i (got ++ r.word ∷ []) more reply)
    go [] [] e l reads rest = inl (rw append-nil at l, rw e (rw append-nil at rest))
    go (r ∷ rs') (y ∷ ys) e l reads rest =
        let same : (got ++ r.word ∷ []) ++ ys ≡ got ++ y ∷ ys = append_assoc got (r.word ∷ []) ys ∙ ap (λ z. got ++ z ∷ ys) reads.1 in
        let j : suc (length (got ++ r.word ∷ [])) ≡ suc (length got) + 1 = omega (arith, length_push got r.word) in
        inr (r, rs' ++ m.2, e, reads.0, (rs', ys, m.2, refl, rw same l, rw j reads.2, rw same rest))
    go [] (y ∷ ys) e l reads rest = absurd reads
    go (r ∷ rs') [] e l reads rest = absurd reads
