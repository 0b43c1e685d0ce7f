-- The value of an item, and the words of which it is the first: the value, and then the stamp.
use Rattle.std.proofs.Common.{ℕ, ◌≡◌, ◌+◌, ◌<◌, ◌≤◌, List, [], ◌∷◌, ◌++◌, length, take, refl, sym, ◌∙◌, ap, subst, inl, inr, arith, length-append}
use Rattle.std.proofs.Math.Seq.{take-append_seam}
use Rattle.std.proofs.lemmas.Bool.{cases_eq}
use Rattle.std.proofs.lemmas.List.{ext_get_or, length-take-le, get_or-take, get_or_push, get_or_append_left}
use Rattle.mc_words.specs.History.{since_of, value_of}
use Rattle.mc_words.specs.Places.{item, payload, most_payload, IsWidth}
use Rattle.mc_words.specs.Inside.Values.{HasValue}
use Rattle.mc_words.specs.Standing.{HasPayload}
use Rattle.mc_words.specs.declared.shape.Shape.{Shape}

-- an item has room for a value
pub value_fits : (V : ℕ) → V ≤ payload V
unfolding payload
value_fits V = omega arith

pub payload_is : (V : ℕ) → payload V ≡ V + 1
unfolding payload
payload_is V = refl

-- and few words
pub payload_few : (V : ℕ) → IsWidth V → payload V ≤ most_payload
unfolding payload
payload_few V width = omega (arith, width.most)

-- a value has V words
pub value_length : (V : ℕ) (xs : List ℕ) → length xs ≡ payload V → length (value_of V xs) ≡ V
value_length V xs whole = length-take-le V xs (omega (arith, whole, value_fits V))

-- the words of a value and a stamp
pub value_of-push : (V n : ℕ) (v : List ℕ) → length v ≡ V → value_of V (v ++ n ∷ []) ≡ v
value_of-push V n v e = subst (λ (y : ℕ). take y (v ++ n ∷ []) ≡ v) e (take-append_seam v (n ∷ []))

pub since_of-push : (V n : ℕ) (v : List ℕ) → length v ≡ V → since_of V (v ++ n ∷ []) ≡ n
since_of-push V n v e = get_or_push v n 0 V e

-- the words are their value, and after it their stamp
pub whole_payload : (V n : ℕ) (xs : List ℕ) → length xs ≡ payload V → since_of V xs ≡ n → value_of V xs ++ n ∷ [] ≡ xs
whole_payload V n xs whole is =
    let many = value_length V xs whole in
    let all = length-append (value_of V xs) (n ∷ []) in
    ext_get_or 0 (value_of V xs ++ n ∷ []) xs (omega (arith, all, many, whole, payload_is V)) (λ j l.
    elim (cases_eq j V) [
      | inl e ↦ rw e (get_or_push (value_of V xs) n 0 V many ∙ sym is)
      | inr ne ↦
          let less : j < V = omega (arith, l, ne, all, many) in
          get_or_append_left (value_of V xs) (n ∷ []) 0 j (omega (arith, less, many)) ∙ get_or-take V xs j 0 less
    ])

-- an item that has this value and this stamp
pub payload_from : (V : ℕ) (sh : Shape) (w : List ℕ) (i n : ℕ) (v : List ℕ) → HasValue V sh w i v → item V sh w i (payload V) ≡ n → HasPayload V sh w i (v ++ n ∷ [])
payload_from V sh w i n v has is =
    let all = length-append v (n ∷ []) in (
      omega (arith, all, has.0, payload_is V),
      λ j l.
          elim (cases_eq j V) [
            | inl e ↦ ap (item V sh w i) (omega (arith, e, payload_is V)) ∙ is ∙ sym (get_or_push v n 0 j (omega (arith, e, has.0)))
            | inr ne ↦
                let less : j < length v = omega (arith, l, ne, all, has.0) in
                has.1 j less ∙ sym (get_or_append_left v (n ∷ []) 0 j less)
          ],
    )
