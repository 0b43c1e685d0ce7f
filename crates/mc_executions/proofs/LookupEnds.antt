-- Where a lookup ends: none begins another of the same key, and a mark is its last entry.
use Rattle.std.proofs.Common.{◌≡◌, inl, inr, ℕ, zero, suc, ◌+◌, ◌%◌, ◌<◌, List, [], ◌∷◌, ◌++◌, length, refl, ap, sym, ◌∙◌, subst, arith, append_assoc, append-nil, length-append, Option, Some, None}
use Rattle.mc_words.specs.declared.history.Reply.{Reply}
use Rattle.mc_words.specs.declared.place.Place.{Place}
use Rattle.mc_words.specs.declared.shape.Shape.{Shape}
use Rattle.mc_theory.specs.Lookups.{IsLookup, IsSpoiled, MarksHit, ReadsHit, ReadsValues, Scans, Tries, slots_for}
use Rattle.mc_theory.specs.Readings.{Reading}
use Rattle.mc_theory.specs.declared.access.Access.TheVariants.{Key, Mark}
use Rattle.mc_shared.specs.ExactFronts.{IsReading}
use Rattle.mc_executions.proofs.ListParts.{same_head, same_parts, same_rest, cut_at}

-- ---- two scans that begin one list are the same
one_key : (i j : ℕ) (r s : Reading) → r ≡ s → r.access ≡ Key i → s.access ≡ Key j → i ≡ j
one_key i j r s e a b = let both : Key i ≡ Key j = sym a ∙ (ap (λ (x : Reading). x.access) e ∙ b) in cc

pub scans_end : (sh : Shape) (k : ℕ) (ps : List Place) (xs ys us vs : List Reading) (hit hit' : Option ℕ) → Scans sh k ps xs hit → Scans sh k ps ys hit' → xs ++ us ≡ ys ++ vs → (length xs ≡ length ys) × (hit ≡ hit')
scans_end sh k [] xs ys us vs hit hit' a b e = (ap length a.0 ∙ sym (ap length b.0), a.1 ∙ sym b.1)
scans_end sh k (p ∷ ps) xs ys us vs hit hit' a b e =
    let r = a.0 in
    let s = b.0 in
    let whole : r ∷ (a.1 ++ us) ≡ s ∷ (b.1 ++ vs) = sym (ap (λ (z : List Reading). z ++ us) a.2) ∙ (e ∙ ap (λ (z : List Reading). z ++ vs) b.2) in
    let one : r ≡ s = same_head r s (a.1 ++ us) (b.1 ++ vs) whole in
    let rest : a.1 ++ us ≡ b.1 ++ vs = same_rest r s (a.1 ++ us) (b.1 ++ vs) whole in
    let word : r.word ≡ s.word = ap (λ (z : Reading). z.word) one in
    let long : (length xs ≡ suc (length a.1)) × (length ys ≡ suc (length b.1)) = (ap length a.2, ap length b.2) in
    elim a.4 [
      | inl missed ↦ elim b.4 [
        | inl missed' ↦ let q = scans_end sh k ps a.1 b.1 us vs hit hit' missed.1 missed'.1 rest in (omega (arith, q.0, long.0, long.1), q.1)
        | inr named' ↦ absurd (missed.0 named'.0 (named'.3.0, word ∙ named'.3.1))
      ]
      | inr named ↦ elim b.4 [
        | inl missed' ↦ absurd (missed'.0 named.0 (named.3.0, sym word ∙ named.3.1))
        | inr named' ↦
            let keys : named.1 ∷ (named.2 ++ us) ≡ named'.1 ∷ (named'.2 ++ vs) = sym (ap (λ (z : List Reading). z ++ us) named.4) ∙ (rest ∙ ap (λ (z : List Reading). z ++ vs) named'.4) in
            let one' : named.1 ≡ named'.1 = same_head named.1 named'.1 (named.2 ++ us) (named'.2 ++ vs) keys in
            let rest' : named.2 ++ us ≡ named'.2 ++ vs = same_rest named.1 named'.1 (named.2 ++ us) (named'.2 ++ vs) keys in
            let word' : named.1.word ≡ named'.1.word = ap (λ (z : Reading). z.word) one' in
            let item : named.0 ≡ named'.0 = one_key named.0 named'.0 named.1 named'.1 one' named.5 named'.5 in
            let long' : (length a.1 ≡ suc (length named.2)) × (length b.1 ≡ suc (length named'.2)) = (ap length named.4, ap length named'.4) in
            elim named.6 [
              | inl met ↦ elim named'.6 [
                | inl met' ↦ (omega (arith, long.0, long.1, long'.0, long'.1, ap length met.1, ap length met'.1), met.2 ∙ (ap Some item ∙ sym met'.2))
                | inr other' ↦ absurd (other'.0 (sym word' ∙ met.0))
              ]
              | inr other ↦ elim named'.6 [
                | inl met' ↦ absurd (other.0 (word' ∙ met'.0))
                | inr other' ↦ let q = scans_end sh k ps named.2 named'.2 us vs hit hit' other.1 other'.1 rest' in (omega (arith, long.0, long.1, long'.0, long'.1, q.0), q.1)
              ]
            ]
      ]
    ]

-- ---- and so are two tries
values_long : (i j : ℕ) (rs : List Reading) (xs : List ℕ) → ReadsValues i j rs xs → length rs ≡ length xs
values_long i j [] [] h = refl
values_long i j (r ∷ rs) (x ∷ xs) h = ap suc (values_long i (j + 1) rs xs h.2)
values_long i j [] (x ∷ xs) h = absurd h
values_long i j (r ∷ rs) [] h = absurd h

hits_long : (V : ℕ) (hit : Option ℕ) (rs qs : List Reading) (held held' : List ℕ) → ReadsHit V hit rs held → ReadsHit V hit qs held' → length rs ≡ length qs
hits_long V None rs qs held held' a b = ap length a.0 ∙ sym (ap length b.0)
hits_long V (Some i) rs qs held held' a b =
    let one = ap length a.3 ∙ length-append a.0 (a.1 ∷ []) in
    let two = ap length b.3 ∙ length-append b.0 (b.1 ∷ []) in
    omega (arith, one, two, values_long i 1 a.0 a.2 a.6, values_long i 1 b.0 b.2 b.6, a.5, b.5)

-- a try and what follows it, with each part named
try_whole : (V : ℕ) (sh : Shape) (k : ℕ) (xs us : List Reading) (hit : Option ℕ) (held : List ℕ) (before after at : ℕ) (m : Tries V sh k xs hit held before after at) →
    xs ++ us ≡ m.first ∷ (m.scan ++ (m.values ++ m.mid ∷ m.last ∷ us))
try_whole V sh k xs us hit held before after at m =
    ap (λ (z : List Reading). z ++ us) m.parts
    ∙ ap (λ (z : List Reading). m.first ∷ z) (append_assoc m.scan (m.values ++ m.mid ∷ m.last ∷ []) us ∙ ap (λ (z : List Reading). m.scan ++ z) (append_assoc m.values (m.mid ∷ m.last ∷ []) us))

try_long : (V : ℕ) (sh : Shape) (k : ℕ) (xs : List Reading) (hit : Option ℕ) (held : List ℕ) (before after at : ℕ) (m : Tries V sh k xs hit held before after at) → length xs ≡ 3 + length m.scan + length m.values
try_long V sh k xs hit held before after at m =
    let whole = ap length m.parts in
    omega (arith, whole, length-append m.scan (m.values ++ m.mid ∷ m.last ∷ []), length-append m.values (m.mid ∷ m.last ∷ []))

tries_end : (V : ℕ) (sh : Shape) (k : ℕ) (xs ys us vs : List Reading) (hit hit' : Option ℕ) (held held' : List ℕ) (b a at b' a' at' : ℕ) → Tries V sh k xs hit held b a at → Tries V sh k ys hit' held' b' a' at' → xs ++ us ≡ ys ++ vs →
    (length xs ≡ length ys) × (hit ≡ hit') × (b ≡ b') × (a ≡ a')
tries_end V sh k xs ys us vs hit hit' held held' b a at b' a' at' m n e =
    let whole = sym (try_whole V sh k xs us hit held b a at m) ∙ (e ∙ try_whole V sh k ys vs hit' held' b' a' at' n) in
    let first : m.first ≡ n.first = same_head m.first n.first (m.scan ++ (m.values ++ m.mid ∷ m.last ∷ us)) (n.scan ++ (n.values ++ n.mid ∷ n.last ∷ vs)) whole in
    let rest : m.scan ++ (m.values ++ m.mid ∷ m.last ∷ us) ≡ n.scan ++ (n.values ++ n.mid ∷ n.last ∷ vs) = same_rest m.first n.first (m.scan ++ (m.values ++ m.mid ∷ m.last ∷ us)) (n.scan ++ (n.values ++ n.mid ∷ n.last ∷ vs)) whole in
    let scan = scans_end sh k (slots_for sh k) m.scan n.scan (m.values ++ m.mid ∷ m.last ∷ us) (n.values ++ n.mid ∷ n.last ∷ vs) hit hit' m.scans n.scans rest in
    let after_scan = (same_parts m.scan (m.values ++ m.mid ∷ m.last ∷ us) n.scan (n.values ++ n.mid ∷ n.last ∷ vs) scan.0 rest).1 in
    let long = hits_long V hit' m.values n.values held held' (subst (λ (z : Option ℕ). ReadsHit V z m.values held) scan.1 m.reads) n.reads in
    let ends : m.mid ∷ m.last ∷ us ≡ n.mid ∷ n.last ∷ vs = (same_parts m.values (m.mid ∷ m.last ∷ us) n.values (n.mid ∷ n.last ∷ vs) long after_scan).1 in
    let last : m.last ≡ n.last = same_head m.last n.last us vs (same_rest m.mid n.mid (m.last ∷ us) (n.last ∷ vs) ends) in (
      omega (arith, try_long V sh k xs hit held b a at m, try_long V sh k ys hit' held' b' a' at' n, scan.0, long),
      scan.1,
      sym m.first_word ∙ (ap (λ (r : Reading). r.word) first ∙ n.first_word),
      sym m.last_word ∙ (ap (λ (r : Reading). r.word) last ∙ n.last_word),
    )

-- a version that is odd begins no try whose first version is even
odd_even : (V : ℕ) (sh : Shape) (k : ℕ) (r : Reading) (ys us vs : List Reading) (hit : Option ℕ) (held : List ℕ) (b a at : ℕ) → r.word % 2 ≡ 1 → Tries V sh k ys hit held b a at → r ∷ us ≡ ys ++ vs → ⊥
odd_even V sh k r ys us vs hit held b a at odd n e =
    let first : r ≡ n.first = same_head r n.first us (n.scan ++ (n.values ++ n.mid ∷ n.last ∷ vs)) (e ∙ try_whole V sh k ys vs hit held b a at n) in
    let word : r.word ≡ b = ap (λ (z : Reading). z.word) first ∙ n.first_word in
    let even : r.word % 2 ≡ 0 = ap (λ (z : ℕ). z % 2) word ∙ n.even in
    omega (arith, odd, even)

spoiled_end : (V : ℕ) (sh : Shape) (k : ℕ) (xs ys us vs : List Reading) → IsSpoiled V sh k xs → IsSpoiled V sh k ys → xs ++ us ≡ ys ++ vs → length xs ≡ length ys
spoiled_end V sh k xs ys us vs a b e = elim a [
  | inl odd ↦ elim b [
    | inl odd' ↦ ap length odd.1 ∙ sym (ap length odd'.1)
    | inr n ↦ absurd (odd_even V sh k odd.0 ys us vs n.0 n.1 n.2 n.3 n.4 odd.3 n.6 (sym (ap (λ (z : List Reading). z ++ us) odd.1) ∙ e))
  ]
  | inr m ↦ elim b [
    | inl odd' ↦ absurd (odd_even V sh k odd'.0 xs vs us m.0 m.1 m.2 m.3 m.4 odd'.3 m.6 (sym (ap (λ (z : List Reading). z ++ vs) odd'.1) ∙ sym e))
    | inr n ↦ (tries_end V sh k xs ys us vs m.0 n.0 m.1 n.1 m.2 m.3 m.4 n.2 n.3 n.4 m.6 n.6 e).0
  ]
]

-- a try that is spoiled begins none that stands, nor the other way round
spoiled_or_stands : (V : ℕ) (sh : Shape) (k : ℕ) (xs ys us vs : List Reading) (hit : Option ℕ) (held : List ℕ) (version at : ℕ) → IsSpoiled V sh k xs → Tries V sh k ys hit held version version at → xs ++ us ≡ ys ++ vs → ⊥
spoiled_or_stands V sh k xs ys us vs hit held version at a n e = elim a [
  | inl odd ↦ odd_even V sh k odd.0 ys us vs hit held version version at odd.3 n (sym (ap (λ (z : List Reading). z ++ us) odd.1) ∙ e)
  | inr m ↦ (let same = tries_end V sh k xs ys us vs m.0 hit m.1 held m.2 m.3 m.4 version version at m.6 n e in m.5 (same.3 ∙ sym same.2))
]

marks_long : (hit : Option ℕ) (rs qs : List Reading) → MarksHit hit rs → MarksHit hit qs → length rs ≡ length qs
marks_long None rs qs a b = ap length a ∙ sym (ap length b)
marks_long (Some i) rs qs a b = ap length a.1 ∙ sym (ap length b.1)

-- so no lookup begins another
pub lookup_ends : (V : ℕ) (sh : Shape) (k t : ℕ) (xs ys : List Reading) (y : Reading) (reply reply' : Reply V) → IsLookup V sh k t xs reply → IsLookup V sh k t (xs ++ y ∷ ys) reply' → ⊥
lookup_ends V sh k zero xs ys y reply reply' a b = omega (arith, ap length b.0, length-append xs (y ∷ ys))
lookup_ends V sh k (suc t) xs ys y reply reply' a b = elim a [
  | inl m ↦ (
      let whole : m.0 ++ (m.1 ++ y ∷ ys) ≡ xs ++ y ∷ ys = sym (append_assoc m.0 m.1 (y ∷ ys)) ∙ ap (λ (z : List Reading). z ++ y ∷ ys) (sym m.2) in
      elim b [
        | inl n ↦ (
            let e = whole ∙ n.2 in
            let rest : m.1 ++ y ∷ ys ≡ n.1 = (same_parts m.0 (m.1 ++ y ∷ ys) n.0 n.1 (spoiled_end V sh k m.0 n.0 (m.1 ++ y ∷ ys) n.1 m.3 n.3 e) e).1 in
            lookup_ends V sh k t m.1 ys y reply reply' m.4 (subst (λ (z : List Reading). IsLookup V sh k t z reply') (sym rest) n.4)
            )
        | inr n ↦ spoiled_or_stands V sh k m.0 n.0 (m.1 ++ y ∷ ys) n.1 n.2 n.3 n.4 n.5 m.3 n.7 (whole ∙ n.6)
      ]
      )
  | inr m ↦ (
      let whole : m.0 ++ (m.1 ++ y ∷ ys) ≡ xs ++ y ∷ ys = sym (append_assoc m.0 m.1 (y ∷ ys)) ∙ ap (λ (z : List Reading). z ++ y ∷ ys) (sym m.6) in
      elim b [
        | inl n ↦ spoiled_or_stands V sh k n.0 m.0 n.1 (m.1 ++ y ∷ ys) m.2 m.3 m.4 m.5 n.3 m.7 (sym (whole ∙ n.2))
        | inr n ↦ (
            let e = whole ∙ n.6 in
            let same = tries_end V sh k m.0 n.0 (m.1 ++ y ∷ ys) n.1 m.2 n.2 m.3 n.3 m.4 m.4 m.5 n.4 n.4 n.5 m.7 n.7 e in
            let rest : m.1 ++ y ∷ ys ≡ n.1 = (same_parts m.0 (m.1 ++ y ∷ ys) n.0 n.1 same.0 e).1 in
            let long = marks_long n.2 m.1 n.1 (subst (λ (z : Option ℕ). MarksHit z m.1) same.1 m.8) n.8 in
            omega (arith, long, ap length rest, length-append m.1 (y ∷ ys))
            )
      ]
      )
]

-- ---- marks
abbrev NoMarks : List Reading → Type 0
NoMarks [] = Unit {0}
NoMarks (r ∷ rs) = IsReading r.access × NoMarks rs

both_none : (xs ys : List Reading) → NoMarks xs → NoMarks ys → NoMarks (xs ++ ys)
both_none [] ys a b = b
both_none (x ∷ xs) ys a b = (a.0, both_none xs ys a.1 b)

none_at : (xs ys : List Reading) (e : Reading) → NoMarks (xs ++ e ∷ ys) → IsReading e.access
none_at [] ys e h = h.0
none_at (x ∷ xs) ys e h = none_at xs ys e h.1

scan_none : (sh : Shape) (k : ℕ) (ps : List Place) (rs : List Reading) (hit : Option ℕ) → Scans sh k ps rs hit → NoMarks rs
scan_none sh k [] rs hit scan = subst NoMarks (sym scan.0) tt
scan_none sh k (p ∷ ps) rs hit scan =
    let first : IsReading scan.0.access = subst IsReading (sym scan.3) tt in
    subst NoMarks (sym scan.2) (
      first,
      elim scan.4 [
        | inl missed ↦ scan_none sh k ps scan.1 hit missed.1
        | inr met ↦ (
            let key : IsReading met.1.access = subst IsReading (sym met.5) tt in
            subst NoMarks (sym met.4) (
              key,
              elim met.6 [
                | inl is ↦ subst NoMarks (sym is.1) tt
                | inr other ↦ scan_none sh k ps met.2 hit other.1
              ],
            )
            )
      ],
    )

values_none : (i j : ℕ) (rs : List Reading) (v : List ℕ) → ReadsValues i j rs v → NoMarks rs
values_none i j [] [] reads = tt
values_none i j (r ∷ rs) (x ∷ xs) reads = (subst IsReading (sym reads.0) tt, values_none i (j + 1) rs xs reads.2)
values_none i j [] (x ∷ xs) reads = absurd reads
values_none i j (r ∷ rs) [] reads = absurd reads

hit_none : (V : ℕ) (hit : Option ℕ) (rs : List Reading) (held : List ℕ) → ReadsHit V hit rs held → NoMarks rs
hit_none V None rs held reads = subst NoMarks (sym reads.0) tt
hit_none V (Some i) rs held reads = subst NoMarks (sym reads.3) (both_none reads.0 (reads.1 ∷ []) (values_none i 1 reads.0 reads.2 reads.6) (subst IsReading (sym reads.7) tt, tt))

try_none : (V : ℕ) (sh : Shape) (k : ℕ) (rs : List Reading) (hit : Option ℕ) (held : List ℕ) (before after at : ℕ) → Tries V sh k rs hit held before after at → NoMarks rs
try_none V sh k rs hit held before after at m =
    let ends : NoMarks (m.mid ∷ m.last ∷ []) = (subst IsReading (sym m.mid_is) tt, (subst IsReading (sym m.last_is) tt, tt)) in
    subst NoMarks (sym m.parts) (
      subst IsReading (sym m.first_is) tt,
      both_none m.scan (m.values ++ m.mid ∷ m.last ∷ []) (scan_none sh k (slots_for sh k) m.scan hit m.scans) (both_none m.values (m.mid ∷ m.last ∷ []) (hit_none V hit m.values held m.reads) ends),
    )

spoiled_none : (V : ℕ) (sh : Shape) (k : ℕ) (rs : List Reading) → IsSpoiled V sh k rs → NoMarks rs
spoiled_none V sh k rs spoiled = elim spoiled [
  | inl odd ↦ subst NoMarks (sym odd.1) (subst IsReading (sym odd.2) tt, tt)
  | inr m ↦ try_none V sh k rs m.0 m.1 m.2 m.3 m.4 m.6
]

-- a mark is the last entry of a lookup
pub mark_ends : (V : ℕ) (sh : Shape) (k t : ℕ) (xs ys : List Reading) (e y : Reading) (reply : Reply V) → IsLookup V sh k t (xs ++ e ∷ y ∷ ys) reply → IsReading e.access
mark_ends V sh k zero xs ys e y reply a = absurd (omega (arith, ap length a.0, length-append xs (e ∷ y ∷ ys)))
mark_ends V sh k (suc t) xs ys e y reply a = elim a [
  | inl m ↦ elim (cut_at xs (y ∷ ys) m.0 m.1 e m.2) [
    | inl first ↦ none_at xs first.0 e (subst NoMarks first.1 (spoiled_none V sh k m.0 m.3))
    | inr second ↦ mark_ends V sh k t second.0 ys e y reply (subst (λ (z : List Reading). IsLookup V sh k t z reply) second.2 m.4)
  ]
  | inr m ↦ elim (cut_at xs (y ∷ ys) m.0 m.1 e m.6) [
    | inl first ↦ none_at xs first.0 e (subst NoMarks first.1 (try_none V sh k m.0 m.2 m.3 m.4 m.4 m.5 m.7))
    | inr second ↦ absurd (omega (arith, ap length second.2, length-append second.0 (e ∷ y ∷ ys), marks_few m.2 m.1 m.8))
  ]
]
  where
    marks_few : (hit : Option ℕ) (rs : List Reading) → MarksHit hit rs → length rs < 2
    marks_few None rs marks = omega (arith, ap length marks)
    marks_few (Some i) rs marks = omega (arith, ap length marks.1)

-- and stays one wherever it is made
pub mark_moves : (V : ℕ) (sh : Shape) (k t i : ℕ) (xs : List Reading) (e q : Reading) (reply : Reply V) → e.access ≡ Mark i → q.access ≡ Mark i → IsLookup V sh k t (xs ++ e ∷ []) reply → IsLookup V sh k t (xs ++ q ∷ []) reply
mark_moves V sh k zero i xs e q reply is mark a = absurd (omega (arith, ap length a.0, length-append xs (e ∷ [])))
mark_moves V sh k (suc t) i xs e q reply is mark a = elim a [
  | inl m ↦ elim (cut_at xs [] m.0 m.1 e m.2) [
    | inl first ↦ absurd (subst IsReading is (none_at xs first.0 e (subst NoMarks first.1 (spoiled_none V sh k m.0 m.3))))
    | inr second ↦ inl (
      m.0,
      second.0 ++ q ∷ [],
      ap (λ (z : List Reading). z ++ q ∷ []) second.1 ∙ append_assoc m.0 second.0 (q ∷ []),
      m.3,
      mark_moves V sh k t i second.0 e q reply is mark (subst (λ (z : List Reading). IsLookup V sh k t z reply) second.2 m.4),
    )
  ]
  | inr m ↦ elim (cut_at xs [] m.0 m.1 e m.6) [
    | inl first ↦ absurd (subst IsReading is (none_at xs first.0 e (subst NoMarks first.1 (try_none V sh k m.0 m.2 m.3 m.4 m.4 m.5 m.7))))
    | inr second ↦ inr (
        let alone = marks_alone m.2 second.0 m.1 second.2 m.8 in (
          m.0,
          q ∷ [],
          m.2,
          m.3,
          m.4,
          m.5,
          ap (λ (z : List Reading). z ++ q ∷ []) (second.1 ∙ ap (λ (z : List Reading). m.0 ++ z) alone.0 ∙ append-nil m.0),
          m.7,
          alone.1,
          m.9,
        )
        )
  ]
]
  where
    marks_alone : (hit : Option ℕ) (more ys : List Reading) → ys ≡ more ++ e ∷ [] → MarksHit hit ys → (more ≡ []) × MarksHit hit (q ∷ [])
    marks_alone None more ys e' marks = absurd (omega (arith, ap length marks, ap length e', length-append more (e ∷ [])))
    marks_alone (Some j) [] ys e' marks =
        let same : marks.0 ≡ e = same_head marks.0 e [] [] (sym marks.1 ∙ e') in
        (refl, (q, refl, mark ∙ (sym is ∙ (ap (λ (z : Reading). z.access) (sym same) ∙ marks.2))))
    marks_alone (Some j) (x ∷ more) ys e' marks = absurd (omega (arith, ap length marks.1, ap length e', length-append more (e ∷ [])))
