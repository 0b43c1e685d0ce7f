-- A chain that is cut at one of its places.
use Rattle.std.proofs.Common.{ℕ, zero, suc, Some, take, ◌≡◌, ◌≢◌, ◌*◌, ◌<◌, ◌∙◌, inl, inr, List, [], ◌∷◌, ◌++◌, map, false, Contains, ap, refl, sym, subst, arith}
use Rattle.std.specs.Prelude.{eqb, slice_get}
use Rattle.std.specs.List.{IsDistinct, AllByRecursion}
use Rattle.std.proofs.lemmas.Bool.{cases_eq, eqb-false, ne_eqb}
use Rattle.std.proofs.lemmas.List.{map-append}
use Rattle.std.proofs.lemmas.List.Elements.{Contains-append_right}
use Rattle.mc_words.specs.declared.place.Place.{Place}
use Rattle.mc_words.specs.declared.shape.Shape.{Shape}
use Rattle.mc_words.specs.Chains.{IsOccupied, Leads, IsChain, beyond}
use Rattle.mc_words.specs.Keys.{alternate, first_of, second_of, tag_in}
use Rattle.mc_words.specs.Places.{IsPlace, slot_number, slot}
use Rattle.mc_search.specs.Kept.{SetsSlot}
use Rattle.mc_search.specs.Paths.{IsCut}

abbrev buckets : List Place → List ℕ
buckets ps = map (λ (p : Place). p.bucket) ps

-- ---- a place whose slot was not written
leads_by : (sh : Shape) (w later : List ℕ) (b : ℕ) (x : Place) (ps : List Place) (hole : Place) → IsOccupied sh w x → x.bucket ≡ b → slot sh later (slot_number x) ≡ slot sh w (slot_number x) → Leads sh later (beyond sh w x) ps hole → Leads sh later b (x ∷ ps) hole
leads_by sh w later b x ps hole taken at same rest =
    ((taken.0, λ e. taken.1 (sym same ∙ e)), at, subst (λ (c : ℕ). Leads sh later c ps hole) (ap (λ (y : ℕ). alternate sh x.bucket (tag_in y)) (sym same)) rest)

number_below : (sh : Shape) (p : Place) → IsPlace sh p → slot_number p < 4 * sh.buckets
number_below sh p is = omega (arith, is.in_table, is.in_bucket)

-- ---- the victim is on the path
leads_cut : (sh : Shape) (w later : List ℕ) (b : ℕ) (ps : List Place) (p : Place) (qs : List Place) (hole : Place) → IsPlace sh p → Leads sh w b (ps ++ p ∷ qs) hole → SetsSlot sh w later (slot_number p) 0 → AllByRecursion (λ c. eqb p.bucket c ≡ false) (buckets ps) → Leads sh later b ps p
leads_cut sh w later b [] p qs hole is leads set apart = ((is, set.here), leads.1)
leads_cut sh w later b (x ∷ ps) p qs hole is leads set apart =
    let other : p.bucket ≢ x.bucket = eqb-false p.bucket x.bucket apart.0 in
    let ne : slot_number x ≢ slot_number p = λ e. other (omega (arith, is.in_bucket, leads.0.0.in_bucket)) in
    leads_by sh w later b x ps p leads.0 leads.1 (set.others (slot_number x) (number_below sh x leads.0.0) ne) (leads_cut sh w later (beyond sh w x) ps p qs hole is leads.2 set apart.1)

first_part : (P : ℕ → Type 0) (xs ys : List ℕ) → AllByRecursion P (xs ++ ys) → AllByRecursion P xs
first_part P [] ys all = tt
first_part P (a ∷ xs) ys all = (all.0, first_part P xs ys all.1)

at_middle : (P : ℕ → Type 0) (xs : List ℕ) (b : ℕ) (ys : List ℕ) → AllByRecursion P (xs ++ b ∷ ys) → P b
at_middle P [] b ys all = all.0
at_middle P (a ∷ xs) b ys all = at_middle P xs b ys all.1

-- what comes before a part of a distinct list is distinct, and apart from it
cut_apart : (xs : List ℕ) (b : ℕ) (ys : List ℕ) → IsDistinct eqb (xs ++ b ∷ ys) → AllByRecursion (λ c. eqb b c ≡ false) xs
unfolding IsDistinct
cut_apart [] b ys d = tt
cut_apart (a ∷ xs) b ys d =
    let ne : a ≢ b = eqb-false a b (at_middle (λ c. eqb a c ≡ false) xs b ys d.0) in
    (ne_eqb b a (λ e. ne (sym e)), cut_apart xs b ys d.1)

cut_distinct : (xs : List ℕ) (b : ℕ) (ys : List ℕ) → IsDistinct eqb (xs ++ b ∷ ys) → IsDistinct eqb xs
unfolding IsDistinct
cut_distinct [] b ys d = tt
cut_distinct (a ∷ xs) b ys d = (first_part (λ c. eqb a c ≡ false) xs (b ∷ ys) d.0, cut_distinct xs b ys d.1)

cut_on : (sh : Shape) (w later : List ℕ) (k : ℕ) (ps : List Place) (p : Place) (qs : List Place) (hole : Place) → IsPlace sh p → IsChain sh w k (ps ++ p ∷ qs) hole → SetsSlot sh w later (slot_number p) 0 → IsChain sh later k ps p
unfolding IsDistinct
cut_on sh w later k ps p qs hole is chain set =
    let parts : IsDistinct eqb (buckets ps ++ p.bucket ∷ buckets qs) = subst (IsDistinct eqb) (map-append (λ (x : Place). x.bucket) ps (p ∷ qs)) chain.distinct.1 in
    let apart = cut_apart (buckets ps) p.bucket (buckets qs) parts in
    record {
      leads = elim chain.leads [
        | inl a ↦ inl (leads_cut sh w later (first_of sh k) ps p qs hole is a set apart)
        | inr a ↦ inr (leads_cut sh w later (second_of sh k) ps p qs hole is a set apart)
      ];
      distinct = (apart, cut_distinct (buckets ps) p.bucket (buckets qs) parts);
    }

-- ---- the victim is not on the path
same_place : (p q : Place) → p.slot < 4 → q.slot < 4 → slot_number p ≡ slot_number q → p ≡ q
same_place p q a b e =
    let bucket : p.bucket ≡ q.bucket = omega arith in
    let slot : p.slot ≡ q.slot = omega arith in
    let B : ℕ → Place = λ n. record { bucket = n; slot = p.slot } in
    let S : ℕ → Place = λ n. record { bucket = q.bucket; slot = n } in
    ap B bucket ∙ ap S slot

leads_kept : (sh : Shape) (w later : List ℕ) (b : ℕ) (ps : List Place) (hole victim : Place) → IsPlace sh victim → (Contains ps victim → ⊥) → Leads sh w b ps hole → SetsSlot sh w later (slot_number victim) 0 → Leads sh later b ps hole
leads_kept sh w later b [] hole victim is off leads set =
    let empty : slot sh later (slot_number hole) ≡ 0 = elim (cases_eq (slot_number hole) (slot_number victim)) [
      | inl e ↦ ap (slot sh later) e ∙ set.here
      | inr ne ↦ set.others (slot_number hole) (number_below sh hole leads.0.0) ne ∙ leads.0.1
    ] in
    ((leads.0.0, empty), leads.1)
leads_kept sh w later b (x ∷ ps) hole victim is off leads set =
    let ne : slot_number x ≢ slot_number victim = λ e. off (0, omega arith, same_place x victim leads.0.0.in_bucket is.in_bucket e) in
    leads_by sh w later b x ps hole leads.0 leads.1 (set.others (slot_number x) (number_below sh x leads.0.0) ne) (leads_kept sh w later (beyond sh w x) ps hole victim is (λ c. off (Contains-append_right (x ∷ []) ps victim c)) leads.2 set)

kept_on : (sh : Shape) (w later : List ℕ) (k : ℕ) (ps : List Place) (hole victim : Place) → IsPlace sh victim → (Contains ps victim → ⊥) → IsChain sh w k ps hole → SetsSlot sh w later (slot_number victim) 0 → IsChain sh later k ps hole
kept_on sh w later k ps hole victim is off chain set = record {
  leads = elim chain.leads [
    | inl a ↦ inl (leads_kept sh w later (first_of sh k) ps hole victim is off a set)
    | inr a ↦ inr (leads_kept sh w later (second_of sh k) ps hole victim is off a set)
  ];
  distinct = chain.distinct;
}

-- a cut path is a chain when the words lose the victim's slot
pub cut_chain : (sh : Shape) (w later : List ℕ) (k : ℕ) (victim : Place) (ps : List Place) (hole : Place) (kept : List Place) (end : Place) → IsCut victim ps hole kept end → IsPlace sh victim → IsChain sh w k ps hole → SetsSlot sh w later (slot_number victim) 0 → IsChain sh later k kept end
cut_chain sh w later k victim ps hole kept end (inl cut) is chain set =
    subst (λ (p : Place). IsChain sh later k kept p) (sym cut.3) (cut_on sh w later k kept victim cut.0 hole is (subst (λ (xs : List Place). IsChain sh w k xs hole) cut.1 chain) set)
cut_chain sh w later k victim ps hole kept end (inr cut) is chain set =
    subst (λ (xs : List Place). IsChain sh later k xs end) (sym cut.1) (subst (λ (p : Place). IsChain sh later k ps p) (sym cut.2) (kept_on sh w later k ps hole victim is cut.0 chain set))

-- the places before the first that is the victim's
split_at : (ps : List Place) (n : ℕ) (victim : Place) → slice_get ps n ≡ Some victim → (after : List Place) × (ps ≡ take n ps ++ victim ∷ after)
split_at [] n victim e = absurd (cc)
split_at (p ∷ ps) zero victim e = let is : p ≡ victim = cc in (ps, ap (λ (x : Place). x ∷ ps) is)
split_at (p ∷ ps) (suc n) victim e = let rest = split_at ps n victim e in (rest.0, ap (λ (xs : List Place). p ∷ xs) rest.1)

pub cut_found : (ps : List Place) (n : ℕ) (victim hole : Place) (kept : List Place) → slice_get ps n ≡ Some victim → (Contains (take n ps) victim → ⊥) → kept ≡ take n ps → IsCut victim ps hole kept victim
cut_found ps n victim hole kept at first is =
    let parts = split_at ps n victim at in
    inl (parts.0, parts.1 ∙ ap (λ (xs : List Place). xs ++ victim ∷ parts.0) (sym is), (λ c. first (subst (λ (xs : List Place). Contains xs victim) is c)), refl)
