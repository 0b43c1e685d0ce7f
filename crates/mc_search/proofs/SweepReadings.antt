-- A sweep, reading by reading.
use Rattle.std.proofs.Common.{ℕ, zero, suc, ◌≡◌, ◌≢◌, ◌+◌, ◌*◌, ◌%◌, ◌<◌, ◌∙◌, ◌⊎◌, inl, inr, List, [], ◌∷◌, ◌++◌, Option, Some, None, Bool, true, false, cond, eqb, ap, refl, sym, subst, arith, get_or, length}
use Rattle.std.proofs.Math.Nat.{mod-add-mod, mod-lt}
use Rattle.std.proofs.lemmas.Bool.{cases_lt, eqb-false, false≢true}
use Rattle.std.proofs.lemmas.List.{get_or_push, get_or_append_left, length_push}
use Rattle.std.specs.Option.{is_some}
use Rattle.mc_search.specs.declared.sweep.Sweep.{Sweep}
use Rattle.mc_search.specs.Sweeps.{Swept, HasSwept, IsSearch, IsSweep, victim_of, next_from, next_item}

-- what a next item says of the sweep
pub next_parts : (v : Option ℕ) (left hand i : ℕ) → next_from v left hand ≡ Some i → (v ≡ None) × (0 < left) × (i ≡ hand)
next_parts (Some j) left hand i e = absurd (cc)
next_parts None zero hand i e = absurd (cc)
next_parts None (suc left) hand i e = (refl, omega arith, cc)

-- if there is no victim, the first reading is no victim's, and the others have none
pub first_marked : (r : Swept) (rs : List Swept) → victim_of (r ∷ rs) ≡ None → (eqb r.bit 0 ≡ false) × (victim_of rs ≡ None)
first_marked r rs none =
    let P : Bool → Type 0 = λ b. cond b (Some r.item) (victim_of rs) ≡ None → (b ≡ false) × (victim_of rs ≡ None) in
    let all : (b : Bool) → P b = λ b. elim b as P [ true ↦ λ e. absurd (cc) | false ↦ λ e. (refl, e) ] in
    all (eqb r.bit 0) none

pub all_marked : (rs : List Swept) → victim_of rs ≡ None → (n : ℕ) (d : Swept) → n < length rs → (get_or rs n d).bit ≢ 0
all_marked [] none n d l e = absurd (omega arith)
all_marked (r ∷ rs) none zero d l e = eqb-false r.bit 0 (first_marked r rs none).0 e
all_marked (r ∷ rs) none (suc n) d l e = all_marked rs (first_marked r rs none).1 n d (omega arith) e

-- the victim after one reading more
pub victim_push : (rs : List Swept) (r : Swept) → victim_of rs ≡ None → victim_of (rs ++ r ∷ []) ≡ cond (eqb r.bit 0) (Some r.item) None
victim_push [] r none = refl
victim_push (x ∷ rs) r none =
    let first = first_marked x rs none in
    ap (λ b. cond b (Some x.item) (victim_of (rs ++ r ∷ []))) first.0 ∙ victim_push rs r first.1

-- one reading more, while there is no victim
-- of whatever item it is
pub search_push : (items : ℕ) (rs : List Swept) (r : Swept) → IsSearch items rs → victim_of rs ≡ None → length rs < 2 * items → r.item < items → IsSearch items (rs ++ r ∷ [])
search_push items rs r searches none below inside =
    let many = length_push rs r in
    record {
      inside = λ n d l. elim (cases_lt n (length rs)) [
        | inl before ↦ subst (λ (x : Swept). x.item < items) (sym (get_or_append_left rs (r ∷ []) d n before)) (searches.inside n d before)
        | inr past ↦
            let last : length rs ≡ n = omega arith in
            subst (λ (x : Swept). x.item < items) (sym (get_or_push rs r d n last)) inside
      ];
      most = omega arith;
      marked = λ n d l e.
          let before : n < length rs = omega arith in
          all_marked rs none n d before (sym (ap (λ (x : Swept). x.bit) (get_or_append_left rs (r ∷ []) d n before)) ∙ e);
    }

-- of the item at the hand
pub sweep_push : (items hand : ℕ) (rs : List Swept) (bit : ℕ) → IsSweep items hand rs → victim_of rs ≡ None → length rs < 2 * items → IsSweep items hand (rs ++ record { item = (hand + length rs) % items; bit = bit } ∷ [])
sweep_push items hand rs bit sweeps none below =
    let r : Swept = record { item = (hand + length rs) % items; bit = bit } in
    let many = length_push rs r in
    record {
      searches = search_push items rs r sweeps.searches none below (mod-lt (hand + length rs) (omega (arith, below)));
      round = λ n d l. elim (cases_lt n (length rs)) [
        | inl before ↦ ap (λ (x : Swept). x.item) (get_or_append_left rs (r ∷ []) d n before) ∙ sweeps.round n d before
        | inr past ↦
            let last : length rs ≡ n = omega arith in
            ap (λ (x : Swept). x.item) (get_or_push rs r d n last) ∙ ap (λ (m : ℕ). (hand + m) % items) last
      ];
    }

pub swept_next : (sweep new : Sweep) (items hand : ℕ) (rs : List Swept) (i bit : ℕ) → HasSwept sweep items hand rs → next_item sweep ≡ Some i
    → new.items ≡ sweep.items → new.left + 1 ≡ sweep.left → new.hand ≡ (sweep.hand + 1) % items → new.victim ≡ cond (eqb bit 0) (Some sweep.hand) None
    → HasSwept new items hand (rs ++ record { item = i; bit = bit } ∷ [])
unfolding next_item
swept_next sweep new items hand rs i bit has next count left stands found =
    let r : Swept = record { item = i; bit = bit } in
    let parts = next_parts sweep.victim sweep.left sweep.hand i next in
    let none : victim_of rs ≡ None = sym has.found ∙ parts.0 in
    let many = length_push rs r in
    let many_left = has.left in
    let here : (hand + length rs) % items ≡ i = sym has.stands ∙ sym parts.2 in
    record {
      sweeps = subst (λ (j : ℕ). IsSweep items hand (rs ++ record { item = j; bit = bit } ∷ [])) here (sweep_push items hand rs bit has.sweeps none (omega arith));
      count = count ∙ has.count;
      start = has.start;
      left = omega arith;
      stands = stands ∙ ap (λ (h : ℕ). (h + 1) % items) has.stands ∙ mod-add-mod (hand + length rs) items 1 ∙ ap (λ (m : ℕ). m % items) (omega (arith, many));
      found = found ∙ ap (λ (h : ℕ). cond (eqb bit 0) (Some h) None) (sym parts.2) ∙ sym (victim_push rs r none);
    }

-- which item is next
pub next_none : (v : Option ℕ) (left hand : ℕ) → (is_some v ≡ true) ⊎ (left ≡ 0) → next_from v left hand ≡ None
next_none (Some i) left hand e = refl
next_none None zero hand e = refl
next_none None (suc left) hand e = elim e [ inl some ↦ absurd (false≢true some) | inr none ↦ absurd (omega arith) ]

pub next_some : (v : Option ℕ) (left hand : ℕ) → is_some v ≡ false → left ≢ 0 → next_from v left hand ≡ Some hand
next_some (Some i) left hand e ne = absurd (false≢true (sym e))
next_some None zero hand e ne = absurd (ne refl)
next_some None (suc left) hand e ne = refl

-- the hand is at an item
pub stands_below : (sweep : Sweep) (items hand : ℕ) (rs : List Swept) → HasSwept sweep items hand rs → sweep.hand < items
stands_below sweep items hand rs has = rw has.stands (mod-lt (hand + length rs) (omega (arith, has.start)))
