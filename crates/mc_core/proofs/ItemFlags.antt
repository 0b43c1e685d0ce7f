-- The flags of the items that slots name, after a slot was written.
use Rattle.std.proofs.Common.{ℕ, zero, suc, ◌≡◌, ◌≢◌, ◌+◌, ◌-◌, ◌*◌, ◌<◌, ◌≤◌, Bool, true, false, List, [], ◌∷◌, length, get_or, refl, sym, ◌∙◌, subst, inl, inr, arith, get_or-set_same, get_or-set_other}
use Rattle.std.specs.Prelude.{slice_set}
use Rattle.std.proofs.lemmas.Bool.{cases_eq, cases_Bool, false≢true}
use Rattle.mc_words.proofs.Frames.{slot_word-parts, empty_names_none, moved_names, one_named}
use Rattle.mc_words.proofs.Places.{slot-with_slot_same, slot-with_slot_other}
use Rattle.mc_words.specs.Keys.{slot_word}
use Rattle.mc_words.specs.Places.{slot, with_slot}
use Rattle.mc_words.specs.Shapes.{IsShape}
use Rattle.mc_words.specs.Standing.{NamesItem, IsFree}
use Rattle.mc_words.specs.declared.shape.Shape.{Shape}
use Rattle.mc_core.specs.Inside.Writers.{downs, UsedIn}

-- a flag raised, a flag lowered
pub downs_up : (xs : List Bool) (i : ℕ) → i < length xs → get_or xs i false ≡ false → downs (slice_set xs i true) + 1 ≡ downs xs
downs_up [] i l e = absurd (omega arith)
downs_up (false ∷ xs) zero l e = refl
downs_up (true ∷ xs) zero l e = absurd (false≢true (sym e))
downs_up (false ∷ xs) (suc i) l e = let rest = downs_up xs i (omega arith) e in omega (arith, rest)
downs_up (true ∷ xs) (suc i) l e = downs_up xs i (omega arith) e

-- a flag that is lowered is one more that is down
pub downs_down : (xs : List Bool) (i : ℕ) → i < length xs → get_or xs i false ≡ true → downs (slice_set xs i false) ≡ downs xs + 1
downs_down [] i l e = absurd (omega arith)
downs_down (true ∷ xs) zero l e = refl
downs_down (false ∷ xs) zero l e = absurd (false≢true e)
downs_down (false ∷ xs) (suc i) l e = let rest = downs_down xs i (omega arith) e in omega (arith, rest)
downs_down (true ∷ xs) (suc i) l e = downs_down xs i (omega arith) e

-- no more flags are down than there are
pub downs_most : (xs : List Bool) → downs xs ≤ length xs
downs_most [] = omega arith
downs_most (true ∷ xs) = let rest = downs_most xs in omega (arith, rest)
downs_most (false ∷ xs) = let rest = downs_most xs in omega (arith, rest)

-- an item that a slot names has its flag up, and one that none names has it down
pub up_of : (sh : Shape) (w : List ℕ) (flags : List Bool) (free q i : ℕ) → UsedIn sh w flags free → NamesItem sh w q i → get_or flags i false ≡ true
up_of sh w flags free q i u a =
    elim (cases_Bool (get_or flags i false)) [ inl up ↦ up | inr down ↦ absurd (u.unused i a.in_items down q a) ]

pub down_of : (sh : Shape) (w : List ℕ) (flags : List Bool) (free i : ℕ) → UsedIn sh w flags free → i < sh.items → IsFree sh w i → get_or flags i false ≡ false
down_of sh w flags free i u l none =
    elim (cases_Bool (get_or flags i false)) [ inl up ↦ (let named = u.used i l up in absurd (none named.0 named.1)) | inr down ↦ down ]

-- what another slot than the one that was written names
pub names_on : (sh : Shape) (w : List ℕ) (p x q g : ℕ) → q ≢ p → NamesItem sh w q g → NamesItem sh (with_slot sh w p x) q g
names_on sh w p x q g ne a = moved_names sh w (with_slot sh w p x) q g (slot-with_slot_other sh w p x q ne) a

-- and no other slot names more than it did
pub names_back : (sh : Shape) (w : List ℕ) (p x q g : ℕ) → q ≢ p → NamesItem sh (with_slot sh w p x) q g → NamesItem sh w q g
names_back sh w p x q g ne a = moved_names sh (with_slot sh w p x) w q g (sym (slot-with_slot_other sh w p x q ne)) a

-- and what the slot that was written names
pub names_new : (sh : Shape) (w : List ℕ) (p x tag i g : ℕ) → IsShape sh → 1 + sh.stripes + p < length w → i < sh.items → x ≡ slot_word tag i → NamesItem sh (with_slot sh w p x) p g → g ≡ i
names_new sh w p x tag i g s l below e a =
    (slot_word-parts a.tag tag g i (omega (arith, a.in_items, s.items.1, s.buckets.1)) (omega (arith, below, s.items.1, s.buckets.1)) (sym a.word ∙ slot-with_slot_same sh w p x l ∙ e)).1

-- a slot that was cleared names nothing
pub names_none : (sh : Shape) (w : List ℕ) (p x g : ℕ) → 1 + sh.stripes + p < length w → x ≡ 0 → NamesItem sh (with_slot sh w p x) p g → ⊥
names_none sh w p x g l e a = empty_names_none sh (with_slot sh w p x) p g (slot-with_slot_same sh w p x l ∙ e) a

-- an empty slot names a free item from now on
pub used_place : (sh : Shape) (w : List ℕ) (flags : List Bool) (free p x tag i : ℕ) → IsShape sh → length flags ≡ sh.items → 1 + sh.stripes + p < length w → p < 4 * sh.buckets → slot sh w p ≡ 0 → tag < 256 → i < sh.items → IsFree sh w i → x ≡ slot_word tag i → UsedIn sh w flags free → UsedIn sh (with_slot sh w p x) (slice_set flags i true) (free - 1)
used_place sh w flags free p x tag i s many l table empty is_tag below none e u =
    let down = down_of sh w flags free i u below none in
    let in_flags : i < length flags = omega (arith, below, many) in
    record {
      used = λ g h up. elim (cases_eq g i) [
        | inl is ↦ (p, record { tag = tag; in_table = table; in_items = h; is_tag = is_tag; word = slot-with_slot_same sh w p x l ∙ subst (λ (y : ℕ). x ≡ slot_word tag y) (sym is) e })
        | inr ne ↦
            let named = u.used g h (sym (get_or-set_other flags i g true false ne) ∙ up) in
            (named.0, names_on sh w p x named.0 g (λ is. empty_names_none sh w p g empty (subst (λ (y : ℕ). NamesItem sh w y g) is named.1)) named.1)
      ];
      unused = λ g h off q a. elim (cases_eq g i) [
        | inl is ↦ absurd (false≢true (sym (subst (λ (y : ℕ). get_or (slice_set flags i true) y false ≡ false) is off) ∙ get_or-set_same flags i true false in_flags))
        | inr ne ↦ elim (cases_eq q p) [
          | inl here ↦ ne (names_new sh w p x tag i g s l below e (subst (λ (y : ℕ). NamesItem sh (with_slot sh w p x) y g) here a))
          | inr there ↦ u.unused g h (sym (get_or-set_other flags i g true false ne) ∙ off) q (names_back sh w p x q g there a)
        ]
      ];
      many = omega (arith, downs_up flags i in_flags down, u.many);
    }

-- the one slot that names an item is empty from now on
pub used_clear : (sh : Shape) (w : List ℕ) (flags : List Bool) (free p x i : ℕ) → length flags ≡ sh.items → 1 + sh.stripes + p < length w → x ≡ 0 → NamesItem sh w p i → IsShape sh → ((q : ℕ) → NamesItem sh w q i → q ≡ p) → UsedIn sh w flags free → UsedIn sh (with_slot sh w p x) (slice_set flags i false) (free + 1)
used_clear sh w flags free p x i many l e a s once u =
    let up = up_of sh w flags free p i u a in
    let in_flags : i < length flags = omega (arith, a.in_items, many) in
    record {
      used = λ g h on. elim (cases_eq g i) [
        | inl is ↦ absurd (false≢true (sym (get_or-set_same flags i false false in_flags) ∙ subst (λ (y : ℕ). get_or (slice_set flags i false) y false ≡ true) is on))
        | inr ne ↦
            let named = u.used g h (sym (get_or-set_other flags i g false false ne) ∙ on) in
            (named.0, names_on sh w p x named.0 g (λ is. ne (one_named sh w p g i s (subst (λ (y : ℕ). NamesItem sh w y g) is named.1) a)) named.1)
      ];
      unused = λ g h off q b. elim (cases_eq q p) [
        | inl here ↦ names_none sh w p x g l e (subst (λ (y : ℕ). NamesItem sh (with_slot sh w p x) y g) here b)
        | inr there ↦ elim (cases_eq g i) [
          | inl is ↦ there (once q (subst (λ (y : ℕ). NamesItem sh w q y) is (names_back sh w p x q g there b)))
          | inr ne ↦ u.unused g h (sym (get_or-set_other flags i g false false ne) ∙ off) q (names_back sh w p x q g there b)
        ]
      ];
      many = omega (arith, downs_down flags i in_flags up, u.many);
    }

-- an empty slot names an item that another slot names too
pub used_copy : (sh : Shape) (w : List ℕ) (flags : List Bool) (free p x tag i r : ℕ) → IsShape sh → 1 + sh.stripes + p < length w → slot sh w p ≡ 0 → x ≡ slot_word tag i → NamesItem sh w r i → UsedIn sh w flags free → UsedIn sh (with_slot sh w p x) flags free
used_copy sh w flags free p x tag i r s l empty e a u = record {
  used = λ g h up.
      let named = u.used g h up in
      (named.0, names_on sh w p x named.0 g (λ is. empty_names_none sh w p g empty (subst (λ (y : ℕ). NamesItem sh w y g) is named.1)) named.1);
  unused = λ g h off q b. elim (cases_eq q p) [
    | inl here ↦
        let is : g ≡ i = names_new sh w p x tag i g s l a.in_items e (subst (λ (y : ℕ). NamesItem sh (with_slot sh w p x) y g) here b) in
        u.unused g h off r (subst (λ (y : ℕ). NamesItem sh w r y) (sym is) a)
    | inr there ↦ u.unused g h off q (names_back sh w p x q g there b)
  ];
  many = u.many;
}

-- a slot is emptied whose item another slot names too
pub used_leave : (sh : Shape) (w : List ℕ) (flags : List Bool) (free p x i r : ℕ) → IsShape sh → 1 + sh.stripes + p < length w → x ≡ 0 → NamesItem sh w p i → NamesItem sh w r i → r ≢ p → UsedIn sh w flags free → UsedIn sh (with_slot sh w p x) flags free
used_leave sh w flags free p x i r s l e a b apart u = record {
  used = λ g h up.
      let named = u.used g h up in
      elim (cases_eq named.0 p) [
        | inl is ↦
            let same : g ≡ i = one_named sh w p g i s (subst (λ (y : ℕ). NamesItem sh w y g) is named.1) a in
            (r, names_on sh w p x r g apart (subst (λ (y : ℕ). NamesItem sh w r y) (sym same) b))
        | inr ne ↦ (named.0, names_on sh w p x named.0 g ne named.1)
      ];
  unused = λ g h off q d. elim (cases_eq q p) [
    | inl here ↦ names_none sh w p x g l e (subst (λ (y : ℕ). NamesItem sh (with_slot sh w p x) y g) here d)
    | inr there ↦ u.unused g h off q (names_back sh w p x q g there d)
  ];
  many = u.many;
}

-- if a flag is up, fewer are down than there are
pub downs_room : (xs : List Bool) (i : ℕ) → i < length xs → get_or xs i false ≡ true → downs xs + 1 ≤ length xs
downs_room [] i l e = absurd (omega arith)
downs_room (true ∷ xs) zero l e = let most = downs_most xs in omega arith
downs_room (false ∷ xs) zero l e = absurd (false≢true e)
downs_room (false ∷ xs) (suc i) l e = let rest = downs_room xs i (omega arith) e in omega (arith, rest)
downs_room (true ∷ xs) (suc i) l e = let rest = downs_room xs i (omega arith) e in omega (arith, rest)
