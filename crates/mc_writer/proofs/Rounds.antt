-- CLOCK's way round the items in use, reading by reading.
use Rattle.std.proofs.Common.{ℕ, ◌≡◌, ◌+◌, ◌*◌, ◌%◌, ◌<◌, ◌≤◌, ◌⊎◌, ◌∙◌, Contains, inl, inr, List, [], ◌∷◌, ◌++◌, Option, Some, None, ap, append_assoc, append-nil, arith, cond, eqb, get_or, length, refl, sym, subst}
use Rattle.std.proofs.lemmas.Bool.{cases_lt}
use Rattle.std.proofs.lemmas.List.{get_or_push, get_or_append_left, length_push, map-append}
use Rattle.std.proofs.lemmas.List.Elements.{Contains-append_left, Contains-append_right}
use Rattle.mc_words.specs.Checks.{policy_of, shape_of}
use Rattle.mc_words.specs.History.{key_count}
use Rattle.mc_words.specs.Standing.{IsFree, NamesItem}
use Rattle.mc_words.specs.declared.checked.Checked.{Checked}
use Rattle.mc_words.specs.declared.policy.Policy.{Policy}
use Rattle.mc_words.specs.declared.policy.Policy.TheVariants.{Clock}
use Rattle.mc_words.specs.declared.shape.Shape.{Shape}
use Rattle.mc_theory.specs.Effects.{after_act}
use Rattle.mc_theory.specs.Lists.{Made, AreAllowed, state_of}
use Rattle.mc_theory.specs.States.{State}
use Rattle.mc_theory.specs.declared.act.Act.TheVariants.{Hand}
use Rattle.mc_theory.proofs.Lists.Fronts.{state_push}
use Rattle.mc_search.specs.Sweeps.{Swept, hand_acts, victim_of}
use Rattle.mc_search.proofs.SweepReadings.{search_push, victim_push}
use Rattle.mc_plan.specs.Books.{AreBooksOf}
use Rattle.mc_plan.specs.Evicting.{IsSearchIn, IsWholeSearch, items_read}
use Rattle.mc_plan.specs.declared.books.Books.{Books}
use Rattle.mc_plan.proofs.Calls.Evictions.{books_passed}
use Rattle.mc_plan.proofs.Calls.SweptStates.{hand_acts_then, sweep_allowed}
use Rattle.mc_shared.specs.Records.{HasActed}
use Rattle.mc_shared.specs.Views.{layout_of}
use Rattle.mc_shared.proofs.GrownNotes.{grow_acted, grow_trans}
use Rattle.mc_writer.specs.Inside.Pens.{IsSamePen, state_at}
use Rattle.mc_writer.specs.Inside.Rounds.{CanRead, HasReadOn}
use Rattle.mc_writer.specs.Inside.Turns.{HasEndedSearch, HasRead, HasSearched}
use Rattle.mc_writer.specs.declared.pen.Pen.{Pen}
use Rattle.mc_writer.proofs.Evicted.{shape_q}
use Rattle.mc_writer.proofs.Pens.{same_then, shape_kept}
use Rattle.mc_writer.proofs.WholeCalls.{not_turned, shape_there, words_still}

-- what holds of the items of readings holds with one reading more
reads_push : (P : ℕ → Type 0) (rs : List Swept) (r : Swept) → ((n : ℕ) (d : Swept) → n < length rs → P (get_or rs n d).item) → P r.item → (n : ℕ) (d : Swept) → n < length (rs ++ r ∷ []) → P (get_or (rs ++ r ∷ []) n d).item
reads_push P rs r all one n d below =
    let many = length_push rs r in
    elim (cases_lt n (length rs)) [
      | inl before ↦ subst (λ (x : Swept). P x.item) (sym (get_or_append_left rs (r ∷ []) d n before)) (all n d before)
      | inr past ↦
          let last : length rs ≡ n = omega arith in
          subst (λ (x : Swept). P x.item) (sym (get_or_push rs r d n last)) one
    ]

-- ---- one item
module _ (V : ℕ) (b : Books) (p q : Pen V) (rs : List Swept) (i more : ℕ) (can : CanRead V b p q rs (more + 1)) where
  -- that is free is passed over
  pub read_none : (r : Pen V) → r ≡ q → IsFree (shape_of b.checked) (state_at V q).words i → HasReadOn V b p r rs i (i + 1) more None
  read_none r is free =
      let same = sym (append-nil rs) in
      let h = subst (λ (x : Pen V). HasSearched V b p x rs) (sym is) can.searched in
      let room : length rs + more ≤ 2 * (shape_of b.checked).items = omega (arith, can.room) in
      record {
        readings = [];
        searched = subst (HasSearched V b p r) same h;
        found = sym (subst (λ (xs : List Swept). victim_of xs ≡ None) same can.none);
        room = subst (λ (xs : List Swept). length xs + more ≤ 2 * (shape_of b.checked).items) same room;
        all = λ none slot j above below names.
            let here : j ≡ i = omega (arith, above, below) in
            let there = subst (λ (w : List ℕ). NamesItem (shape_of b.checked) w slot j) (sym (words_still V p q rs can.searched.read)) names in
            absurd (free slot (subst (λ (x : ℕ). NamesItem (shape_of b.checked) (state_at V q).words slot x) here there));
      }

  -- that is in use is read
  module _ (r : Pen V) (bit slot : ℕ) (same : IsSamePen V q r) (acted : HasActed q.seat.now r.seat.now (Hand i) bit) (names : NamesItem (shape_of b.checked) (state_at V q).words slot i) where
    abbrev reading : Swept
    reading = record { item = i; bit = bit }

    abbrev h : HasSearched V b p q rs
    h = can.searched

    named : NamesItem (shape_of b.checked) (state_at V p).words slot i
    named = subst (λ (w : List ℕ). NamesItem (shape_of b.checked) w slot i) (words_still V p q rs h.read) names

    searches : IsSearchIn (shape_of b.checked) (state_at V p).words (rs ++ reading ∷ [])
    searches = record {
      searches = search_push (shape_of b.checked).items rs reading h.searches.searches can.none (omega (arith, can.room)) names.in_items;
      in_use = reads_push (λ j. (s : ℕ) × NamesItem (shape_of b.checked) (state_at V p).words s j) rs reading h.searches.in_use (slot, named);
    }

    read_more : HasRead V p r (rs ++ reading ∷ [])
    read_more = record {
      same = same_then h.read.same same;
      of = acted.of ∙ h.read.of;
      acts = acted.acts ∙ ap (λ (xs : List Made). xs ++ record { act = Hand i; bit = bit } ∷ []) h.read.acts ∙ append_assoc p.seat.now.acts (hand_acts rs) (record { act = Hand i; bit = bit } ∷ [])
          ∙ ap (λ (xs : List Made). p.seat.now.acts ++ xs) (sym (hand_acts_then rs (reading ∷ [])));
      notes = grow_trans h.read.notes (grow_acted acted);
      may = subst (λ (x : Shape). AreAllowed x (state_at V p) (hand_acts (rs ++ reading ∷ []))) (shape_there V p b h.layout) (sweep_allowed V (shape_of b.checked) (state_at V p) (rs ++ reading ∷ []) h.began searches.searches);
    }

    state_is : state_at V r ≡ after_act (shape_of b.checked) (state_at V q) (Hand i) bit
    state_is =
        ap (λ (x : Shape). state_of V x r.seat.now.acts) (shape_kept same) ∙ ap (λ (xs : List Made). state_of V q.cells.now.layout.shape xs) acted.acts
        ∙ state_push V q.cells.now.layout.shape q.seat.now.acts (record { act = Hand i; bit = bit }) ∙ ap (λ (x : Shape). after_act x (state_at V q) (Hand i) bit) (sym (shape_q V b p q rs h))

    pub read_one : HasReadOn V (record b { hand = (i + 1) % (shape_of b.checked).items }) p r rs i (i + 1) more (cond (eqb bit 0) (Some i) None)
    read_one =
        let many = length_push rs reading in
        record {
          readings = reading ∷ [];
          searched = record {
            layout = h.layout;
            began = h.began;
            read = read_more;
            searches = searches;
            known = subst (λ (s : State V). AreBooksOf V (record b { hand = (i + 1) % (shape_of b.checked).items }) s) (sym state_is) (books_passed V b (state_at V q) i bit h.known names.in_items);
          };
          found = sym (victim_push rs reading can.none);
          room = omega (arith, can.room, many);
          all = λ none s j above below other. (0, omega arith, omega (arith, above, below));
        }

-- the books and the answer are those of the reading
pub read_after : (V : ℕ) (b b1 : Books) (p q x r : Pen V) (rs : List Swept) (i more bit slot : ℕ) (told : Option ℕ) → CanRead V b p q rs (more + 1) → x ≡ q → IsSamePen V x r → HasActed x.seat.now r.seat.now (Hand i) bit
    → NamesItem (shape_of b.checked) (state_at V q).words slot i → b1 ≡ record b { hand = (i + 1) % (shape_of b.checked).items } → told ≡ cond (eqb bit 0) (Some i) None → HasReadOn V b1 p r rs i (i + 1) more told
read_after V b b1 p q x r rs i more bit slot told can is same acted names books answer =
    let now : CanRead V b p x rs (more + 1) = subst (λ (y : Pen V). CanRead V b p y rs (more + 1)) (sym is) can in
    let there = subst (λ (y : Pen V). NamesItem (shape_of b.checked) (state_at V y).words slot i) (sym is) names in
    subst (λ (c : Books). HasReadOn V c p r rs i (i + 1) more told) (sym books)
    (subst (HasReadOn V (record b { hand = (i + 1) % (shape_of b.checked).items }) p r rs i (i + 1) more) (sym answer) (read_one V b p x rs i more now r bit slot same acted there))

-- ---- some items after others
pub can_go_on : (V : ℕ) (b : Books) (p q : Pen V) (rs : List Swept) (from to more : ℕ) → (on : HasReadOn V b p q rs from to more None) → CanRead V b p q (rs ++ on.readings) more
can_go_on V b p q rs from to more on = record { searched = on.searched; none = sym on.found; room = on.room }

-- each item of the whole is among those of either part
abbrev pub Covers : ℕ → ℕ → ℕ → ℕ → ℕ → ℕ → Type 0
Covers from1 to1 from2 to2 from to = (i : ℕ) → from ≤ i → i < to → ((from1 ≤ i) × (i < to1)) ⊎ ((from2 ≤ i) × (i < to2))

pub read_then : (V : ℕ) (b1 b2 : Books) (p q r : Pen V) (rs : List Swept) (from1 to1 more1 from2 to2 more2 from to more : ℕ) (told : Option ℕ) → b2.checked ≡ b1.checked → more ≤ more2 → (told ≡ None → Covers from1 to1 from2 to2 from to)
    → (one : HasReadOn V b1 p q rs from1 to1 more1 None) → HasReadOn V b2 p r (rs ++ one.readings) from2 to2 more2 told → HasReadOn V b2 p r rs from to more told
read_then V b1 b2 p q r rs from1 to1 more1 from2 to2 more2 from to more told kept few covers one two =
    let whole = append_assoc rs one.readings two.readings in
    record {
      readings = one.readings ++ two.readings;
      searched = subst (HasSearched V b2 p r) whole two.searched;
      found = two.found ∙ ap victim_of whole;
      room = subst (λ (xs : List Swept). length xs + more ≤ 2 * (shape_of b2.checked).items) whole (omega (arith, two.room, few));
      all = λ none slot i above below names.
          let both = sym (map-append (λ (x : Swept). x.item) one.readings two.readings) in
          subst (λ (xs : List ℕ). Contains xs i) both (elim (covers none i above below) [
            | inl in1 ↦ Contains-append_left (items_read one.readings) (items_read two.readings) i (one.all refl slot i in1.0 in1.1 (subst (λ (x : Checked). NamesItem (shape_of x) (state_at V p).words slot i) kept names))
            | inr in2 ↦ Contains-append_right (items_read one.readings) (items_read two.readings) i (two.all none slot i in2.0 in2.1 names)
          ]);
    }

-- a bit was clear, so no more is read
pub read_found : (V : ℕ) (b : Books) (p q : Pen V) (rs : List Swept) (from1 to1 more from to few i : ℕ) → HasReadOn V b p q rs from1 to1 more (Some i) → few ≤ more → HasReadOn V b p q rs from to few (Some i)
read_found V b p q rs from1 to1 more from to few i on fits = record { readings = on.readings; searched = on.searched; found = on.found; room = omega (arith, on.room, fits); all = λ none. absurd (cc) }

pub covers_next : (from i : ℕ) → Covers from i i (i + 1) from (i + 1)
covers_next from i = λ j above below. elim (cases_lt j i) [
  | inl before ↦ inl (above, before)
  | inr past ↦ inr (omega (arith, past), below)
]

pub covers_round : (hand items : ℕ) → Covers hand items 0 hand 0 items
covers_round hand items = λ j above below. elim (cases_lt j hand) [
  | inl before ↦ inr (omega arith, before)
  | inr past ↦ inl (omega (arith, past), below)
]

-- fewer readings may be made, too
pub can_fewer : (V : ℕ) (b : Books) (p q : Pen V) (rs : List Swept) (more few : ℕ) → CanRead V b p q rs more → few ≤ more → CanRead V b p q rs few
can_fewer V b p q rs more few can fits = record { searched = can.searched; none = can.none; room = omega (arith, can.room, fits) }

-- no item yet
pub read_nothing : (V : ℕ) (b : Books) (p q : Pen V) (rs : List Swept) (from more : ℕ) → CanRead V b p q rs more → HasReadOn V b p q rs from from more None
read_nothing V b p q rs from more can =
    let same = sym (append-nil rs) in
    record {
      readings = [];
      searched = subst (HasSearched V b p q) same can.searched;
      found = sym (subst (λ (xs : List Swept). victim_of xs ≡ None) same can.none);
      room = subst (λ (xs : List Swept). length xs + more ≤ 2 * (shape_of b.checked).items) same can.room;
      all = λ none slot i above below names. absurd (omega (arith, above, below));
    }

-- ---- two rounds
pub can_begin : (V : ℕ) (b : Books) (p : Pen V) → p.cells.now.layout ≡ layout_of V b.checked → AreBooksOf V b (state_at V p) → CanRead V b p p [] ((shape_of b.checked).items + (shape_of b.checked).items)
can_begin V b p layout known = record {
  searched = record {
    layout = layout;
    began = known.quiet;
    read = not_turned V p p refl;
    searches = record { searches = record { inside = λ n d l. absurd (omega (arith, l)); most = omega arith; marked = λ n d l. absurd (omega (arith, l)) }; in_use = λ n d l. absurd (omega (arith, l)) };
    known = known;
  };
  none = refl;
  room = omega arith;
}

-- the first has found an item
pub ended_first : (V : ℕ) (b : Books) (p q : Pen V) (to more i : ℕ) → HasReadOn V b p q [] 0 to more (Some i) → HasEndedSearch V b p q (Some i)
ended_first V b p q to more i on = record { readings = on.readings; searched = on.searched; found = on.found; whole = λ none. absurd (cc) }

-- the second has found one, or there is none
pub ended_second : (V : ℕ) (b1 b2 : Books) (p q r : Pen V) (items1 items2 more1 more2 : ℕ) (told : Option ℕ) → b2.checked ≡ b1.checked → items1 ≡ (shape_of b2.checked).items → items2 ≡ (shape_of b2.checked).items → policy_of b2.checked ≡ Clock
    → (one : HasReadOn V b1 p q [] 0 items1 more1 None) → HasReadOn V b2 p r one.readings 0 items2 more2 told → HasEndedSearch V b2 p r told
ended_second V b1 b2 p q r items1 items2 more1 more2 told kept is1 is2 clock one two = record {
  readings = one.readings ++ two.readings;
  searched = two.searched;
  found = two.found;
  whole = λ none. subst (λ (x : Policy). IsWholeSearch x (key_count (state_at V p).history) (shape_of b2.checked) (state_at V p).words (one.readings ++ two.readings)) (sym clock) (record {
    first = one.readings;
    second = two.readings;
    rounds = refl;
    first_round = λ slot i names. one.all refl slot i (omega arith) (omega (arith, is1, names.in_items)) (subst (λ (x : Checked). NamesItem (shape_of x) (state_at V p).words slot i) kept names);
    second_round = λ slot i names. two.all none slot i (omega arith) (omega (arith, is2, names.in_items)) names;
  });
}
