-- Each step keeps the rule of the table.
use Rattle.std.proofs.Common.{◌≡◌, Bool, ℕ, zero, suc, ◌+◌, ◌-◌, ◌^◌, ◌<◌, ◌≢◌, eqb, eq-eqb, ne_eqb, List, [], ◌∷◌, ◌++◌, length, get_or, set, refl, ap, sym, ◌∙◌, subst, ⊎_elim, arith, ◌≤◌, length-set, length-append, get_or-set_other, get_or-set_same, Some}
use Rattle.std.specs.Prelude.{replicate, if◌then◌else◌}
use Rattle.std.proofs.lemmas.List.{length-replicate}
use mathlib.Core.Logic.{dite}
use mathlib.Core.Option.{none, some, some-injective, some-ne-none}
use native.Mathlib.Decide.{ℕ_discrete}
use lib.ListN.{get_elem?}
use lib.Seq.{set-get_or}
use Rattle.atomic_table.specs.Table as table
use Rattle.atomic_table.specs.Table.{Step, step, keeps, stepped, opening, Allows, Splits, Joins}
use Rattle.atomic_table.proofs.Lists.{at_set, at_longer, set_here, set_else}
use Rattle.mc_words.specs.Places.{word_count, all_words, recency_place}
use Rattle.mc_words.specs.Recency.{recency_bit}
use Rattle.std.specs.Int.{bit_at}
use Rattle.std.specs.Int.RustNames.{bit_or}
use lib.Bits.{bit_and}
use Rattle.std.proofs.lemmas.Nat.Bits.{bit_at-zero}
use Rattle.mc_words.specs.declared.shape.Shape.{Shape}
use Rattle.mc_theory.specs.Lists.{Made}
use Rattle.mc_theory.specs.Readings.{Reading, IsWordOf}
use Rattle.mc_theory.specs.States as states
use Rattle.mc_theory.specs.States.{State}
use Rattle.mc_theory.specs.Writes.{place_read}
use Rattle.mc_theory.specs.declared.access.Access.{Access}
use Rattle.mc_theory.specs.declared.access.Access.TheVariants as access
use Rattle.mc_theory.specs.declared.act.Act.{Act}
use Rattle.mc_theory.specs.declared.act.Act.TheVariants.{Hand, Mark}
use Rattle.mc_theory.proofs.Lists.Bounds.{state_length}
use Rattle.mc_theory.proofs.Lists.Fronts.{lawful_none, lawful_push, state_none}
use Rattle.mc_theory.proofs.Invariant.EachState.{zeros}
use Rattle.mc_theory.proofs.Lists.WrittenWords.{reads_its_word}
use Rattle.mc_shared.specs.declared.layout.Layout.{Layout}
use Rattle.mc_shared.specs.RecencyTrace.{Trace, new_trace, trace_after, trace_of, marks_in, is_mark_of, Coherent}
use Rattle.mc_shared.specs.Views.{Note, Tally, new_tally, with_reader, with_note, seated_in, Role, Spent, Writes, Reads, Both, View, IsWriters, view_as, writer_view, reader_view, new_writer_view, acts_of, tally_of, number_of, front_of, done_of, layout_state, with_bit, IsFrontOf}
use Rattle.mc_shared.specs.ExactFronts.{IsExact}
use Rattle.mc_shared.specs.TableRule.{word_after, IsRecord, FitsRole, Fits, AllFit, HasWriter, seats_of, marks_of, bit_in, Ruled}
use Rattle.mc_shared.specs.Steps.{SeatView, IsStored, bit_of, item_of, item_bit, AddsAct, StoresAct, ClearsBit, AddsActIfSet, AddsActIfClear, FetchesWord, reading, ReadsWord, mark_at, AddsMark, AddsMarkIfSet, ComparesMoment}
use Rattle.mc_shared.specs.Inside.Steps.{WritesAt, only, all_but}
use Rattle.mc_shared.specs.Inside.Seats.{MayMake}
use Rattle.mc_shared.proofs.WrittenPlaces.{act_names_in, place_below, word_written}
use Rattle.mc_shared.proofs.PackedBits.{bit_low, recency_below, or_here, or_spares, and_spares, or_same, and_same, bit_there, bit_spared}
use Rattle.mc_shared.proofs.Coherence.{trace-push, coherent_marked, marks_in-push, total_set}
use Rattle.mc_shared.proofs.ReaderRecords.{front_self, front_push, front_length, record_longer, record_read, record_mark}
use Rattle.mc_shared.proofs.ExactSteps.{stands_here, exact_act, exact_entry, note_at, Counted, counted}
use Rattle.mc_shared.proofs.RecencySteps.{StepBits, StepPast, spared_past, hand_bits, touch_bits, sum_here}

-- all views fit if the one that is replaced does and the others did
pub fits_set : (l : Layout) (log : List Made) (sums : Tally) (at id : ℕ) (views : List View) (w : View) → ((j : ℕ) (u : View) → j ≢ id → get_elem? views j ≡ some u → Fits l log sums at j u) → Fits l log sums at id w → AllFit l log sums at (set views id w)
fits_set l log sums at id views w others mine j u e =
    ⊎_elim
    (λ (x : (j ≡ id) × (w ≡ u)). subst (λ (y : ℕ × View). Fits l log sums at y.0 y.1) (λ i. (sym x.0 i, x.1 i)) mine)
    (λ (x : (j ≢ id) × (get_elem? views j ≡ some u)). others j u x.0 x.1)
    (at_set views id j w u e)

-- a seat other than the writer's still fits when the writer makes an act, beside which this reader's entries are noted
grows : (l own : Layout) (log : List Made) (sums : Tally) (m : Made) (n : Note) (at j : ℕ) → j ≢ at → (r : Role) → Counted n r → FitsRole l own log sums at j r → FitsRole l own (log ++ m ∷ []) (with_note sums n) at j r
grows l own log sums m n at j ne Spent c f = tt
grows l own log sums m n at j ne (Writes acts tally) c f = absurd (ne f.1)
grows l own log sums m n at j ne (Reads a front done) c f = (f.0, front_push front log m f.1, f.2, exact_act a sums.notes n done c f.3)
grows l own log sums m n at j ne (Both acts tally a front done) c f = absurd (ne f.1)

-- and when the writer's tally has one reader more
pub joins_in : (l own : Layout) (log : List Made) (sums : Tally) (at j : ℕ) → j ≢ at → (r : Role) → FitsRole l own log sums at j r → FitsRole l own log (with_reader sums) at j r
joins_in l own log sums at j ne Spent f = tt
joins_in l own log sums at j ne (Writes acts tally) f = absurd (ne f.1)
joins_in l own log sums at j ne (Reads a front done) f = f
joins_in l own log sums at j ne (Both acts tally a front done) f = absurd (ne f.1)

-- a view with as many marks instead of another
pub same_marks : (i id : ℕ) (views : List View) (v w : View) → get_elem? views id ≡ some v → marks_in i (done_of w) ≡ marks_in i (done_of v) → marks_of i (set views id w) ≡ marks_of i views
same_marks i id views v w at e = let t = total_set (λ (u : View). marks_in i (done_of u)) views id v w at in omega arith

-- and with the same reader
pub same_seats : (a id : ℕ) (views : List View) (v w : View) → get_elem? views id ≡ some v → seated_in a w.role ≡ seated_in a v.role → seats_of a (set views id w) ≡ seats_of a views
same_seats a id views v w at e = let t = total_set (λ (u : View). seated_in a u.role) views id v w at in omega arith

-- ---- the writer's seat stays among the seats
pub got_below : {A : Type 0} (xs : List A) (i : ℕ) (x : A) → get_elem? xs i ≡ some x → i < length xs
got_below [] i x e = absurd (some-ne-none x (sym e))
got_below (y ∷ ys) zero x e = omega arith
got_below (y ∷ ys) (suc i) x e = let h = got_below ys i x e in omega arith

-- the writer stays on its seat when a view is replaced by one that still writes
pub writer_set : (at id : ℕ) (views : List View) (v w : View) → get_elem? views id ≡ some v → (IsWriters v.role → IsWriters w.role) → HasWriter at views → HasWriter at (set views id w)
writer_set at id views v w here still h = dite (ℕ_discrete at id)
    (λ same. (
      w,
      ap (λ (k : ℕ). get_elem? (set views id w) k) same ∙ set_here views id w (got_below views id v here),
      still (subst (λ (x : View). IsWriters x.role) (some-injective _ _ (sym h.1 ∙ (ap (λ (k : ℕ). get_elem? views k) same ∙ here))) h.2),
    ))
    (λ ne. (h.0, set_else views id at w ne ∙ h.1, h.2))

-- and when a seat is added
pub writer_push : (at : ℕ) (views : List View) (w : View) → HasWriter at views → HasWriter at (views ++ w ∷ [])
writer_push at views w h = (h.0, at_longer views (w ∷ []) at h.0 h.1, h.2)

-- ---- a new table
opening_zero : (V : ℕ) (sh : Shape) (n : ℕ) → get_or (states.opening V sh).words n 0 ≡ 0
unfolding states.opening
opening_zero V sh n = zeros (word_count V sh) n

-- words that are all 0, with the writer's seat alone, obey the rule
pub begins : (l : Layout) (ws : List ℕ) → ws ≡ replicate (all_words l.width l.shape) 0 → Ruled l (opening ws [] (new_writer_view l))
begins l ws is = record {
  log = [];
  tally = new_tally;
  paired = refl;
  at = 0;
  writer = (new_writer_view l, refl, tt);
  lawful = lawful_none l.width l.shape;
  wide = ap length is ∙ length-replicate (all_words l.width l.shape) 0;
  words = λ n below. zero_in n ∙ sym (ap (λ (s : State l.width). get_or s.words n 0) (state_none l.width l.shape) ∙ opening_zero l.width l.shape n);
  views = one;
  single = λ a below. absurd (omega arith);
  unseated = λ a over. refl;
  bits = λ i below. subst (λ (z : ℕ). Coherent (trace_of i [] []) 0 z) (sym (clear i)) (record { is = omega arith; seen = omega arith; right = refl });
  past = λ i past. clear i;
}
  where
    zero_in : (n : ℕ) → get_or ws n 0 ≡ 0
    zero_in n = ap (λ (x : List ℕ). get_or x n 0) is ∙ zeros (all_words l.width l.shape) n

    clear : (i : ℕ) → bit_in l ws i ≡ 0
    clear i = ap (λ (z : ℕ). bit_at z (recency_bit i)) (zero_in (recency_place l.width l.shape i)) ∙ bit_at-zero (recency_bit i)

    one : AllFit l [] new_tally 0 (new_writer_view l ∷ [])
    one zero v e = subst (Fits l [] new_tally 0 0) (some-injective _ _ e) (refl, refl, refl, refl)
    one (suc j) v e = absurd (some-ne-none v (sym e))

module _ (l : Layout) (id slots : ℕ) (c : List (ℕ × Unit {0})) where
  -- a step that changes no word
  unmoved : (s : table.State (Unit {0}) View) (r : Ruled l s) (n : ℕ) (v w : View) → get_elem? s.views id ≡ some v → ((i : ℕ) → marks_in i (done_of w) ≡ marks_in i (done_of v)) → ((a : ℕ) → seated_in a w.role ≡ seated_in a v.role) → (IsWriters v.role → IsWriters w.role) → Fits l r.log r.tally r.at id w → Ruled l (stepped s n (get_or s.words n 0) id c w keeps)
  unmoved s r n v w at alike sits writes mine = subst (λ (ws : List ℕ). Ruled l record { words = ws; homes = s.homes; views = set s.views id w }) (sym (set-get_or s.words n 0)) record {
    log = r.log;
    tally = r.tally;
    paired = r.paired;
    at = r.at;
    writer = writer_set r.at id s.views v w at writes r.writer;
    lawful = r.lawful;
    wide = r.wide;
    words = r.words;
    views = fits_set l r.log r.tally r.at id s.views w (λ j u _ e. r.views j u e) mine;
    single = λ a below. same_seats a id s.views v w at (sits a) ∙ r.single a below;
    unseated = λ a over. same_seats a id s.views v w at (sits a) ∙ r.unseated a over;
    bits = λ i below. subst (λ (m : ℕ). Coherent (trace_of i r.log r.tally.notes) m (bit_in l s.words i)) (sym (same_marks i id s.views v w at (alike i))) (r.bits i below);
    past = r.past;
  }

  -- the writer's act, when the word at its place becomes what the act writes
  pub makes : (acts : List Made) (tally : Tally) (a : Act) (n x : ℕ) (f g : ℕ → ℕ) (st : Step (Unit {0})) → MayMake l acts a → WritesAt l acts a n x → (n < word_count l.width l.shape → f (word_after l acts n) ≡ x) → StepBits l a n f g → StepPast l n f
      → Allows (Ruled l) slots id (writer_view l acts tally, c) n f (λ r. AddsAct a st (writer_view l acts tally, c) (g r))
  makes acts tally a n x f g st may w writes bit past s r long at fits =
      let mine = r.views id (writer_view l acts tally) at in
      let same : acts ≡ r.log = mine.2 in
      let even : tally ≡ r.tally = mine.3 in
      let note : Note = note_at a tally.readers s.views in
      let single : (b : ℕ) → b < tally.readers → seats_of b s.views ≡ 1 = subst (λ (z : Tally). (b : ℕ) → b < z.readers → seats_of b s.views ≡ 1) (sym even) r.single in
      let unseated : (b : ℕ) → tally.readers ≤ b → seats_of b s.views ≡ 0 = subst (λ (z : Tally). (b : ℕ) → z.readers ≤ b → seats_of b s.views ≡ 0) (sym even) r.unseated in
      let paired : length tally.notes ≡ length acts = subst (λ (z : Tally × List Made). length z.0.notes ≡ length z.1) (λ i. (sym even i, sym same i)) r.paired in
      let m : Made = with_bit a (bit_of a (g (get_or s.words n 0))) in
      let ws : (k : ℕ) → k < word_count l.width l.shape → get_or s.words k 0 ≡ word_after l acts k = subst (λ (z : List Made). (k : ℕ) → k < word_count l.width l.shape → get_or s.words k 0 ≡ word_after l z k) (sym same) r.words in
      let wide : length s.words ≡ all_words l.width l.shape = r.wide in
      let size : length (layout_state l acts).words ≡ word_count l.width l.shape = state_length l.width l.shape acts in
      let v : ℕ = f (get_or s.words n 0) in
      let words' : (k : ℕ) → k < word_count l.width l.shape → get_or (set s.words n v) k 0 ≡ word_after l (acts ++ m ∷ []) k = λ k below. dite (ℕ_discrete k n)
      (λ e. let low : n < word_count l.width l.shape = omega (arith, e) in
      ap (λ (z : ℕ). get_or (set s.words n v) z 0) e ∙ (get_or-set_same s.words n v 0 (omega arith) ∙ (ap f (ws n low) ∙ (writes low ∙ sym (
      word_written l acts m n x k may w below ∙ (ap (λ (z : ℕ). get_or (set (layout_state l acts).words n x) z 0) e ∙ get_or-set_same (layout_state l acts).words n x 0 (omega arith)))))))
      (λ other. get_or-set_other s.words n k v 0 other ∙ (ws k below ∙ sym (word_written l acts m n x k may w below ∙ get_or-set_other (layout_state l acts).words n k x 0 other)))
      in
      let inside : n < all_words l.width l.shape = place_below l acts a n x may w in
      let new : View = writer_view l (acts ++ m ∷ []) (with_note tally note) in (
        writer_view l (acts ++ m ∷ []) (with_note tally note),
        keeps,
        tt,
        record {
          log = acts ++ m ∷ [];
          tally = with_note tally note;
          paired = omega (arith, length-append tally.notes (note ∷ []), length-append acts (m ∷ []), paired);
          at = r.at;
          writer = writer_set r.at id s.views (writer_view l acts tally) new at (λ z. z) r.writer;
          lawful = lawful_push l.width l.shape acts m may.lawful may.allowed;
          wide = length-set s.words n v ∙ wide;
          words = words';
          views = fits_set l (acts ++ m ∷ []) (with_note tally note) r.at id s.views new
              (λ j u ne e. grows l u.layout acts tally m note r.at j (λ (z : j ≡ r.at). ne (z ∙ sym mine.1)) u.role (counted a tally.readers s.views single unseated j u e) (subst (λ (z : List Made × Tally). Fits l z.0 z.1 r.at j u) (λ i. (sym same i, sym even i)) (r.views j u e)))
              (refl, mine.1, refl, refl);
          single = λ b below. same_seats b id s.views (writer_view l acts tally) new at refl ∙ single b below;
          unseated = λ b over. same_seats b id s.views (writer_view l acts tally) new at refl ∙ unseated b over;
          bits = λ k below.
              let t : Trace = trace_of k acts tally.notes in
              let old : Coherent t (marks_of k s.views) (bit_in l s.words k) = subst (λ (z : List Made × Tally). Coherent (trace_of k z.0 z.1.notes) (marks_of k s.views) (bit_in l s.words k)) (λ i. (sym same i, sym even i)) (r.bits k below) in
              let now' : Coherent (trace_after k t a m.bit (marks_of k s.views)) (marks_of k s.views) (bit_in l (set s.words n v) k) = bit t s.words (omega arith) k (marks_of k s.views) old in
              subst (λ (y : Trace × ℕ). Coherent y.0 y.1 (bit_in l (set s.words n v) k)) (λ i. (sym (trace-push k new_trace acts tally.notes m note paired ∙ sum_here k t a m.bit s.views) i, sym (same_marks k id s.views (writer_view l acts tally) new at refl) i)) now';
          past = λ k over. past s.words (omega arith) k over ∙ r.past k over;
        },
        (note, refl),
      )

  -- a load of the word that holds the bit of the writer's mark. If it finds the bit set, it is the very step that sets it
  pub remarks : (acts : List Made) (tally : Tally) (i : ℕ) (st : Step (Unit {0})) → MayMake l acts (Mark i)
      → Allows (Ruled l) slots id (writer_view l acts tally, c) (recency_place l.width l.shape i) (λ w. w) (AddsActIfSet (Mark i) st (writer_view l acts tally, c))
  remarks acts tally i st may s r long at fits =
      let v : View = writer_view l acts tally in
      let n : ℕ = recency_place l.width l.shape i in
      let w : ℕ = get_or s.words n 0 in
      dite (ℕ_discrete (bit_at w (recency_bit i)) 1)
      (λ (e : bit_at w (recency_bit i) ≡ 1).
      let m = makes acts tally (Mark i) n (only i) (λ z. bit_or z (only i)) (λ z. z) st may (refl, refl) (λ low. absurd (omega arith)) (touch_bits l i) (spared_past l i (λ z. bit_or z (only i)) (act_names_in l acts (Mark i) may) (or_spares (recency_bit i) (bit_low i))) s r long at fits in
      (m.0, m.1, m.2, subst (λ (x : ℕ). Ruled l (stepped s n x id c m.0 m.1)) (or_same (recency_bit i) w e) m.3, ((λ _. (tt, m.4)), (λ z. absurd (omega (arith, e, z))))))
      (λ ne. (v, keeps, tt, unmoved s r n v v at (λ k. refl) (λ a. refl) (λ z. z) (r.views id v at), ((λ z. absurd (ne z)), (λ _. refl))))

  -- a load of the word that holds the bit at the hand. If it finds the bit clear, it is the very step that clears it
  pub passes : (acts : List Made) (tally : Tally) (i : ℕ) (st : Step (Unit {0})) → MayMake l acts (Hand i) → st.word ≡ recency_place l.width l.shape i
      → Allows (Ruled l) slots id (writer_view l acts tally, c) (recency_place l.width l.shape i) (λ w. w) (AddsActIfClear (Hand i) st (writer_view l acts tally, c))
  passes acts tally i st may here s r long at fits =
      let v : View = writer_view l acts tally in
      let n : ℕ = recency_place l.width l.shape i in
      let w : ℕ = get_or s.words n 0 in
      dite (ℕ_discrete (bit_at w (recency_bit i)) 0)
      (λ (e : bit_at w (recency_bit i) ≡ 0).
      let m = makes acts tally (Hand i) n (all_but i) (λ z. bit_and z (all_but i)) (λ z. z) st may (refl, refl) (λ low. absurd (omega arith)) (hand_bits l i) (spared_past l i (λ z. bit_and z (all_but i)) (act_names_in l acts (Hand i) may) (and_spares (recency_bit i) (bit_low i))) s r long at fits in
      (m.0, m.1, m.2, subst (λ (x : ℕ). Ruled l (stepped s n x id c m.0 m.1)) (and_same (recency_bit i) w (bit_low i) fits e) m.3, (here, (λ _. m.4), (λ z. absurd (omega (arith, e, z))))))
      (λ ne. (v, keeps, tt, unmoved s r n v v at (λ k. refl) (λ a. refl) (λ z. z) (r.views id v at), (here, (λ z. absurd (ne z)), (λ _. refl))))

  pub looks : (acts : List Made) (tally : Tally) (n : ℕ) (st : Step (Unit {0})) → st.word ≡ n → n < word_count l.width l.shape → Allows (Ruled l) slots id (writer_view l acts tally, c) n (λ r. r) (FetchesWord st (writer_view l acts tally, c))
  looks acts tally n st is below s r long at fits =
      let mine = r.views id (writer_view l acts tally) at in
      (writer_view l acts tally, keeps, tt, unmoved s r n (writer_view l acts tally) (writer_view l acts tally) at (λ i. refl) (λ a. refl) (λ z. z) mine, (refl, r.words n below ∙ λ i. word_after l (sym (mine.2) i) (sym is i)))

  pub reads_one : (number : ℕ) (front : List Made) (done : List Reading) (a : Access) (n : ℕ) (st : Step (Unit {0})) → place_read l.width l.shape a ≡ Some n → st.word ≡ n → n < word_count l.width l.shape
      → Allows (Ruled l) slots id (reader_view l number front done, c) n (λ r. r) (ReadsWord a st (reader_view l number front done, c))
  reads_one number front done a n st where_is is below s r long at fits =
      let mine = r.views id (reader_view l number front done) at in
      let p : IsFrontOf front r.log = mine.1 in
      let x : ℕ = get_or s.words n 0 in
      let done' : List Reading = done ++ reading a x r.log ∷ [] in
      let word : IsWordOf l.width l.shape (layout_state l r.log).words a x = subst (IsWordOf l.width l.shape (layout_state l r.log).words a) (sym (r.words n below)) (reads_its_word l.width l.shape (layout_state l r.log).words a n where_is).0 in
      let kept : IsRecord l r.log done' = record_read l r.log done a x (record_longer l front r.log done p mine.2) word in (
        reader_view l number r.log done',
        keeps,
        tt,
        unmoved s r n (reader_view l number front done) (reader_view l number r.log done') at (λ i. marks_in-push i (reading a x r.log) done ∙ no_mark l i a n (marks_in i done) where_is) (λ b. refl) (λ z. z) (refl, front_self r.log, kept, exact_entry number r.tally.notes done (reading a x r.log) (stands_here a (length r.log) (length r.tally.notes) (sym r.paired)) mine.3),
        (where_is ∙ ap Some (sym is), refl, record { begins = p; adds = refl; lawful = r.lawful; recorded = kept }),
      )
    where
      no_mark : (l : Layout) (i : ℕ) (a : Access) (n many : ℕ) → place_read l.width l.shape a ≡ Some n → many + is_mark_of i a ≡ many
      no_mark l i (access.Version t) n many e = omega arith
      no_mark l i (access.Slot p) n many e = omega arith
      no_mark l i (access.Key k) n many e = omega arith
      no_mark l i (access.Value k j) n many e = omega arith
      no_mark l i (access.Stamp k) n many e = omega arith
      no_mark l i access.Moment n many e = omega arith
      no_mark l i (access.Mark k) n many e = absurd (cc)

  -- a step that sets the bit of an item
  pub marks_one : (number : ℕ) (front : List Made) (done : List Reading) (i : ℕ) (g : ℕ → ℕ) (st : Step (Unit {0})) → i < l.shape.items
      → Allows (Ruled l) slots id (reader_view l number front done, c) (recency_place l.width l.shape i) (λ w. bit_or w (only i)) (λ r. AddsMark i st (reader_view l number front done, c) (g r))
  marks_one number front done i g st within s r long at fits =
      let mine = r.views id (reader_view l number front done) at in
      let done' : List Reading = done ++ mark_at i front ∷ [] in
      let wide : length s.words ≡ all_words l.width l.shape = r.wide in
      let n : ℕ = recency_place l.width l.shape i in
      let f : ℕ → ℕ = λ w. bit_or w (only i) in
      let x : ℕ = f (get_or s.words n 0) in
      let inside : n < all_words l.width l.shape = recency_below l.width l.shape i within in (
        reader_view l number front done',
        keeps,
        tt,
        record {
          log = r.log;
          tally = r.tally;
          paired = r.paired;
          at = r.at;
          writer = writer_set r.at id s.views (reader_view l number front done) (reader_view l number front done') at (λ z. z) r.writer;
          lawful = r.lawful;
          wide = length-set s.words n x ∙ wide;
          words = λ k below. get_or-set_other s.words n k x 0 (λ e. omega arith) ∙ r.words k below;
          views = fits_set l r.log r.tally r.at id s.views (reader_view l number front done') (λ j u _ e. r.views j u e)
              (refl, mine.1, record_mark l front done i mine.2, exact_entry number r.tally.notes done (mark_at i front) (omega (arith, front_length front r.log mine.1, r.paired)) mine.3);
          single = λ b below. same_seats b id s.views (reader_view l number front done) (reader_view l number front done') at refl ∙ r.single b below;
          unseated = λ b over. same_seats b id s.views (reader_view l number front done) (reader_view l number front done') at refl ∙ r.unseated b over;
          bits = λ k below.
              let all = total_set (λ (u : View). marks_in k (done_of u)) s.views id (reader_view l number front done) (reader_view l number front done') at in
              let more = marks_in-push k (mark_at i front) done in
              dite (ℕ_discrete i k)
              (λ e. let hit : ◌≡◌ {A = ℕ} (if eqb i k then 1 else 0) 1 = ap (λ (b : Bool). if◌then◌else◌ {A = ℕ} b 1 0) (eq-eqb i k e) in
              let count : marks_of k (set s.views id (reader_view l number front done')) ≡ marks_of k s.views + 1 = omega arith in
              let there : bit_in l (set s.words n x) k ≡ 1 = ap (bit_in l (set s.words n x)) (sym e) ∙ (bit_there l s.words i x (omega arith) ∙ or_here (recency_bit i) (get_or s.words n 0) (bit_low i)) in
              subst (λ (y : ℕ × ℕ). Coherent (trace_of k r.log r.tally.notes) y.0 y.1) (λ j. (sym count j, sym there j)) (coherent_marked (trace_of k r.log r.tally.notes) (marks_of k s.views) (bit_in l s.words k) (r.bits k below)))
              (λ ne. let miss : ◌≡◌ {A = ℕ} (if eqb i k then 1 else 0) 0 = ap (λ (b : Bool). if◌then◌else◌ {A = ℕ} b 1 0) (ne_eqb i k ne) in
              let count : marks_of k (set s.views id (reader_view l number front done')) ≡ marks_of k s.views = omega arith in
              let there : bit_in l (set s.words n x) k ≡ bit_in l s.words k = bit_spared l s.words i k f (or_spares (recency_bit i) (bit_low i)) ne (omega arith) in
              subst (λ (y : ℕ × ℕ). Coherent (trace_of k r.log r.tally.notes) y.0 y.1) (λ j. (sym count j, sym there j)) (r.bits k below));
          past = λ k over. spared_past l i f within (or_spares (recency_bit i) (bit_low i)) s.words (omega arith) k over ∙ r.past k over;
        },
        refl,
      )

  -- a load of the word. If it finds the bit set, it is the very step that sets it: the word and the views after it are the same
  pub notices_one : (number : ℕ) (front : List Made) (done : List Reading) (i : ℕ) (st : Step (Unit {0})) → i < l.shape.items → Allows (Ruled l) slots id (reader_view l number front done, c) (recency_place l.width l.shape i) (λ w. w) (AddsMarkIfSet i st (reader_view l number front done, c))
  notices_one number front done i st within s r long at fits =
      let v : View = reader_view l number front done in
      let n : ℕ = recency_place l.width l.shape i in
      let w : ℕ = get_or s.words n 0 in
      dite (ℕ_discrete (bit_at w (recency_bit i)) 1)
      (λ (e : bit_at w (recency_bit i) ≡ 1).
      let m = marks_one number front done i (λ z. z) st within s r long at fits in
      (m.0, m.1, m.2, subst (λ (x : ℕ). Ruled l (stepped s n x id c m.0 m.1)) (or_same (recency_bit i) w e) m.3, ((λ _. m.4), (λ z. absurd (omega (arith, e, z))))))
      (λ ne. (v, keeps, tt, unmoved s r n v v at (λ k. refl) (λ a. refl) (λ z. z) (r.views id v at), ((λ z. absurd (ne z)), (λ _. refl))))

  pub compares_one : (acts : List Made) (tally : Tally) (number : ℕ) (front : List Made) (done : List Reading) (n : ℕ) (st : Step (Unit {0})) → st.word ≡ n → n < word_count l.width l.shape
      → Allows (Ruled l) slots id (view_as l (Both acts tally number front done), c) n (λ r. r) (ComparesMoment st (view_as l (Both acts tally number front done), c))
  compares_one acts tally number front done n st is below s r long at fits =
      let v : View = view_as l (Both acts tally number front done) in
      let mine = r.views id v at in
      let same : acts ≡ r.log = mine.2 in
      let even : tally ≡ r.tally = mine.3 in
      let p : IsFrontOf front acts = subst (IsFrontOf front) (sym same) mine.4 in
      let paired : length tally.notes ≡ length acts = subst (λ (z : Tally × List Made). length z.0.notes ≡ length z.1) (λ i. (sym even i, sym same i)) r.paired in
      let exact : IsExact number tally.notes done = subst (λ (z : Tally). IsExact number z.notes done) (sym even) mine.6 in
      (v, keeps, tt, unmoved s r n v v at (λ i. refl) (λ a. refl) (λ z. z) mine, (refl, p, record_longer l front acts done p mine.5, record { paired = paired; exact = exact }, r.words n below ∙ λ i. word_after l (sym same i) (sym is i)))

-- ---- the same, at a key and a view of which this is known
module _ (key l : Layout) (key-is : key ≡ l) (id slots : ℕ) (me : SeatView) where
  pub makes_as : me ≡ (writer_view l (acts_of me.0) (tally_of me.0), []) → (a : Act) (n x : ℕ) (f g : ℕ → ℕ) (st : Step (Unit {0})) → MayMake l (acts_of me.0) a → WritesAt l (acts_of me.0) a n x
      → (n < word_count l.width l.shape → f (word_after l (acts_of me.0) n) ≡ x) → StepBits l a n f g → StepPast l n f → Allows (Ruled key) slots id me n f (λ r. AddsAct a st me (g r))
  makes_as is a n x f g st may w writes bit past = subst (λ (k : Layout). Allows (Ruled k) slots id me n f (λ r. AddsAct a st me (g r))) (sym key-is)
      (subst (λ (z : SeatView). Allows (Ruled l) slots id z n f (λ r. AddsAct a st z (g r))) (sym is) (makes l id slots [] (acts_of me.0) (tally_of me.0) a n x f g st may w writes bit past))

  pub stores_as : me ≡ (writer_view l (acts_of me.0) (tally_of me.0), []) → (a : Act) (n x : ℕ) (f g : ℕ → ℕ) (st : Step (Unit {0})) → IsStored a → MayMake l (acts_of me.0) a → WritesAt l (acts_of me.0) a n x
      → (n < word_count l.width l.shape → f (word_after l (acts_of me.0) n) ≡ x) → StepBits l a n f g → StepPast l n f → Allows (Ruled key) slots id me n f (λ r. StoresAct a st me (g r))
  stores_as is a n x f g st stored may w writes bit past s r long at fits =
      let y = makes_as is a n x f g st may w writes bit past s r long at fits in
      (y.0, y.1, y.2, y.3, (stored, y.4))

  -- the hand, and the writer's mark
  pub hands_as : me ≡ (writer_view l (acts_of me.0) (tally_of me.0), []) → (a : Act) (i n m : ℕ) → a ≡ Hand i → MayMake l (acts_of me.0) (Hand i) → m ≡ all_but i → n ≡ recency_place l.width l.shape i → Allows (Ruled key) slots id me n (λ w. bit_and w m) (ClearsBit a (step slots n m 0 none) me)
  hands_as is a i n m act may mask here s r long at fits =
      let whole : Allows (Ruled key) slots id me n (λ w. bit_and w m) (AddsAct a (step slots n m 0 none) me) =
      subst (λ (y : Act × ℕ × ℕ). Allows (Ruled key) slots id me y.1 (λ w. bit_and w y.2) (AddsAct y.0 (step slots y.1 y.2 0 none) me)) (λ j. (sym act j, sym here j, sym mask j))
      (makes_as is (Hand i) (recency_place l.width l.shape i) (all_but i) (λ w. bit_and w (all_but i)) (λ w. w) (step slots (recency_place l.width l.shape i) (all_but i) 0 none) may (refl, refl)
      (λ low. absurd (omega arith)) (hand_bits l i) (spared_past l i (λ w. bit_and w (all_but i)) (act_names_in l (acts_of me.0) (Hand i) may) (and_spares (recency_bit i) (bit_low i))))
      in
      let x = whole s r long at fits in
      let layout : l ≡ me.0.layout = ap (λ (m : SeatView). m.0.layout) (sym is) in
      (x.0, x.1, x.2, x.3, (here ∙ (λ j. recency_place (layout j).width (layout j).shape (item_of (sym act j))), mask ∙ ap (λ (b : Act). 2 ^ 64 - 1 - 2 ^ item_bit b) (sym act), x.4))

  pub touches_as : me ≡ (writer_view l (acts_of me.0) (tally_of me.0), []) → (a : Act) (i n m : ℕ) → a ≡ Mark i → MayMake l (acts_of me.0) (Mark i) → m ≡ only i → n ≡ recency_place l.width l.shape i → Allows (Ruled key) slots id me n (λ w. bit_or w m) (StoresAct a (step slots n m 0 none) me)
  touches_as is a i n m act may mask here =
      subst (λ (y : Act × ℕ × ℕ). Allows (Ruled key) slots id me y.1 (λ w. bit_or w y.2) (StoresAct y.0 (step slots y.1 y.2 0 none) me)) (λ j. (sym act j, sym here j, sym mask j))
      (stores_as is (Mark i) (recency_place l.width l.shape i) (only i) (λ w. bit_or w (only i)) (λ w. w) (step slots (recency_place l.width l.shape i) (only i) 0 none) tt may (refl, refl)
      (λ low. absurd (omega arith)) (touch_bits l i) (spared_past l i (λ w. bit_or w (only i)) (act_names_in l (acts_of me.0) (Mark i) may) (or_spares (recency_bit i) (bit_low i))))

  pub remarks_as : me ≡ (writer_view l (acts_of me.0) (tally_of me.0), []) → (a : Act) (i n : ℕ) (st : Step (Unit {0})) → a ≡ Mark i → MayMake l (acts_of me.0) (Mark i) → n ≡ recency_place l.width l.shape i → Allows (Ruled key) slots id me n (λ w. w) (AddsActIfSet a st me)
  remarks_as is a i n st act may here = subst (λ (y : Act × ℕ). Allows (Ruled key) slots id me y.1 (λ w. w) (AddsActIfSet y.0 st me)) (λ j. (sym act j, sym here j))
      (subst (λ (k : Layout). Allows (Ruled k) slots id me (recency_place l.width l.shape i) (λ w. w) (AddsActIfSet (Mark i) st me)) (sym key-is)
      (subst (λ (z : SeatView). Allows (Ruled l) slots id z (recency_place l.width l.shape i) (λ w. w) (AddsActIfSet (Mark i) st z)) (sym is) (remarks l id slots [] (acts_of me.0) (tally_of me.0) i st may)))

  pub passes_as : me ≡ (writer_view l (acts_of me.0) (tally_of me.0), []) → (a : Act) (i n : ℕ) (st : Step (Unit {0})) → a ≡ Hand i → MayMake l (acts_of me.0) (Hand i) → st.word ≡ n → n ≡ recency_place l.width l.shape i → Allows (Ruled key) slots id me n (λ w. w) (AddsActIfClear a st me)
  passes_as is a i n st act may word here = subst (λ (y : Act × ℕ). Allows (Ruled key) slots id me y.1 (λ w. w) (AddsActIfClear y.0 st me)) (λ j. (sym act j, sym here j))
      (subst (λ (k : Layout). Allows (Ruled k) slots id me (recency_place l.width l.shape i) (λ w. w) (AddsActIfClear (Hand i) st me)) (sym key-is)
      (subst (λ (z : SeatView). Allows (Ruled l) slots id z (recency_place l.width l.shape i) (λ w. w) (AddsActIfClear (Hand i) st z)) (sym is) (passes l id slots [] (acts_of me.0) (tally_of me.0) i st may (word ∙ here))))

  pub looks_as : me ≡ (writer_view l (acts_of me.0) (tally_of me.0), []) → (n : ℕ) → n < word_count l.width l.shape → Allows (Ruled key) slots id me n (λ r. r) (FetchesWord (step slots n 0 0 none) me)
  looks_as is n below = subst (λ (k : Layout). Allows (Ruled k) slots id me n (λ r. r) (FetchesWord (step slots n 0 0 none) me)) (sym key-is)
      (subst (λ (z : SeatView). Allows (Ruled l) slots id z n (λ r. r) (FetchesWord (step slots n 0 0 none) z)) (sym is) (looks l id slots [] (acts_of me.0) (tally_of me.0) n (step slots n 0 0 none) refl below))

  pub reads_as : me ≡ (reader_view l (number_of me.0) (front_of me.0) (done_of me.0), []) → (a : Access) (n : ℕ) → place_read l.width l.shape a ≡ Some n → n < word_count l.width l.shape → Allows (Ruled key) slots id me n (λ r. r) (ReadsWord a (step slots n 0 0 none) me)
  reads_as is a n at below = subst (λ (k : Layout). Allows (Ruled k) slots id me n (λ r. r) (ReadsWord a (step slots n 0 0 none) me)) (sym key-is)
      (subst (λ (z : SeatView). Allows (Ruled l) slots id z n (λ r. r) (ReadsWord a (step slots n 0 0 none) z)) (sym is) (reads_one l id slots [] (number_of me.0) (front_of me.0) (done_of me.0) a n (step slots n 0 0 none) at refl below))

  pub marks_as : me ≡ (reader_view l (number_of me.0) (front_of me.0) (done_of me.0), []) → (i n m : ℕ) (g : ℕ → ℕ) (st : Step (Unit {0})) → i < l.shape.items → m ≡ only i → n ≡ recency_place l.width l.shape i
      → Allows (Ruled key) slots id me n (λ w. bit_or w m) (λ r. AddsMark i st me (g r))
  marks_as is i n m g st within one here = subst (λ (y : ℕ × ℕ). Allows (Ruled key) slots id me y.0 (λ w. bit_or w y.1) (λ r. AddsMark i st me (g r))) (λ j. (sym here j, sym one j))
      (subst (λ (k : Layout). Allows (Ruled k) slots id me (recency_place l.width l.shape i) (λ w. bit_or w (only i)) (λ r. AddsMark i st me (g r))) (sym key-is)
      (subst (λ (z : SeatView). Allows (Ruled l) slots id z (recency_place l.width l.shape i) (λ w. bit_or w (only i)) (λ r. AddsMark i st z (g r))) (sym is) (marks_one l id slots [] (number_of me.0) (front_of me.0) (done_of me.0) i g st within)))

  pub notices_as : me ≡ (reader_view l (number_of me.0) (front_of me.0) (done_of me.0), []) → (i n : ℕ) (st : Step (Unit {0})) → i < l.shape.items → n ≡ recency_place l.width l.shape i → Allows (Ruled key) slots id me n (λ w. w) (AddsMarkIfSet i st me)
  notices_as is i n st within here = subst (λ (y : ℕ). Allows (Ruled key) slots id me y (λ w. w) (AddsMarkIfSet i st me)) (sym here)
      (subst (λ (k : Layout). Allows (Ruled k) slots id me (recency_place l.width l.shape i) (λ w. w) (AddsMarkIfSet i st me)) (sym key-is)
      (subst (λ (z : SeatView). Allows (Ruled l) slots id z (recency_place l.width l.shape i) (λ w. w) (AddsMarkIfSet i st z)) (sym is) (notices_one l id slots [] (number_of me.0) (front_of me.0) (done_of me.0) i st within)))

  pub compares_as : me ≡ (view_as l (Both (acts_of me.0) (tally_of me.0) (number_of me.0) (front_of me.0) (done_of me.0)), []) → (n : ℕ) → n < word_count l.width l.shape → Allows (Ruled key) slots id me n (λ r. r) (ComparesMoment (step slots n 0 0 none) me)
  compares_as is n below = subst (λ (k : Layout). Allows (Ruled k) slots id me n (λ r. r) (ComparesMoment (step slots n 0 0 none) me)) (sym key-is)
      (subst (λ (z : SeatView). Allows (Ruled l) slots id z n (λ r. r) (ComparesMoment (step slots n 0 0 none) z)) (sym is)
      (compares_one l id slots [] (acts_of me.0) (tally_of me.0) (number_of me.0) (front_of me.0) (done_of me.0) n (step slots n 0 0 none) refl below))
