-- A seat is cut in two, and two seats are joined: the rule of the table is kept.
use Rattle.std.proofs.Common.{◌≡◌, Bool, ℕ, ◌+◌, ◌<◌, ◌≢◌, eqb, eq-eqb, ne_eqb, List, [], ◌∷◌, ◌++◌, length, set, refl, ap, sym, ◌∙◌, subst, ⊎_elim, arith, ◌≤◌}
use Rattle.std.specs.Prelude.{if◌then◌else◌}
use mathlib.Core.Logic.{dite}
use mathlib.Core.Option.{some}
use native.Mathlib.Decide.{ℕ_discrete}
use lib.ListN.{get_elem?}
use Rattle.atomic_table.specs.Table as table
use Rattle.atomic_table.specs.Table.{Step, step, keeps, stepped, opening, Allows, Splits, Joins}
use Rattle.atomic_table.proofs.Lists.{at_set, at_snoc}
use Rattle.mc_theory.specs.Lists.{Made}
use Rattle.mc_theory.specs.Readings.{Reading}
use Rattle.mc_shared.specs.declared.layout.Layout.{Layout}
use Rattle.mc_shared.specs.RecencyTrace.{trace_of, marks_in, total, Coherent}
use Rattle.mc_shared.specs.Views.{Note, Tally, tally_for, seated_in, Both, View, IsWriters, view_as, writer_view, reader_view, spent_view, acts_of, tally_of, number_of, front_of, done_of, IsFrontOf}
use Rattle.mc_shared.specs.TableRule.{Fits, AllFit, seats_of, bit_in, Ruled}
use Rattle.mc_shared.specs.Steps.{with_reader_view, new_reader_view, joined_view, writer_part, reader_part}
use Rattle.mc_shared.proofs.Coherence.{total_set, total_push}
use Rattle.mc_shared.proofs.ReaderRecords.{front_self, front_none, record_none, record_longer}
use Rattle.mc_shared.proofs.ExactSteps.{exact_none}
use Rattle.mc_shared.proofs.EachStep.{fits_set, joins_in, writer_push, writer_set}

-- a view is cut in two, and the tally may have one reader more
splits_as : (l : Layout) (id : ℕ) (s : table.State (Unit {0}) View) (r : Ruled l s) (all : Tally) (v left right : View) → get_elem? s.views id ≡ some v → all.notes ≡ r.tally.notes → ((i : ℕ) → marks_in i (done_of left) + marks_in i (done_of right) ≡ marks_in i (done_of v))
    → ((j : ℕ) (u : View) → j ≢ id → get_elem? s.views j ≡ some u → Fits l r.log all r.at j u) → Fits l r.log all r.at id left → ((j : ℕ) → Fits l r.log all r.at j right)
    → (IsWriters v.role → IsWriters left.role) → ((a : ℕ) → a < all.readers → seats_of a (set s.views id left ++ right ∷ []) ≡ 1) → ((a : ℕ) → all.readers ≤ a → seats_of a (set s.views id left ++ right ∷ []) ≡ 0)
    → Ruled l record { words = s.words; homes = s.homes; views = set s.views id left ++ right ∷ [] }
splits_as l id s r all v left right at same cut others mine new writes single unseated = record {
  log = r.log;
  tally = all;
  paired = ap length same ∙ r.paired;
  at = r.at;
  writer = writer_push r.at (set s.views id left) right (writer_set r.at id s.views v left at writes r.writer);
  lawful = r.lawful;
  wide = r.wide;
  words = r.words;
  views = λ j u e. ⊎_elim (λ was. fits_set l r.log all r.at id s.views left others mine j u was) (λ (is : right ≡ u). subst (Fits l r.log all r.at j) is (new j)) (at_snoc (set s.views id left) right u j e);
  single = single;
  unseated = unseated;
  bits = λ i below.
      let f = λ (u : View). marks_in i (done_of u) in
      let a = total_push f (set s.views id left) right in
      let b = total_set f s.views id v left at in
      let d = cut i in
      let count : total f (set s.views id left ++ right ∷ []) ≡ total f s.views = omega arith in
      subst (λ (z : ℕ × List Note). Coherent (trace_of i r.log z.1) z.0 (bit_in l s.words i)) (λ j. (sym count j, sym same j)) (r.bits i below);
  past = r.past;
}

-- how many seats a reader is on, if one view is cut in two
cut_seats : (a id : ℕ) (views : List View) (v left right : View) → get_elem? views id ≡ some v → seats_of a (set views id left ++ right ∷ []) + seated_in a v.role ≡ seats_of a views + seated_in a left.role + seated_in a right.role
cut_seats a id views v left right at =
    let f = λ (u : View). seated_in a u.role in
    let x = total_push f (set views id left) right in
    let y = total_set f views id v left at in
    omega arith

-- a new reader, of a table of which no act was made yet
pub splits_new : (l : Layout) (id n : ℕ) → Splits (Ruled l) id (writer_view l [] (tally_for n)) (writer_view l [] (tally_for (n + 1))) (reader_view l n [] [])
splits_new l id n s r at =
    let v : View = writer_view l [] (tally_for n) in
    let left : View = writer_view l [] (tally_for (n + 1)) in
    let right : View = reader_view l n [] [] in
    let mine = r.views id v at in
    let even : tally_for n ≡ r.tally = mine.3 in
    let notes : ◌≡◌ {A = List Note} [] r.tally.notes = ap (λ (t : Tally). t.notes) even in
    let others : (j : ℕ) (u : View) → j ≢ id → get_elem? s.views j ≡ some u → Fits l r.log (tally_for (n + 1)) r.at j u =
    λ j u ne e. joins_in l u.layout r.log (tally_for n) r.at j (λ (z : j ≡ r.at). ne (z ∙ sym mine.1)) u.role (subst (λ (z : Tally). Fits l r.log z r.at j u) (sym even) (r.views j u e)) in
    let one : (a : ℕ) → a < n → seats_of a s.views ≡ 1 = λ a below. r.single a (subst (λ (z : Tally). a < z.readers) even below) in
    let none : (a : ℕ) → n ≤ a → seats_of a s.views ≡ 0 = λ a over. r.unseated a (subst (λ (z : Tally). z.readers ≤ a) even over) in
    splits_as l id s r (tally_for (n + 1)) v left right at notes (λ i. omega arith) others (refl, mine.1, mine.2, refl) (λ j. (refl, front_none r.log, record_none l [], exact_none n)) (λ z. z)
    (λ a below. let c = cut_seats a id s.views v left right at in dite (ℕ_discrete n a)
    (λ e. let hit : ◌≡◌ {A = ℕ} (if eqb n a then 1 else 0) 1 = ap (λ (b : Bool). if◌then◌else◌ {A = ℕ} b 1 0) (eq-eqb n a e) in omega (arith, c, hit, none a (omega (arith, e))))
    (λ ne. let miss : ◌≡◌ {A = ℕ} (if eqb n a then 1 else 0) 0 = ap (λ (b : Bool). if◌then◌else◌ {A = ℕ} b 1 0) (ne_eqb n a ne) in omega (arith, c, miss, one a (omega (arith, below, ne)))))
    (λ a over. let c = cut_seats a id s.views v left right at in
    let miss : ◌≡◌ {A = ℕ} (if eqb n a then 1 else 0) 0 = ap (λ (b : Bool). if◌then◌else◌ {A = ℕ} b 1 0) (ne_eqb n a (λ e. omega (arith, e, over))) in
    omega (arith, c, miss, none a (omega (arith, over))))

-- the reader that was joined to the writer is split off
pub splits_back : (l : Layout) (id : ℕ) (acts : List Made) (tally : Tally) (number : ℕ) (front : List Made) (done : List Reading) → Splits (Ruled l) id (view_as l (Both acts tally number front done)) (writer_view l acts tally) (reader_view l number acts done)
splits_back l id acts tally number front done s r at =
    let v : View = view_as l (Both acts tally number front done) in
    let left : View = writer_view l acts tally in
    let right : View = reader_view l number acts done in
    let mine = r.views id v at in
    let same : acts ≡ r.log = mine.2 in
    let p : IsFrontOf front acts = subst (IsFrontOf front) (sym same) mine.4 in
    splits_as l id s r r.tally v left right at refl (λ i. omega arith) (λ k x _ h. r.views k x h) (refl, mine.1, same, mine.3) (λ j. (refl, subst (IsFrontOf acts) same (front_self acts), record_longer l front acts done p mine.5, mine.6)) (λ z. z)
    (λ a below. let c = cut_seats a id s.views v left right at in omega (arith, c, r.single a below))
    (λ a over. let c = cut_seats a id s.views v left right at in omega (arith, c, r.unseated a over))

pub joins_reader : (l : Layout) (id other : ℕ) (acts : List Made) (tally : Tally) (number : ℕ) (front : List Made) (done : List Reading)
    → Joins (Ruled l) id (writer_view l acts tally) other (reader_view l number front done) (view_as l (Both acts tally number front done)) spent_view
joins_reader l id other acts tally number front done s r at apart there =
    let w : View = view_as l (Both acts tally number front done) in
    let mine = r.views id (writer_view l acts tally) at in
    let theirs : Fits l r.log r.tally r.at other (reader_view l number front done) =
    ⊎_elim (λ (t : (other ≡ id) × (w ≡ reader_view l number front done)). absurd (apart t.0)) (λ (t : (other ≢ id) × (get_elem? s.views other ≡ some (reader_view l number front done))). r.views other (reader_view l number front done) t.1) (at_set s.views id other w (reader_view l number front done) there)
    in
    let both : AllFit l r.log r.tally r.at (set s.views id w) = fits_set l r.log r.tally r.at id s.views w (λ k x _ h. r.views k x h) (refl, mine.1, mine.2, mine.3, theirs.1, theirs.2, theirs.3) in
    let seats : (a : ℕ) → seats_of a (set (set s.views id w) other spent_view) ≡ seats_of a s.views = λ a.
    let f = λ (u : View). seated_in a u.role in
    let x = total_set f s.views id (writer_view l acts tally) w at in
    let y = total_set f (set s.views id w) other (reader_view l number front done) spent_view there in
    omega arith
    in
    record {
      log = r.log;
      tally = r.tally;
      paired = r.paired;
      at = r.at;
      writer = writer_set r.at other (set s.views id w) (reader_view l number front done) spent_view there (λ z. z) (writer_set r.at id s.views (writer_view l acts tally) w at (λ z. z) r.writer);
      lawful = r.lawful;
      wide = r.wide;
      words = r.words;
      views = fits_set l r.log r.tally r.at other (set s.views id w) spent_view (λ k x _ h. both k x h) tt;
      single = λ a below. seats a ∙ r.single a below;
      unseated = λ a over. seats a ∙ r.unseated a over;
      bits = λ i below.
          let f = λ (u : View). marks_in i (done_of u) in
          let a = total_set f s.views id (writer_view l acts tally) w at in
          let b = total_set f (set s.views id w) other (reader_view l number front done) spent_view there in
          let count : total f (set (set s.views id w) other spent_view) ≡ total f s.views = omega arith in
          subst (λ (m : ℕ). Coherent (trace_of i r.log r.tally.notes) m (bit_in l s.words i)) (sym count) (r.bits i below);
      past = r.past;
    }

module _ (key l : Layout) (key-is : key ≡ l) (id : ℕ) where
  pub splits_new_as : (v : View) (n : ℕ) → v ≡ writer_view l [] (tally_for n) → Splits (Ruled key) id v (with_reader_view v) (new_reader_view v)
  splits_new_as v n is = subst (λ (k : Layout). Splits (Ruled k) id v (with_reader_view v) (new_reader_view v)) (sym key-is) (subst (λ (x : View). Splits (Ruled l) id x (with_reader_view x) (new_reader_view x)) (sym is) (splits_new l id n))

  pub splits_back_as : (v : View) → v ≡ view_as l (Both (acts_of v) (tally_of v) (number_of v) (front_of v) (done_of v)) → Splits (Ruled key) id v (writer_part v) (reader_part v)
  splits_back_as v is = subst (λ (k : Layout). Splits (Ruled k) id v (writer_part v) (reader_part v)) (sym key-is)
      (subst (λ (x : View). Splits (Ruled l) id x (writer_part x) (reader_part x)) (sym is) (splits_back l id (acts_of v) (tally_of v) (number_of v) (front_of v) (done_of v)))

  pub joins_as : (other : ℕ) (v w : View) → v ≡ writer_view l (acts_of v) (tally_of v) → w ≡ reader_view l (number_of w) (front_of w) (done_of w) → Joins (Ruled key) id v other w (joined_view v w) spent_view
  joins_as other v w is is' = subst (λ (k : Layout). Joins (Ruled k) id v other w (joined_view v w) spent_view) (sym key-is)
      (subst (λ (x : View × View). Joins (Ruled l) id x.0 other x.1 (joined_view x.0 x.1) spent_view) (λ i. (sym is i, sym is' i)) (joins_reader l id other (acts_of v) (tally_of v) (number_of w) (front_of w) (done_of w)))
