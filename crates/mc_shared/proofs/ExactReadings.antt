-- The rule leaves no choice: whatever step enters a reading in a reader's record, it is of the newest words. So a reader that does not look is refused.
use Rattle.std.specs.Prelude.{if◌then◌else◌}
use mathlib.Core.Logic.{dite}
use native.Mathlib.Decide.{dec_le, ℕ_discrete}
use Rattle.std.proofs.Common.{◌≡◌, ◌≢◌, Bool, eqb, eq-eqb, ne_eqb, ℕ, ◌<◌, ◌≤◌, List, [], ◌∷◌, ◌++◌, length, get_or, set, refl, ap, sym, ◌∙◌, subst, arith, Some}
use mathlib.Core.Option.{some, some-injective}
use lib.ListN.{get_elem?}
use Rattle.atomic_table.specs.Table as table
use Rattle.atomic_table.specs.Table.{stepped, step, keeps, Allows}
use Rattle.atomic_table.proofs.Lists.{set_else, set_here}
use Rattle.mc_theory.specs.Lists.{Made, front}
use Rattle.mc_theory.specs.Readings.{Reading, IsWordOf, RiseTo}
use Rattle.mc_theory.specs.States.{State}
use Rattle.mc_theory.specs.Writes.{place_read}
use Rattle.mc_theory.specs.declared.access.Access.{Access}
use Rattle.mc_theory.specs.declared.access.Access.TheVariants as access
use Rattle.mc_theory.proofs.Lists.Fronts.{front_all, front_append}
use Rattle.mc_theory.proofs.Lists.Readings.{read_parts}
use Rattle.mc_theory.proofs.Lists.WrittenWords.{reads_its_word}
use Rattle.mc_shared.specs.declared.layout.Layout.{Layout}
use Rattle.mc_shared.specs.Views.{Note, Tally, seated_in, Role, Spent, Writes, Reads, Both, View, IsWriters, writer_view, reader_view, acts_in, tally_in, front_of, done_of, AreLawful, layout_state, IsFrontOf}
use Rattle.mc_shared.specs.ExactFronts.{IsReading, StandsAt, IsExact}
use Rattle.mc_shared.specs.ExactLaws.{AddsEntry, ReadingsAreNewest, ReadsAreEntries}
use Rattle.mc_shared.specs.Steps.{SeatView, reading}
use Rattle.mc_shared.specs.TableRule.{word_after, seats_of, IsRecord, FitsRole, Fits, Ruled}
use Rattle.mc_shared.proofs.ReaderRecords.{record_longer}
use Rattle.mc_shared.proofs.ExactSteps.{entry_is, seat_counts}
use Rattle.mc_shared.proofs.Coherence.{total_set}
use Rattle.mc_shared.proofs.FirstTable.{Stands}
use Rattle.mc_shared.proofs.EachStep.{got_below}

-- the last front is no later than the end
last_rise : (f g : ℕ) (rs : List Reading) (r : Reading) → RiseTo f (rs ++ r ∷ []) g → r.front ≤ g
last_rise f g [] r h = h.1
last_rise f g (x ∷ xs) r h = last_rise x.front g xs r h.1

-- a mark reads no word
if_read : (V : ℕ) (l : Layout) (w : List ℕ) (x : Access) (y front made : ℕ) → StandsAt x front made → (front ≡ made → IsWordOf l.width l.shape w x y) → IsWordOf l.width l.shape w x y
if_read V l w (access.Version t) y front made h f = f h
if_read V l w (access.Slot p) y front made h f = f h
if_read V l w (access.Key k) y front made h f = f h
if_read V l w (access.Value k j) y front made h f = f h
if_read V l w (access.Stamp k) y front made h f = f h
if_read V l w access.Moment y front made h f = f h
if_read V l w (access.Mark k) y front made h f = tt

-- an access reads one word
one_word : (V : ℕ) (l : Layout) (w : List ℕ) (a : Access) (n x y : ℕ) → place_read l.width l.shape a ≡ Some n → IsWordOf l.width l.shape w a x → IsWordOf l.width l.shape w a y → x ≡ y
one_word V l w (access.Version t) n x y e p q = p ∙ sym q
one_word V l w (access.Slot t) n x y e p q = p ∙ sym q
one_word V l w (access.Key k) n x y e p q = p ∙ sym q
one_word V l w (access.Value k j) n x y e p q = p ∙ sym q
one_word V l w (access.Stamp k) n x y e p q = p ∙ sym q
one_word V l w access.Moment n x y e p q = p ∙ sym q
one_word V l w (access.Mark k) n x y e p q = absurd (cc)

-- the writer's seat knows all acts and their tally
knows_all : (l own : Layout) (log : List Made) (all : Tally) (at seat : ℕ) (r : Role) → IsWriters r → FitsRole l own log all at seat r → (acts_in r ≡ log) × (tally_in r ≡ all)
knows_all l own log all at seat Spent w f = absurd w
knows_all l own log all at seat (Writes acts tally) w f = (f.2, f.3)
knows_all l own log all at seat (Reads number front done) w f = absurd w
knows_all l own log all at seat (Both acts tally number front done) w f = (f.2, f.3)

-- a reader counts for 1 at its own number
hit : (a : ℕ) → ◌≡◌ {A = ℕ} (if eqb a a then 1 else 0) 1
hit a = ap (λ (b : Bool). if◌then◌else◌ {A = ℕ} b 1 0) (eq-eqb a a refl)

-- a reader that has a seat is on one seat, before and after
same_number : (l : Layout) (s t : table.State (Unit {0}) View) (r : Ruled l s) (r' : Ruled l t) (a : ℕ) {tally : Tally} → tally ≡ r.tally → tally ≡ r'.tally → (seat : ℕ) (v : View) → get_elem? s.views seat ≡ some v → seated_in a v.role ≡ 1 → seats_of a s.views ≡ seats_of a t.views
same_number l s t r r' a before after seat v at here = dite (dec_le r.tally.readers a)
    (λ over. let none = r.unseated a over in let some' = seat_counts a s.views seat v at in absurd (omega (arith, none, some', here)))
    (λ under. let below : a < r.tally.readers = omega (arith, under) in
    r.single a below ∙ sym (r'.single a (subst (λ (x : Tally). a < x.readers) (sym before ∙ after) below)))

-- so it keeps its number
kept_number : (a b : ℕ) (views : List View) (seat : ℕ) (v w : View) → get_elem? views seat ≡ some v → seated_in a v.role ≡ 1 → seated_in a w.role ≡ (if eqb b a then 1 else 0) → seats_of a views ≡ seats_of a (set views seat w) → b ≡ a
kept_number a b views seat v w at here is same =
    let c = total_set (λ (u : View). seated_in a u.role) views seat v w at in
    dite (ℕ_discrete b a) (λ e. e) (λ ne. let miss : ◌≡◌ {A = ℕ} (if eqb b a then 1 else 0) 0 = ap (λ (x : Bool). if◌then◌else◌ {A = ℕ} x 1 0) (ne_eqb b a ne) in absurd (omega (arith, c, here, is, same, miss)))

-- the writer's seat is another one, in both states: the acts and their notes are those of both
module _ (l : Layout) (s t : table.State (Unit {0}) View) (acts : List Made) (e : Reading) (h : AddsEntry l s t acts e) where
  apart : h.before.at ≢ h.seat
  apart same =
      let w = h.before.writer in
      let is : w.0 ≡ reader_view l h.number h.old h.done = some-injective _ _ (sym w.1 ∙ (ap (λ (k : ℕ). get_elem? s.views k) same ∙ h.reads)) in
      subst (λ (x : View). IsWriters x.role) is w.2

  knew : (acts_in h.before.writer.0.role ≡ h.before.log) × (tally_in h.before.writer.0.role ≡ h.before.tally)
  knew =
      let w = h.before.writer in
      knows_all l w.0.layout h.before.log h.before.tally h.before.at h.before.at w.0.role w.2 (h.before.views h.before.at w.0 w.1)

  knows : (acts_in h.before.writer.0.role ≡ h.after.log) × (tally_in h.before.writer.0.role ≡ h.after.tally)
  knows =
      let w = h.before.writer in
      let there : get_elem? t.views h.before.at ≡ some w.0 = ap (λ (vs : List View). get_elem? vs h.before.at) h.step ∙ (set_else s.views h.seat h.before.at (reader_view l h.number' h.new (h.done ++ e ∷ [])) apart ∙ w.1) in
      knows_all l w.0.layout h.after.log h.after.tally h.after.at h.before.at w.0.role w.2 (h.after.views h.before.at w.0 there)

  pub log_after : h.after.log ≡ acts
  log_after = sym knows.0 ∙ (knew.0 ∙ h.made)

  pub tally_after : h.after.tally ≡ h.before.tally
  tally_after = sym knows.1 ∙ knew.1

  -- what the rule says of the record after the step
  fits_after : Fits l h.after.log h.after.tally h.after.at h.seat (reader_view l h.number' h.new (h.done ++ e ∷ []))
  fits_after =
      let v : View = reader_view l h.number h.old h.done in
      let w : View = reader_view l h.number' h.new (h.done ++ e ∷ []) in
      h.after.views h.seat w (ap (λ (vs : List View). get_elem? vs h.seat) h.step ∙ set_here s.views h.seat w (got_below s.views h.seat v h.reads))

  -- it is one of all acts
  pub entered : AreLawful l acts × IsRecord l acts (h.done ++ e ∷ [])
  entered =
      let p : IsFrontOf h.new acts = subst (IsFrontOf h.new) log_after fits_after.1 in
      (subst (AreLawful l) log_after h.after.lawful, record_longer l h.new acts (h.done ++ e ∷ []) p fits_after.2)

pub readings_are_newest : ReadingsAreNewest
readings_are_newest l s t acts e h =
    let r = h.before in
    let r' = h.after in
    let v : View = reader_view l h.number h.old h.done in
    let w : View = reader_view l h.number' h.new (h.done ++ e ∷ []) in
    let mine = r.views h.seat v h.reads in
    let mine' = fits_after l s t acts e h in
    let same_tally : r'.tally ≡ r.tally = tally_after l s t acts e h in
    let log' : acts ≡ r'.log = sym (log_after l s t acts e h) in
    let seated : seats_of h.number s.views ≡ seats_of h.number t.views = same_number l s t r r' h.number refl (sym same_tally) h.seat v h.reads (hit h.number) in
    let same : h.number' ≡ h.number = kept_number h.number h.number' s.views h.seat v w h.reads (hit h.number) refl (seated ∙ ap (seats_of h.number) h.step) in
    let is : IsExact h.number r.tally.notes (h.done ++ e ∷ []) = subst (λ (z : ℕ × List Note). IsExact z.0 z.1 (h.done ++ e ∷ [])) (λ i. (same i, ap (λ (x : Tally). x.notes) same_tally i)) mine'.3 in
    let paired : length r.tally.notes ≡ length acts = r.paired ∙ ap length h.made in
    let stands : StandsAt e.access e.front (length acts) = subst (StandsAt e.access e.front) paired (entry_is h.number r.tally.notes h.done e mine.3 is) in
    let p : IsFrontOf h.new acts = subst (IsFrontOf h.new) (sym log') mine'.1 in
    let kept : IsRecord l h.new (h.done ++ e ∷ []) = mine'.2 in
    let below : e.front ≤ length h.new = last_rise 0 (length h.new) h.done e kept.rise in
    let read = (read_parts l.width l.shape h.new h.done (e ∷ []) kept.read).1 in
    let word : IsWordOf l.width l.shape (layout_state l acts).words e.access e.word =
    if_read 0 l (layout_state l acts).words e.access e.word e.front (length acts) stands (λ (all : e.front ≡ length acts).
    let same : front l.width l.shape h.new e.front ≡ layout_state l acts =
    sym (front_append l.width l.shape h.new p.0 e.front below) ∙ (ap (λ (z : List Made). front l.width l.shape z e.front) (sym p.1) ∙ front_all l.width l.shape acts e.front (omega (arith, all))) in
    subst (λ (z : State l.width). IsWordOf l.width l.shape z.words e.access e.word) same read.0)
    in (
      stands,
      word,
      λ n at low. one_word 0 l (layout_state l acts).words e.access n _ _ at word (reads_its_word l.width l.shape (layout_state l acts).words e.access n at).0 ∙ (ap (λ (z : List Made). word_after l z n) (sym h.made) ∙ sym (r.words n low)),
    )

-- a load that returns a reading is a step that enters it
pub reads_are_entries : ReadsAreEntries
reads_are_entries l s seat slots place number old done held a st allows rule fits mine small =
    let next = allows s rule fits mine small in
    let told = next.4 in
    let is : next.0 ≡ reader_view l number (front_of next.0) (done_of next.0) = ap (λ (x : SeatView). x.0) told.1 in
    let adds : done_of next.0 ≡ done ++ reading a (get_or s.words place 0) (front_of next.0) ∷ [] = told.2.adds in
    record {
      before = rule;
      after = next.3;
      made = refl;
      seat = seat;
      number = number;
      number' = number;
      old = old;
      new = front_of next.0;
      done = done;
      reads = mine;
      step = ap (λ (w : View). set s.views seat w) (is ∙ ap (λ (z : List Reading). reader_view l number (front_of next.0) z) adds);
    }

-- a reading, which is no mark, stands at just the acts that were made
pub load_stands : (a : Access) (front made : ℕ) → IsReading a → StandsAt a front made → front ≡ made
load_stands (access.Version t) front made is h = h
load_stands (access.Slot p) front made is h = h
load_stands (access.Key k) front made is h = h
load_stands (access.Value k j) front made is h = h
load_stands (access.Stamp k) front made is h = h
load_stands access.Moment front made is h = h
load_stands (access.Mark k) front made is h = absurd is

-- so no step enters a reading at an older front, whatever word it has, once another act was made
pub no_stale_reading : (l : Layout) (id slots : ℕ) (c : List (ℕ × Unit {0})) (number : ℕ) (old : List Made) (done : List Reading) (n : ℕ) (f : ℕ → ℕ) (told : ℕ → SeatView → Type 0) (s : table.State (Unit {0}) View) → (h : Stands l id slots c number old done s n)
    → ((me : SeatView) → told (get_or s.words n 0) me → (new : List Made) × (e : Reading) × IsReading e.access × (e.front < length h.acts) × ((number' : ℕ) × (me.0 ≡ reader_view l number' new (done ++ e ∷ []))))
    → Allows (Ruled l) slots id (reader_view l number old done, c) n f told → ⊥
no_stale_reading l id slots c number old done n f told s h is allows =
    let m = allows s h.ruled h.long h.mine h.fits in
    let x = is _ m.4 in
    let old' = h.ruled.views h.writer (writer_view l h.acts h.tally) h.writes in
    let entry : AddsEntry l s (stepped s n (f (get_or s.words n 0)) id c m.0 m.1) h.acts x.1 = record {
      before = h.ruled;
      after = m.3;
      made = sym old'.2;
      seat = id;
      number = number;
      number' = x.4.0;
      old = old;
      new = x.0;
      done = done;
      reads = h.mine;
      step = ap (λ (w : View). set s.views id w) x.4.1;
    } in
    let all = load_stands x.1.access x.1.front (length h.acts) x.2 (readings_are_newest l s _ h.acts x.1 entry).0 in
    omega (arith, all, x.3)
