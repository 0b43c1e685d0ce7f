-- What a step of one seat does to the list of acts, and to the record of a reader.
use Rattle.std.specs.Prelude.{if◌then◌else◌}
use Rattle.std.specs.Int.{bit_at}
use mathlib.Core.Logic.{dite}
use native.Mathlib.Decide.{ℕ_discrete, dec_le}
use Rattle.std.proofs.Common.{◌≡◌, ◌≢◌, ◌⊎◌, ⊎_elim, inl, inr, Bool, eqb, eq-eqb, ℕ, ◌+◌, ◌<◌, ◌≤◌, List, [], ◌∷◌, ◌++◌, get_or, set, refl, ap, sym, ◌∙◌, subst, arith}
use Rattle.std.proofs.lemmas.Nat.Bits.{bit_at-lt}
use mathlib.Core.Option.{some, some-injective}
use lib.ListN.{get_elem?}
use Rattle.atomic_table.specs.Table as table
use Rattle.atomic_table.proofs.Lists.{set_else, set_here}
use Rattle.mc_words.specs.Places.{recency_place}
use Rattle.mc_words.specs.Recency.{recency_bit}
use Rattle.mc_theory.specs.Lists.{Made}
use Rattle.mc_theory.specs.Readings.{Reading}
use Rattle.mc_theory.specs.declared.act.Act.{Act}
use Rattle.mc_theory.specs.declared.act.Act.TheVariants.{Hand}
use Rattle.mc_shared.specs.ExactLaws.{AddsEntry}
use Rattle.mc_shared.specs.SeatPlays.{SeatPlay, says, fetches, makes, marks_if_set, turns, turns_if_clear, reads, marks, notices, compares}
use Rattle.mc_shared.specs.Steps.{SeatView, IsStored, IsAtBit, bit_of, item_of, item_bit, reading, mark_at, AddsAct, StoresAct, AddsActIfSet, AddsActIfClear, ClearsBit}
use Rattle.mc_shared.specs.TableRule.{FitsRole, Ruled, bit_in, seats_of}
use Rattle.mc_shared.specs.Views.{Note, Tally, Role, Spent, Writes, Reads, Both, View, IsWriters, view_as, writer_view, reader_view, acts_in, tally_in, acts_of, tally_of, number_of, front_of, done_of, done_in, with_note, with_bit, seated_in}
use Rattle.mc_shared.specs.declared.layout.Layout.{Layout}
use Rattle.mc_shared.proofs.Coherence.{total_set}
use Rattle.mc_shared.proofs.EachStep.{got_below}
use Rattle.mc_shared.proofs.ExactSteps.{seat_counts}
use Rattle.mc_executions.specs.Executions.{TableState, Says, IsPlayed, HasRecord}
use Rattle.mc_executions.specs.TimeOrder.{LogIsOne}

-- the writer's seat knows all acts and their tally, and stands where the rule says
pub knows_all : (l own : Layout) (log : List Made) (all : Tally) (at seat : ℕ) (r : Role) → IsWriters r → FitsRole l own log all at seat r → (acts_in r ≡ log) × (tally_in r ≡ all) × (seat ≡ at)
knows_all l own log all at seat Spent w f = absurd w
knows_all l own log all at seat (Writes acts tally) w f = (f.2, f.3, f.1)
knows_all l own log all at seat (Reads number front done) w f = absurd w
knows_all l own log all at seat (Both acts tally number front done) w f = (f.2, f.3, f.1)

pub log_is_one : LogIsOne
log_is_one l s r r' =
    let w = r.writer in
    let k = knows_all l w.0.layout r.log r.tally r.at r.at w.0.role w.2 (r.views r.at w.0 w.1) in
    let k' = knows_all l w.0.layout r'.log r'.tally r'.at r.at w.0.role w.2 (r'.views r.at w.0 w.1) in
    (sym k.0 ∙ k'.0, sym k.1 ∙ k'.1)

-- a reader counts for 1 at its own number
pub hit : (a : ℕ) → ◌≡◌ {A = ℕ} (if eqb a a then 1 else 0) 1
hit a = ap (λ (b : Bool). if◌then◌else◌ {A = ℕ} b 1 0) (eq-eqb a a refl)

is_hit : (n a : ℕ) → ◌≡◌ {A = ℕ} (if eqb n a then 1 else 0) 1 → n ≡ a
is_hit n a e = dite (ℕ_discrete n a) (λ y. y) (λ ne. absurd (grind (arith, e, ne)))

-- the writer's view is that of all acts, unless a reader is joined to it
writer_is : (l own : Layout) (log : List Made) (all : Tally) (at seat : ℕ) (r : Role) → IsWriters r → FitsRole l own log all at seat r → (view_as own r ≡ writer_view l log all) ⊎ ((a : ℕ) × (seated_in a r ≡ 1))
writer_is l own log all at seat Spent w f = absurd w
writer_is l own log all at seat (Writes acts tally) w f = inl (λ i. view_as (f.0 i) (Writes (f.2 i) (f.3 i)))
writer_is l own log all at seat (Reads number front done) w f = absurd w
writer_is l own log all at seat (Both acts tally number front done) w f = inr (number, hit number)

-- a seat with a reader is a reader's, or the writer's with the reader joined to it
reader_is : (l own : Layout) (log : List Made) (all : Tally) (at seat a : ℕ) (r : Role) → seated_in a r ≡ 1 → FitsRole l own log all at seat r → ((number : ℕ) × (front : List Made) × (view_as own r ≡ reader_view l number front (done_in r)) × (number ≡ a)) ⊎ IsWriters r
reader_is l own log all at seat a Spent here f = absurd (omega (arith, here))
reader_is l own log all at seat a (Writes acts tally) here f = absurd (omega (arith, here))
reader_is l own log all at seat a (Reads number front done) here f = inl (number, front, (λ i. view_as (f.0 i) (Reads number front done)), is_hit number a here)
reader_is l own log all at seat a (Both acts tally number front done) here f = inr tt

-- ---- what a step makes of the view of its seat
-- an act of the hand has the bit of its item
abbrev pub IsHonest : Layout → TableState → Made → Type 0
IsHonest l s m = (i : ℕ) → m.act ≡ Hand i → m.bit ≡ bit_in l s.words i

-- nothing, one act more, or one entry more
pub data Turn (l : Layout) (s : TableState) (v w : View) : Type 0 where
  stays : w ≡ v → Turn l s v w
  made : (m : Made) (note : Note) → w ≡ writer_view v.layout (acts_of v ++ m ∷ []) (with_note (tally_of v) note) → IsHonest l s m → Turn l s v w
  entered : (new : List Made) (e : Reading) → w ≡ reader_view v.layout (number_of v) new (done_of v ++ e ∷ []) → Turn l s v w

bit_cases : (n i : ℕ) → (bit_at n i ≡ 0) ⊎ (bit_at n i ≡ 1)
bit_cases n i = let low = bit_at-lt n i in dite (ℕ_discrete (bit_at n i) 0) (λ z. inl z) (λ nz. inr (omega (arith, low, nz)))

-- an act that is stored is none of the hand
no_hand : (a : Act) (i : ℕ) → IsStored a → a ≡ Hand i → ⊥
no_hand a i st e = subst IsStored e st

module _ (l : Layout) (s t : TableState) (r' : Ruled l t) where
  -- the seat's view after a play
  seat_after : (play : Says) (p : IsPlayed play s t) → get_elem? t.views p.seat ≡ some p.w
  seat_after play p = ap (λ (z : TableState). get_elem? z.views p.seat) p.next ∙ set_here s.views p.seat p.w (got_below s.views p.seat p.v p.mine)

  -- a seat that writes has the table's layout
  own_layout : (play : Says) (p : IsPlayed play s t) (acts : List Made) (tally : Tally) → p.w ≡ writer_view p.v.layout acts tally → p.v.layout ≡ l
  own_layout play p acts tally e = (subst (λ (x : View). FitsRole l x.layout r'.log r'.tally r'.at p.seat x.role) e (r'.views p.seat p.w (seat_after play p))).0

  -- no act that is stored is one of the hand
  stored_honest : (a : Act) (bit : ℕ) → IsStored a → IsHonest l s (with_bit a bit)
  stored_honest a bit st = λ i e. absurd (no_hand a i st e)

  -- and the hand's has the bit of its item's place
  hand_honest : (a : Act) (place : ℕ) → place ≡ recency_place l.width l.shape (item_of a) → IsHonest l s (with_bit a (bit_of a (get_or s.words place 0)))
  hand_honest a place at = λ k e.
      ap (λ (b : Act). bit_of b (get_or s.words place 0)) e ∙ ap (λ (n : ℕ). bit_at (get_or s.words n 0) (recency_bit k)) (at ∙ ap (λ (b : Act). recency_place l.width l.shape (item_of b)) e)

  -- an act that was made on the word of its item's bit
  turn_act : (play : Says) (p : IsPlayed play s t) (a : Act) → IsAtBit a p.st (p.v, p.held) → AddsAct a p.st (p.v, p.held) (get_or s.words p.place 0) (p.w, table.carried_after p.held p.act) → Turn l s p.v p.w
  turn_act play p a at told =
      let e = ap (λ (x : SeatView). x.0) told.1 in
      let layout = own_layout play p _ _ e in
      made (with_bit a (bit_of a (get_or s.words p.place 0))) told.0 e (hand_honest a p.place (sym p.at ∙ (at ∙ (λ i. recency_place (layout i).width (layout i).shape (item_of a)))))

  turn_stored : (play : Says) (p : IsPlayed play s t) (a : Act) → StoresAct a p.st (p.v, p.held) (get_or s.words p.place 0) (p.w, table.carried_after p.held p.act) → Turn l s p.v p.w
  turn_stored play p a told = made (with_bit a (bit_of a (get_or s.words p.place 0))) told.1.0 (ap (λ (x : SeatView). x.0) told.1.1) (stored_honest a _ told.0)

  -- what each play makes of the view
  pub turn_of : (p : SeatPlay) (x : IsPlayed (says p) s t) → Turn l s x.v x.w
  turn_of fetches x = stays (ap (λ (z : SeatView). z.0) x.told.0)
  turn_of (makes a) x = turn_stored (StoresAct a) x a x.told
  turn_of (marks_if_set a) x = ⊎_elim
      (λ zero. stays (ap (λ (z : SeatView). z.0) (x.told.1 zero)))
      (λ one. turn_stored (AddsActIfSet a) x a (x.told.0 one))
      (bit_cases (get_or s.words x.place 0) (item_bit a))
  turn_of (turns a) x = turn_act (ClearsBit a) x a x.told.0 x.told.2
  turn_of (turns_if_clear a) x = ⊎_elim
      (λ zero. turn_act (AddsActIfClear a) x a x.told.0 (x.told.1 zero))
      (λ one. stays (ap (λ (z : SeatView). z.0) (x.told.2 one)))
      (bit_cases (get_or s.words x.place 0) (item_bit a))
  turn_of (reads a) x = entered (front_of x.w) (reading a (get_or s.words x.place 0) (front_of x.w)) (ap (λ (z : SeatView). z.0) x.told.1 ∙ ap (λ (z : List Reading). reader_view x.v.layout (number_of x.v) (front_of x.w) z) x.told.2.adds)
  turn_of (marks i) x = entered (front_of x.v) (mark_at i (front_of x.v)) (ap (λ (z : SeatView). z.0) x.told)
  turn_of (notices i) x = ⊎_elim
      (λ zero. stays (ap (λ (z : SeatView). z.0) (x.told.1 zero)))
      (λ one. entered (front_of x.v) (mark_at i (front_of x.v)) (ap (λ (z : SeatView). z.0) (x.told.0 one)))
      (bit_cases (get_or s.words x.place 0) (recency_bit i))
  turn_of compares x = stays (ap (λ (z : SeatView). z.0) x.told.0)

-- ---- what a step does to the list of acts
-- it leaves it, or adds one act, in the writer's view
pub data LogStep (l : Layout) (s t : TableState) (r : Ruled l s) (r' : Ruled l t) : Type 0 where
  rests : r'.log ≡ r.log → LogStep l s t r r'
  grows : (m : Made) (seat : ℕ) (note : Note) → get_elem? s.views seat ≡ some (writer_view l r.log r.tally) → t.views ≡ set s.views seat (writer_view l (r.log ++ m ∷ []) (with_note r.tally note)) → r'.log ≡ r.log ++ m ∷ [] → IsHonest l s m → LogStep l s t r r'

-- a seat of the writer knows what the rule knows
pub log_is : (l : Layout) (s : TableState) (r : Ruled l s) (j : ℕ) (u : View) → get_elem? s.views j ≡ some u → IsWriters u.role → (acts_of u ≡ r.log) × (tally_of u ≡ r.tally) × (j ≡ r.at)
log_is l s r j u at is = knows_all l u.layout r.log r.tally r.at j u.role is (r.views j u at)

-- a reader that has a seat is one of the readers
pub is_reader : (l : Layout) (s : TableState) (r : Ruled l s) (j a : ℕ) (u : View) → get_elem? s.views j ≡ some u → seated_in a u.role ≡ 1 → a < r.tally.readers
is_reader l s r j a u at here = dite (dec_le r.tally.readers a)
    (λ over. let none = r.unseated a over in let some' = seat_counts a s.views j u at in absurd (omega (arith, none, some', here)))
    (λ under. omega (arith, under))

-- ---- all in all: it does nothing to them, makes one act, or enters one reading or mark
abbrev pub AllKept : TableState → TableState → Type 0
AllKept s t = (a : ℕ) (done : List Reading) → HasRecord a s done → HasRecord a t done

-- readers that come have empty records
abbrev pub AllNew : (l : Layout) (s t : TableState) → Ruled l s → Ruled l t → Type 0
AllNew l s t r r' = (a : ℕ) → r.tally.readers ≤ a → a < r'.tally.readers → HasRecord a t []

pub data OneMove (l : Layout) (s t : TableState) (r : Ruled l s) (r' : Ruled l t) : Type 0 where
  nothing : r.tally.readers ≤ r'.tally.readers → r'.log ≡ r.log → AllNew l s t r r' → AllKept s t → OneMove l s t r r'
  one_act : (m : Made) (seat : ℕ) (note : Note) → get_elem? s.views seat ≡ some (writer_view l r.log r.tally) → t.views ≡ set s.views seat (writer_view l (r.log ++ m ∷ []) (with_note r.tally note)) → r'.log ≡ r.log ++ m ∷ [] → IsHonest l s m →
      r'.tally.readers ≡ r.tally.readers → AllKept s t → OneMove l s t r r'
  one_entry : (a : ℕ) (done : List Reading) (e : Reading) (x : AddsEntry l s t r.log e) → x.done ≡ done → x.number ≡ a → HasRecord a s done → HasRecord a t (done ++ e ∷ []) → r'.log ≡ r.log → r'.tally.readers ≡ r.tally.readers →
      ((b : ℕ) (d : List Reading) → b ≢ a → HasRecord b s d → HasRecord b t d) → OneMove l s t r r'

by_log : {l : Layout} {s t : TableState} {r : Ruled l s} {r' : Ruled l t} → r'.tally.readers ≡ r.tally.readers → AllKept s t → LogStep l s t r r' → OneMove l s t r r'
by_log same kept (rests e) = nothing (omega (arith, same)) e (λ a over under. absurd (omega (arith, same, over, under))) kept
by_log same kept (grows m seat note knows step e honest) = one_act m seat note knows step e honest same kept

-- one reader is on a seat
one_seated : (a b : ℕ) (u : Role) → seated_in a u ≡ 1 → seated_in b u ≡ 1 → a ≡ b
one_seated a b Spent one two = absurd (omega (arith, one))
one_seated a b (Writes acts tally) one two = absurd (omega (arith, one))
one_seated a b (Reads number front done) one two = sym (is_hit number a one) ∙ is_hit number b two
one_seated a b (Both acts tally number front done) one two = sym (is_hit number a one) ∙ is_hit number b two

module _ (l : Layout) (s t : TableState) (r : Ruled l s) (r' : Ruled l t) (k : ℕ) (v w : View) (mine : get_elem? s.views k ≡ some v) (next : t.views ≡ set s.views k w) where
  here : get_elem? t.views k ≡ some w
  here = ap (λ (vs : List View). get_elem? vs k) next ∙ set_here s.views k w (got_below s.views k v mine)

  there : (j : ℕ) → j ≢ k → get_elem? t.views j ≡ get_elem? s.views j
  there j n = ap (λ (vs : List View). get_elem? vs j) next ∙ set_else s.views k j w n

  seats_change : (a : ℕ) → seats_of a t.views + seated_in a v.role ≡ seats_of a s.views + seated_in a w.role
  seats_change a = ap (λ (vs : List View). seats_of a vs + seated_in a v.role) next ∙ total_set (λ (u : View). seated_in a u.role) s.views k v w mine

  knew : (acts_of r.writer.0 ≡ r.log) × (tally_of r.writer.0 ≡ r.tally) × (r.at ≡ r.at)
  knew = log_is l s r r.at r.writer.0 r.writer.1 r.writer.2

  -- where the writer's view stays, all acts do
  unchanged : get_elem? t.views r.at ≡ some r.writer.0 → (r'.log ≡ r.log) × (r'.tally ≡ r.tally) × (r.at ≡ r'.at)
  unchanged e = let x = log_is l t r' r.at r.writer.0 e r.writer.2 in (sym x.0 ∙ knew.0, sym x.1 ∙ knew.1, x.2)

  away : r.at ≢ k → (r'.log ≡ r.log) × (r'.tally ≡ r.tally) × (r.at ≡ r'.at)
  away n = unchanged (there r.at n ∙ r.writer.1)

  writer_here : r.at ≡ k → r.writer.0 ≡ v
  writer_here e = some-injective _ _ (sym r.writer.1 ∙ (ap (λ (n : ℕ). get_elem? s.views n) e ∙ mine))

  -- the writer's seat stays the writer's
  not_lost : r.at ≡ k → (IsWriters w.role → ⊥) → ⊥
  not_lost e none = dite (ℕ_discrete r'.at k)
      (λ same. none (subst (λ (x : View). IsWriters x.role) (some-injective _ _ (sym r'.writer.1 ∙ (ap (λ (n : ℕ). get_elem? t.views n) same ∙ here))) r'.writer.2))
      (λ other. other ((log_is l s r r'.at r'.writer.0 (sym (there r'.at other) ∙ r'.writer.1) r'.writer.2).2 ∙ e))

  -- no reader is dropped
  not_dropped : (a : ℕ) → r'.tally.readers ≡ r.tally.readers → seated_in a v.role ≡ 1 → seated_in a w.role ≡ 0 → ⊥
  not_dropped a same was none =
      let below = is_reader l s r k a v mine was in
      let one = r.single a below in
      let one' = r'.single a (omega (arith, below, same)) in
      omega (arith, one, one', seats_change a, was, none)

  -- the writer's view after an act
  acted : (m : Made) (note : Note) → w ≡ writer_view v.layout (acts_of v ++ m ∷ []) (with_note (tally_of v) note) → (v.layout ≡ l) × (k ≡ r'.at) × (acts_of v ++ m ∷ [] ≡ r'.log) × (with_note (tally_of v) note ≡ r'.tally)
  acted m note e = subst (λ (x : View). FitsRole l x.layout r'.log r'.tally r'.at k x.role) e (r'.views k w here)

  acted_at : (m : Made) (note : Note) → w ≡ writer_view v.layout (acts_of v ++ m ∷ []) (with_note (tally_of v) note) → r.at ≡ k
  acted_at m note e = dite (ℕ_discrete r.at k) (λ y. y) (λ n. (away n).2 ∙ sym (acted m note e).1)

  pub readers_turn : Turn l s v w → r'.tally.readers ≡ r.tally.readers
  readers_turn (stays e) = dite (ℕ_discrete r.at k)
      (λ y. ap (λ (x : Tally). x.readers) (unchanged (ap (λ (n : ℕ). get_elem? t.views n) y ∙ (here ∙ ap some (e ∙ sym (writer_here y))))).1)
      (λ n. ap (λ (x : Tally). x.readers) (away n).1)
  readers_turn (made m note e honest) =
      let y = acted_at m note e in
      let was : tally_of v ≡ r.tally = ap tally_of (sym (writer_here y)) ∙ knew.1 in
      ap (λ (x : Tally). x.readers) (sym (acted m note e).3) ∙ ap (λ (x : Tally). x.readers) was
  readers_turn (entered new x e) = dite (ℕ_discrete r.at k)
      (λ y. absurd (not_lost y (λ is. subst (λ (u : View). IsWriters u.role) e is)))
      (λ n. ap (λ (x : Tally). x.readers) (away n).1)

  pub log_turn : Turn l s v w → LogStep l s t r r'
  log_turn (stays e) = dite (ℕ_discrete r.at k)
      (λ y. rests (unchanged (ap (λ (n : ℕ). get_elem? t.views n) y ∙ (here ∙ ap some (e ∙ sym (writer_here y))))).0)
      (λ n. rests (away n).0)
  log_turn (made m note e honest) =
      let y = acted_at m note e in
      let same : r.writer.0 ≡ v = writer_here y in
      let a = acted m note e in
      let acts_was : acts_of v ≡ r.log = ap acts_of (sym same) ∙ knew.0 in
      let tally_was : tally_of v ≡ r.tally = ap tally_of (sym same) ∙ knew.1 in
      let is : IsWriters v.role = subst (λ (x : View). IsWriters x.role) same r.writer.2 in
      ⊎_elim
      (λ (plain : v ≡ writer_view l r.log r.tally).
      grows m k note (mine ∙ ap some plain)
      (next ∙ ap (λ (x : View). set s.views k x) (e ∙ (λ i. writer_view (a.0 i) (acts_was i ++ m ∷ []) (with_note (tally_was i) note))))
      (sym a.2 ∙ ap (λ (x : List Made). x ++ m ∷ []) acts_was)
      honest)
      (λ (joined : (n : ℕ) × (seated_in n v.role ≡ 1)). absurd (not_dropped joined.0 (readers_turn (made m note e honest)) joined.1 (ap (λ (x : View). seated_in joined.0 x.role) e)))
      (writer_is l v.layout r.log r.tally r.at k v.role is (r.views k v mine))
  log_turn (entered new x e) = dite (ℕ_discrete r.at k)
      (λ y. absurd (not_lost y (λ is. subst (λ (u : View). IsWriters u.role) e is)))
      (λ n. rests (away n).0)

  -- a reader that is on another seat stays there
  record_away : (a : ℕ) (done : List Reading) (h : HasRecord a s done) → h.seat ≢ k → HasRecord a t done
  record_away a done h n = record { seat = h.seat; view = h.view; mine = there h.seat n ∙ h.mine; reader = h.reader; is = h.is }

  -- a record stays if it does where the seat is its reader's
  record_keeps : (a : ℕ) (done : List Reading) → (seated_in a v.role ≡ 1 → (seated_in a w.role ≡ 1) × (done_of w ≡ done_of v)) → HasRecord a s done → HasRecord a t done
  record_keeps a done kept h = dite (ℕ_discrete h.seat k)
      (λ y.
      let same : h.view ≡ v = some-injective _ _ (sym h.mine ∙ (ap (λ (n : ℕ). get_elem? s.views n) y ∙ mine)) in
      let x = kept (ap (λ (u : View). seated_in a u.role) (sym same) ∙ h.reader) in
      record { seat = k; view = w; mine = here; reader = x.0; is = x.1 ∙ (ap done_of (sym same) ∙ h.is) })
      (λ n. record_away a done h n)

  stays_keeps : (a : ℕ) (done : List Reading) → w ≡ v → HasRecord a s done → HasRecord a t done
  stays_keeps a done e = record_keeps a done (λ on. (ap (λ (x : View). seated_in a x.role) e ∙ on, ap done_of e))

  made_keeps : (a : ℕ) (done : List Reading) (m : Made) (note : Note) → w ≡ writer_view v.layout (acts_of v ++ m ∷ []) (with_note (tally_of v) note) → IsHonest l s m → HasRecord a s done → HasRecord a t done
  made_keeps a done m note e honest = record_keeps a done (λ on. absurd (not_dropped a (readers_turn (made m note e honest)) on (ap (λ (x : View). seated_in a x.role) e)))

  -- a seat that is entered on is a reader's
  is_entered : (new : List Made) (x : Reading) → w ≡ reader_view v.layout (number_of v) new (done_of v ++ x ∷ []) → r.at ≢ k
  is_entered new x e y = not_lost y (λ is. subst (λ (u : View). IsWriters u.role) e is)

  entered_seat : (new : List Made) (x : Reading) (e : w ≡ reader_view v.layout (number_of v) new (done_of v ++ x ∷ [])) → seated_in (number_of v) v.role ≡ 1
  entered_seat new x e =
      let a = number_of v in
      let on : seated_in a w.role ≡ 1 = ap (λ (u : View). seated_in a u.role) e ∙ hit a in
      let below = is_reader l t r' k a w here on in
      let one = r'.single a below in
      let one' = r.single a (omega (arith, below, readers_turn (entered new x e))) in
      omega (arith, one, one', seats_change a, on)

  -- its record has one entry more
  adds_entry : (a : ℕ) (done : List Reading) (new : List Made) (x : Reading) → w ≡ reader_view v.layout (number_of v) new (done_of v ++ x ∷ []) → seated_in a v.role ≡ 1 → done_of v ≡ done →
      (y : AddsEntry l s t r.log x) × (y.done ≡ done) × (y.number ≡ a) × HasRecord a t (done ++ x ∷ [])
  adds_entry a done new x e seated is = ⊎_elim
      (λ (one : (number : ℕ) × (front : List Made) × (v ≡ reader_view l number front (done_of v)) × (number ≡ a)).
      let layout : v.layout ≡ l = ap (λ (u : View). u.layout) one.2 in
      let number : number_of v ≡ one.0 = ap number_of one.2 in
      let after : w ≡ reader_view l a new (done ++ x ∷ []) = e ∙ (λ i. reader_view (layout i) ((number ∙ one.3) i) new (is i ++ x ∷ [])) in
      let before : v ≡ reader_view l a one.1 done = one.2 ∙ (λ i. reader_view l (one.3 i) one.1 (is i)) in (
        record {
          before = r;
          after = r';
          made = refl;
          seat = k;
          number = a;
          number' = a;
          old = one.1;
          new = new;
          done = done;
          reads = mine ∙ ap some before;
          step = next ∙ ap (λ (u : View). set s.views k u) after;
        },
        refl,
        refl,
        record { seat = k; view = w; mine = here; reader = ap (λ (u : View). seated_in a u.role) after ∙ hit a; is = ap done_of after },
      ))
      (λ (is : IsWriters v.role). absurd (is_entered new x e (sym (log_is l s r k v mine is).2)))
      (reader_is l v.layout r.log r.tally r.at k a v.role seated (r.views k v mine))

  -- so a step does one thing
  pub one_turn : Turn l s v w → OneMove l s t r r'
  one_turn (stays e) = by_log (readers_turn (stays e)) (λ a done h. stays_keeps a done e h) (log_turn (stays e))
  one_turn (made m note e honest) = by_log (readers_turn (made m note e honest)) (λ a done h. made_keeps a done m note e honest h) (log_turn (made m note e honest))
  one_turn (entered new x e) =
      let a = number_of v in
      let on = entered_seat new x e in
      let z = adds_entry a (done_of v) new x e on refl in
      one_entry a (done_of v) x z.0 z.1 z.2 (record { seat = k; view = v; mine = mine; reader = on; is = refl }) z.3 (away (is_entered new x e)).0 (readers_turn (entered new x e))
      (λ b done differs h. record_keeps b done (λ there. absurd (differs (one_seated b a v.role there on))) h)
