-- What cutting a seat and joining two does to the list of acts and to the records: nothing. Which seats they may be follows from the rule.
use mathlib.Core.Logic.{dite}
use native.Mathlib.Decide.{ℕ_discrete}
use Rattle.std.proofs.Common.{◌≡◌, ◌≢◌, ◌⊎◌, ⊎_elim, inl, inr, Bool, eqb, ne_eqb, ℕ, ◌+◌, ◌≤◌, List, [], ◌∷◌, ◌++◌, length, set, refl, ap, sym, ◌∙◌, subst, arith}
use Rattle.std.specs.Prelude.{if◌then◌else◌}
use mathlib.Core.Option.{some, some-injective}
use lib.ListN.{get_elem?}
use Rattle.atomic_table.proofs.Lists.{set_else, set_here, at_longer, at_last}
use Rattle.mc_theory.specs.Lists.{Made}
use Rattle.mc_theory.specs.Readings.{Reading}
use Rattle.mc_shared.specs.Steps.{with_reader_view, new_reader_view, joined_view, writer_part, reader_part}
use Rattle.mc_shared.specs.TableRule.{FitsRole, Ruled, seats_of}
use Rattle.mc_shared.specs.Views.{Tally, Role, Spent, Writes, Reads, Both, View, IsWriters, view_as, writer_view, reader_view, spent_view, acts_of, tally_of, number_of, done_of, seated_in}
use Rattle.mc_shared.specs.declared.layout.Layout.{Layout}
use Rattle.mc_shared.proofs.Coherence.{total_set, total_push}
use Rattle.mc_shared.proofs.EachStep.{got_below}
use Rattle.mc_shared.proofs.ExactSteps.{seat_counts}
use Rattle.mc_executions.specs.Executions.{TableState, IsCut, IsJoined, HasRecord}
use Rattle.mc_executions.proofs.ExecutionSteps.{hit, is_reader, log_is, AllNew, OneMove, nothing}

-- the writer's seat has the writer's view, alone or with a reader's
writer_alone : (l own : Layout) (log : List Made) (all : Tally) (at seat : ℕ) (u : Role) → IsWriters u → FitsRole l own log all at seat u →
    (view_as own u ≡ writer_view l log all) ⊎ ((number : ℕ) × (front : List Made) × (done : List Reading) × (view_as own u ≡ view_as l (Both log all number front done)))
writer_alone l own log all at seat Spent w f = absurd w
writer_alone l own log all at seat (Writes acts tally) w f = inl (λ i. view_as (f.0 i) (Writes (f.2 i) (f.3 i)))
writer_alone l own log all at seat (Reads number front done) w f = absurd w
writer_alone l own log all at seat (Both acts tally number front done) w f = inr (number, front, done, λ i. view_as (f.0 i) (Both (f.2 i) (f.3 i) number front done))

-- a seat that lives and is not the writer's is a reader's
live_reader : (l own : Layout) (log : List Made) (all : Tally) (at seat : ℕ) (u : Role) → ¬ (u ≡ Spent) → ¬ IsWriters u → FitsRole l own log all at seat u →
    (number : ℕ) × (front : List Made) × (done : List Reading) × (view_as own u ≡ reader_view l number front done)
live_reader l own log all at seat Spent lives reads f = absurd (lives refl)
live_reader l own log all at seat (Writes acts tally) lives reads f = absurd (reads tt)
live_reader l own log all at seat (Reads number front done) lives reads f = (number, front, done, λ i. view_as (f.0 i) (Reads number front done))
live_reader l own log all at seat (Both acts tally number front done) lives reads f = absurd (reads tt)

-- a seat that is not the writer's counts no readers
none_counted : (u : View) → ¬ IsWriters u.role → (tally_of u).readers ≡ 0
none_counted u w = by_role u.role w
  where
    by_role : (p : Role) → ¬ IsWriters p → (tally_of (view_as u.layout p)).readers ≡ 0
    by_role Spent w = refl
    by_role (Writes acts tally) w = absurd (w tt)
    by_role (Reads number front done) w = refl
    by_role (Both acts tally number front done) w = absurd (w tt)

is_writers : (p : Role) → (IsWriters p) ⊎ (¬ IsWriters p)
is_writers Spent = inr (λ x. x)
is_writers (Writes acts tally) = inl tt
is_writers (Reads number front done) = inr (λ x. x)
is_writers (Both acts tally number front done) = inl tt

-- no other reader is at a seat with this number
missed : (n a : ℕ) → n ≢ a → ◌≡◌ {A = ℕ} (if eqb n a then 1 else 0) 0
missed n a ne = ap (λ (b : Bool). if◌then◌else◌ {A = ℕ} b 1 0) (ne_eqb n a ne)

-- no reader has a seat on which it does not count
elsewhere : (a k : ℕ) (s : TableState) (done : List Reading) (v : View) (h : HasRecord a s done) → get_elem? s.views k ≡ some v → seated_in a v.role ≡ 0 → h.seat ≢ k
elsewhere a k s done v h at none same =
    let is : h.view ≡ v = some-injective _ _ (sym h.mine ∙ (ap (λ (n : ℕ). get_elem? s.views n) same ∙ at)) in
    let one = ap (λ (x : View). seated_in a x.role) is in
    absurd (omega (arith, h.reader, none, one))

module _ (l : Layout) (s t : TableState) (r : Ruled l s) (r' : Ruled l t) where
  -- there is one writer after a step, too
  one_writer : (k : ℕ) (w : View) → get_elem? t.views r.at ≡ some r.writer.0 → get_elem? t.views k ≡ some w → IsWriters w.role → r.at ≡ k
  one_writer k w mine yours is = (log_is l t r' r.at r.writer.0 mine r.writer.2).2 ∙ sym (log_is l t r' k w yours is).2

  -- ---- cuts
  module _ (k : ℕ) (v left new : View) (mine : get_elem? s.views k ≡ some v) (views : t.views ≡ set s.views k left ++ new ∷ []) where
    at_left : get_elem? t.views k ≡ some left
    at_left = ap (λ (vs : List View). get_elem? vs k) views ∙ at_longer (set s.views k left) (new ∷ []) k left (set_here s.views k left (got_below s.views k v mine))

    at_new : get_elem? t.views (length (set s.views k left)) ≡ some new
    at_new = ap (λ (vs : List View). get_elem? vs (length (set s.views k left))) views ∙ at_last (set s.views k left) new (length (set s.views k left)) refl

    at_other : (j : ℕ) (u : View) → j ≢ k → get_elem? s.views j ≡ some u → get_elem? t.views j ≡ some u
    at_other j u n e = ap (λ (vs : List View). get_elem? vs j) views ∙ at_longer (set s.views k left) (new ∷ []) j u (set_else s.views k j left n ∙ e)

    seats_cut : (a : ℕ) → seats_of a t.views + seated_in a v.role ≡ seats_of a s.views + seated_in a left.role + seated_in a new.role
    seats_cut a =
        let f : View → ℕ = λ (u : View). seated_in a u.role in
        let one = total_set f s.views k v left mine in
        let two = total_push f (set s.views k left) new in
        let all : seats_of a t.views ≡ seats_of a (set s.views k left ++ new ∷ []) = ap (seats_of a) views in
        omega (arith, one, two, all)

    -- the writer's seat alone can be cut so that the first part is a writer's
    cut_writer : IsWriters left.role → (v ≡ writer_view l r.log r.tally) ⊎ ((number : ℕ) × (front : List Made) × (done : List Reading) × (v ≡ view_as l (Both r.log r.tally number front done)))
    cut_writer is =
        let here : r.at ≡ k = dite (ℕ_discrete r.at k) (λ y. y) (λ n. one_writer k left (at_other r.at r.writer.0 n r.writer.1) at_left is) in
        let same : r.writer.0 ≡ v = some-injective _ _ (sym r.writer.1 ∙ (ap (λ (n : ℕ). get_elem? s.views n) here ∙ mine)) in
        writer_alone l v.layout r.log r.tally r.at k v.role (subst (λ (x : View). IsWriters x.role) same r.writer.2) (r.views k v mine)

    -- what is known where the record of no reader changes
    moves_cut : r.tally.readers ≤ r'.tally.readers → r'.log ≡ r.log → AllNew l s t r r' → ((a : ℕ) → seated_in a v.role ≡ 1 → (seated_in a new.role ≡ 1) × (done_of new ≡ done_of v)) → OneMove l s t r r'
    moves_cut more log fresh kept = nothing more log fresh (λ a done h. dite (ℕ_discrete h.seat k)
        (λ e.
        let is : h.view ≡ v = some-injective _ _ (sym h.mine ∙ (ap (λ (n : ℕ). get_elem? s.views n) e ∙ mine)) in
        let x = kept a (ap (λ (u : View). seated_in a u.role) (sym is) ∙ h.reader) in
        record { seat = length (set s.views k left); view = new; mine = at_new; reader = x.0; is = x.1 ∙ (ap done_of (sym is) ∙ h.is) })
        (λ n. record { seat = h.seat; view = h.view; mine = at_other h.seat h.view n h.mine; reader = h.reader; is = h.is }))

  -- a new reader is split off the writer: no reader is joined to it, for that one would be dropped
  pub moves_seated : IsCut with_reader_view new_reader_view s t → OneMove l s t r r'
  moves_seated p =
      let v = p.v in
      let left : View = with_reader_view v in
      let new : View = new_reader_view v in
      let views : t.views ≡ set s.views p.seat left ++ new ∷ [] = ap (λ (z : TableState). z.views) p.next in
      let after = log_is l t r' p.seat left (at_left p.seat v left new p.mine views) tt in
      let before : (acts_of v ≡ r.log) × (tally_of v ≡ r.tally) = ⊎_elim
      (λ alone. (ap acts_of alone, ap tally_of alone))
      (λ joined. (ap acts_of joined.3, ap tally_of joined.3))
      (cut_writer p.seat v left new p.mine views tt) in
      let more : r'.tally.readers ≡ r.tally.readers + 1 = ap (λ (z : Tally). z.readers) (sym after.1) ∙ ap (λ (z : Tally). z.readers + 1) before.1 in
      moves_cut p.seat v left new p.mine views (omega (arith, more)) (sym after.0 ∙ before.0)
      (λ a over under.
      let number : (tally_of v).readers ≡ a = omega (arith, more, over, under, ap (λ (z : Tally). z.readers) before.1) in
      record { seat = length (set s.views p.seat left); view = new; mine = at_new p.seat v left new p.mine views; reader = ap (λ (n : ℕ). seated_in a (reader_view v.layout n [] []).role) number ∙ hit a; is = refl })
      (λ a here. ⊎_elim
      (λ alone. let zero = ap (λ (u : View). seated_in a u.role) alone in absurd (omega (arith, here, zero)))
      (λ joined.
      let below = is_reader l s r p.seat a v p.mine here in
      let one = r.single a below in
      let two = r'.single a (omega (arith, below, more)) in
      let counts = seats_cut p.seat v left new p.mine views a in
      let number : (tally_of v).readers ≢ a = λ e. omega (arith, e, below, ap (λ (z : Tally). z.readers) before.1) in
      absurd (omega (arith, one, two, counts, here, missed (tally_of v).readers a number)))
      (cut_writer p.seat v left new p.mine views tt))

  -- a reader is split off the writer again: one is joined to it, for otherwise reader 0 would be there twice
  pub moves_parted : IsCut writer_part reader_part s t → OneMove l s t r r'
  moves_parted p =
      let v = p.v in
      let left : View = writer_part v in
      let new : View = reader_part v in
      let views : t.views ≡ set s.views p.seat left ++ new ∷ [] = ap (λ (z : TableState). z.views) p.next in
      let after = log_is l t r' p.seat left (at_left p.seat v left new p.mine views) tt in
      ⊎_elim
      (λ alone.
      let same : r'.tally.readers ≡ r.tally.readers = ap (λ (z : Tally). z.readers) (sym after.1 ∙ ap tally_of alone) in
      let counts = seats_cut p.seat v left new p.mine views 0 in
      let none = ap (λ (u : View). seated_in 0 u.role) alone in
      let zero = ap (λ (u : View). number_of u) alone in
      let new_here : seated_in 0 new.role ≡ 1 = ap (λ (n : ℕ). seated_in 0 (reader_view v.layout n (acts_of v) (done_of v)).role) zero ∙ hit 0 in
      dite (ℕ_discrete r.tally.readers 0)
      (λ e. let nobody = r.unseated 0 (omega (arith, e)) in let still = r'.unseated 0 (omega (arith, e, same)) in absurd (omega (arith, nobody, still, counts, none, new_here)))
      (λ n. let one = r.single 0 (omega (arith, n)) in let still = r'.single 0 (omega (arith, n, same)) in absurd (omega (arith, one, still, counts, none, new_here))))
      (λ joined.
      let same : r'.tally.readers ≡ r.tally.readers = ap (λ (z : Tally). z.readers) (sym after.1 ∙ ap tally_of joined.3) in
      moves_cut p.seat v left new p.mine views (omega (arith, same)) (sym after.0 ∙ ap acts_of joined.3) (λ a over under. absurd (omega (arith, same, over, under)))
      (λ a here. (ap (λ (u : View). seated_in a (reader_part u).role) joined.3 ∙ (ap (λ (u : View). seated_in a u.role) (sym joined.3) ∙ here), refl)))
      (cut_writer p.seat v left new p.mine views tt)

  -- ---- joins
  module _ (p : IsJoined s t) where
    abbrev both : View
    both = joined_view p.v p.w

    joined_views : t.views ≡ set (set s.views p.seat both) p.other spent_view
    joined_views = ap (λ (z : TableState). z.views) p.next

    at_both : get_elem? t.views p.seat ≡ some both
    at_both = ap (λ (vs : List View). get_elem? vs p.seat) joined_views ∙ (set_else (set s.views p.seat both) p.other p.seat spent_view (λ e. p.apart (sym e)) ∙ set_here s.views p.seat both (got_below s.views p.seat p.v p.mine))

    at_third : (j : ℕ) (u : View) → j ≢ p.seat → j ≢ p.other → get_elem? s.views j ≡ some u → get_elem? t.views j ≡ some u
    at_third j u n o e = ap (λ (vs : List View). get_elem? vs j) joined_views ∙ (set_else (set s.views p.seat both) p.other j spent_view o ∙ (set_else s.views p.seat j both n ∙ e))

    seats_join : (a : ℕ) → seats_of a t.views + seated_in a p.v.role + seated_in a p.w.role ≡ seats_of a s.views + seated_in a both.role
    seats_join a =
        let f : View → ℕ = λ (u : View). seated_in a u.role in
        let one = total_set f s.views p.seat p.v both p.mine in
        let there : get_elem? (set s.views p.seat both) p.other ≡ some p.w = set_else s.views p.seat p.other both p.apart ∙ p.yours in
        let two = total_set f (set s.views p.seat both) p.other p.w spent_view there in
        let all : seats_of a t.views ≡ seats_of a (set (set s.views p.seat both) p.other spent_view) = ap (seats_of a) joined_views in
        omega (arith, one, two, all)

    -- the seat that takes in the other is the writer's: it is a writer's afterwards, and counts the readers
    join_writer : r.at ≡ p.seat
    join_writer = dite (ℕ_discrete r.at p.seat) (λ y. y) (λ n. dite (ℕ_discrete r.at p.other)
        (λ o. ⊎_elim
        (λ is. absurd (n (sym (log_is l s r p.seat p.v p.mine is).2)))
        (λ reads.
        let after = log_is l t r' p.seat both at_both tt in
        let none : r'.tally.readers ≡ 0 = ap (λ (z : Tally). z.readers) (sym after.1) ∙ none_counted p.v reads in
        let nobody = r'.unseated (number_of p.w) (omega (arith, none)) in
        let some' = seat_counts (number_of p.w) t.views p.seat both at_both in
        absurd (omega (arith, nobody, some', hit (number_of p.w))))
        (is_writers p.v.role))
        (λ o. one_writer p.seat both (at_third r.at r.writer.0 n o r.writer.1) at_both tt))

    v_is : r.writer.0 ≡ p.v
    v_is = some-injective _ _ (sym r.writer.1 ∙ (ap (λ (n : ℕ). get_elem? s.views n) join_writer ∙ p.mine))

    v_writes : IsWriters p.v.role
    v_writes = subst (λ (x : View). IsWriters x.role) v_is r.writer.2

    -- so the other is a reader's
    w_reads : (number : ℕ) × (front : List Made) × (done : List Reading) × (p.w ≡ reader_view l number front done)
    w_reads = live_reader l p.w.layout r.log r.tally r.at p.other p.w.role p.lives (λ is. p.apart ((log_is l s r p.other p.w p.yours is).2 ∙ join_writer)) (r.views p.other p.w p.yours)

    w_here : (a : ℕ) → seated_in a both.role ≡ seated_in a p.w.role
    w_here a = ap (λ (u : View). seated_in a (joined_view p.v u).role) w_reads.3 ∙ ap (λ (u : View). seated_in a u.role) (sym w_reads.3)

    known : (acts_of p.v ≡ r.log) × (tally_of p.v ≡ r.tally)
    known = let x = log_is l s r p.seat p.v p.mine v_writes in (x.0, x.1)

    -- and no reader was joined to the writer: it would be dropped
    v_alone : (a : ℕ) → seated_in a p.v.role ≡ 0
    v_alone a = ⊎_elim
        (λ alone. ap (λ (u : View). seated_in a u.role) alone)
        (λ (joined : (number : ℕ) × (front : List Made) × (done : List Reading) × (p.v ≡ view_as l (Both r.log r.tally number front done))).
        let n = joined.0 in
        let on : seated_in n p.v.role ≡ 1 = ap (λ (u : View). seated_in n u.role) joined.3 ∙ hit n in
        let below = is_reader l s r p.seat n p.v p.mine on in
        let after = log_is l t r' p.seat both at_both tt in
        let same : r'.tally.readers ≡ r.tally.readers = ap (λ (z : Tally). z.readers) (sym after.1 ∙ known.1) in
        let one = r.single n below in
        let still = r'.single n (omega (arith, below, same)) in
        absurd (omega (arith, one, still, seats_join n, on, w_here n)))
        (writer_alone l p.v.layout r.log r.tally r.at p.seat p.v.role v_writes (r.views p.seat p.v p.mine))

    pub moves_joined : OneMove l s t r r'
    moves_joined =
        let after = log_is l t r' p.seat both at_both tt in
        let same : r'.tally.readers ≡ r.tally.readers = ap (λ (z : Tally). z.readers) (sym after.1 ∙ known.1) in
        nothing (omega (arith, same)) (sym after.0 ∙ known.0) (λ a over under. absurd (omega (arith, same, over, under))) (λ a done h.
        let n = elsewhere a p.seat s done p.v h p.mine (v_alone a) in
        dite (ℕ_discrete h.seat p.other)
        (λ e.
        let is : h.view ≡ p.w = some-injective _ _ (sym h.mine ∙ (ap (λ (n : ℕ). get_elem? s.views n) e ∙ p.yours)) in
        record { seat = p.seat; view = both; mine = at_both; reader = w_here a ∙ (ap (λ (u : View). seated_in a u.role) (sym is) ∙ h.reader); is = ap done_of (sym is) ∙ h.is })
        (λ o. record { seat = h.seat; view = h.view; mine = at_third h.seat h.view n o h.mine; reader = h.reader; is = h.is }))
