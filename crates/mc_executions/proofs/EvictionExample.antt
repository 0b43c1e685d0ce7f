-- The example of an eviction, step by step.
use Rattle.std.proofs.Common.{ℕ, List, [], ◌∷◌, ◌++◌, set, refl, ap, arith}
use Rattle.std.specs.Prelude.{slice_get}
use lib.ListN.{get_elem?}
use Rattle.atomic_table.specs.Table.{opening as table_opening}
use Rattle.mc_words.specs.declared.policy.Policy.TheVariants.{Clock}
use Rattle.mc_words.specs.declared.history.Reply.TheVariants.{Absent}
use Rattle.mc_words.specs.History.{map_value}
use Rattle.mc_words.specs.Keys.{mixed_key, stripe_of, slot_word}
use Rattle.mc_words.specs.Places.{payload, moment, version, slot, with_moment, with_version, with_slot, with_item, item}
use Rattle.mc_words.specs.Recency.{recency_word, recency_words}
use Rattle.mc_words.specs.Standing.{Stands}
use Rattle.mc_theory.specs.Acts.{IsAllowed}
use Rattle.mc_theory.specs.Lists.{Made, state_of, IsLawful}
use Rattle.mc_theory.specs.States.{opening}
use Rattle.mc_theory.specs.declared.act.Act.TheVariants.{Open, Slot, Item, Moment, Close, Hand}
use Rattle.mc_theory.specs.declared.act.Deed.TheVariants as deed
use Rattle.mc_theory.proofs.Lists.Fronts.{lawful_none, lawful_push}
use Rattle.mc_shared.specs.SeatPlays.{seats}
use Rattle.mc_shared.specs.Views.{View, tally_for, writer_view, reader_view, new_writer_view, spent_view, with_bit}
use Rattle.mc_shared.proofs.CutSeats.{splits_new}
use Rattle.mc_shared.proofs.ReaderRecords.{front_self}
use Rattle.mc_executions.specs.EvictionExample.{EvictedThenMet, evicted}
use Rattle.mc_executions.specs.Example.{small, first_slot, put_opens, put_whole}
use Rattle.mc_executions.specs.Executions.{TableState, IsExecution, HasActs}
use Rattle.mc_executions.specs.TimedLookups.{HoldsNow}
use Rattle.mc_executions.proofs.ClearVictims.{victims_were_clear}
use Rattle.mc_executions.proofs.Example.{l, words, keyed, filled, stamped, placed, dated, opens, keys, fills, stamps, places, dates, may_open, may_key, may_fill, may_stamp, may_place, may_date, may_close, may_make}
use Rattle.mc_executions.proofs.ExecutionRuns.{acts_are}
use Rattle.mc_executions.proofs.ExecutionSteps.{hit}
use Rattle.mc_executions.proofs.GrownExecutions.{executions_grow}
use Rattle.mc_executions.proofs.RunningSteps.{each_is_a_step}
use Rattle.mc_executions.proofs.TimedLookups.{history_of, now_timed}
use Rattle.mc_executions.proofs.Scenes.{Scene, Written, goes_on, writes, looks, meets}

-- ---- each act is allowed
abbrev pub passed : List Made
passed = put_whole ++ with_bit (Hand 0) 0 ∷ []

abbrev pub going : List Made
going = passed ++ with_bit (Open 0 deed.Evict) 0 ∷ []

abbrev pub cleared : List Made
cleared = going ++ with_bit (Slot first_slot 0) 0 ∷ []

abbrev pub gone : List Made
gone = cleared ++ with_bit Moment 0 ∷ []

-- the words before the recency words, while key 0 stands
stands : (turn : ℕ) → Stands 1 small (1 ∷ turn ∷ 1 ∷ 0 ∷ 0 ∷ 0 ∷ 0 ∷ 0 ∷ 0 ∷ 0 ∷ 0 ∷ 7 ∷ 1 ∷ []) 0 0 0
unfolding slot slot_word payload item
stands turn = record { names = record { tag = 0; in_table = omega arith; in_items = omega arith; is_tag = omega arith; word = refl }; key = refl }

may_look : IsAllowed small (state_of 1 small put_whole) (Hand 0)
unfolding state_of opening mixed_key stripe_of payload moment version with_version with_item with_slot with_moment
may_look = omega arith

may_evict : IsAllowed small (state_of 1 small passed) (Open 0 deed.Evict)
unfolding state_of opening mixed_key stripe_of payload moment version with_version with_item with_slot with_moment
may_evict = (omega arith, (0, 0, stands 2, refl))

may_clear : IsAllowed small (state_of 1 small going) (Slot first_slot 0)
unfolding state_of opening mixed_key stripe_of payload moment version with_version with_item with_slot with_moment
may_clear = (omega arith, refl, (0, stands 3))

may_count : IsAllowed small (state_of 1 small cleared) Moment
unfolding state_of opening
may_count = tt

may_end : IsAllowed small (state_of 1 small gone) Close
unfolding state_of opening
may_end = tt

put_lawful : IsLawful 1 small put_whole
put_lawful = lawful_push 1 small dated (with_bit Close 0) dates may_close

look_lawful : IsLawful 1 small passed
look_lawful = lawful_push 1 small put_whole (with_bit (Hand 0) 0) put_lawful may_look

evict_lawful : IsLawful 1 small going
evict_lawful = lawful_push 1 small passed (with_bit (Open 0 deed.Evict) 0) look_lawful may_evict

clear_lawful : IsLawful 1 small cleared
clear_lawful = lawful_push 1 small going (with_bit (Slot first_slot 0) 0) evict_lawful may_clear

count_lawful : IsLawful 1 small gone
count_lawful = lawful_push 1 small cleared (with_bit Moment 0) clear_lawful may_count

-- ---- two readers are seated
seated : Written l 2 (words 0 0 0 0 0) []
unfolding payload recency_words
seated =
    let ws : List ℕ = words 0 0 0 0 0 in
    let states : ℕ → TableState = λ n. table_opening ws [] (new_writer_view l) in
    let run : IsExecution l states = (executions_grow l).begin ws refl in
    let none : Scene l 0 ws (new_writer_view l ∷ []) = record { states = states; run = run; words = refl; homes = refl; views_are = refl } in
    let x = (each_is_a_step l).cuts seats (none.states 0) 0 (new_writer_view l) (splits_new l 0 0) (none.run.ruled 0) refl in
    let one : Scene l 1 ws (writer_view l [] (tally_for 1) ∷ reader_view l 0 [] [] ∷ []) =
    goes_on l 0 ws (new_writer_view l ∷ []) none (record { words = ws; homes = []; views = writer_view l [] (tally_for 1) ∷ reader_view l 0 [] [] ∷ [] }) x.0 x.1 ws (writer_view l [] (tally_for 1) ∷ reader_view l 0 [] [] ∷ []) refl refl refl in
    let s : TableState = one.states 1 in
    let here = ap (λ (z : List View). get_elem? z 0) one.views_are in
    let y = (each_is_a_step l).cuts seats s 0 (writer_view l [] (tally_for 1)) (splits_new l 0 1) (one.run.ruled 1) here in
    let left : View = writer_view l [] (tally_for 2) in
    record {
      tally = tally_for 2;
      scene = goes_on l 1 ws (writer_view l [] (tally_for 1) ∷ reader_view l 0 [] [] ∷ []) one (record { words = s.words; homes = s.homes; views = set s.views 0 left ++ reader_view l 1 [] [] ∷ [] }) y.0 y.1 ws (left ∷ reader_view l 0 [] [] ∷ reader_view l 1 [] [] ∷ [])
          one.words one.homes (ap (λ (z : List View). set z 0 left ++ reader_view l 1 [] [] ∷ []) one.views_are);
    }

-- ---- the put
put_done : Written l 9 (words 1 2 1 7 1) put_whole
unfolding state_of opening mixed_key stripe_of payload moment version recency_words with_version with_item with_slot with_moment
put_done =
    let a = writes l 2 (words 0 0 0 0 0) [] seated (Open 0 deed.Fill) 1 1 tt (may_make [] (Open 0 deed.Fill) (lawful_none 1 small) may_open (omega arith)) refl (omega arith) in
    let b = writes l 3 (words 0 1 0 0 0) put_opens a (Item 0 0 0) 10 0 tt (may_make put_opens (Item 0 0 0) opens may_key (omega arith)) refl (omega arith) in
    let c = writes l 4 (words 0 1 0 0 0) keyed b (Item 0 1 7) 11 7 tt (may_make keyed (Item 0 1 7) keys may_fill (omega arith)) refl (omega arith) in
    let d = writes l 5 (words 0 1 0 7 0) filled c (Item 0 2 1) 12 1 tt (may_make filled (Item 0 2 1) fills may_stamp (omega arith)) refl (omega arith) in
    let e = writes l 6 (words 0 1 0 7 1) stamped d (Slot first_slot 1) 2 1 tt (may_make stamped (Slot first_slot 1) stamps may_place (omega arith)) refl (omega arith) in
    let f = writes l 7 (words 0 1 1 7 1) placed e Moment 0 1 tt (may_make placed Moment places may_date (omega arith)) refl (omega arith) in
    writes l 8 (words 1 1 1 7 1) dated f Close 1 2 tt (may_make dated Close dates may_close (omega arith)) refl (omega arith)

-- ---- the hand, and the eviction
looked_at : Written l 10 (words 1 2 1 7 1) passed
unfolding state_of opening mixed_key stripe_of payload moment version recency_word with_version with_item with_slot with_moment
looked_at = looks l 9 (words 1 2 1 7 1) put_whole put_done 0 (may_make put_whole (Hand 0) put_lawful may_look (omega arith)) refl

evict_done : Written l 14 (words 2 4 0 7 1) evicted
unfolding state_of opening mixed_key stripe_of payload moment version recency_words with_version with_item with_slot with_moment
evict_done =
    let a = writes l 10 (words 1 2 1 7 1) passed looked_at (Open 0 deed.Evict) 1 3 tt (may_make passed (Open 0 deed.Evict) look_lawful may_evict (omega arith)) refl (omega arith) in
    let b = writes l 11 (words 1 3 1 7 1) going a (Slot first_slot 0) 2 0 tt (may_make going (Slot first_slot 0) evict_lawful may_clear (omega arith)) refl (omega arith) in
    let c = writes l 12 (words 1 3 0 7 1) cleared b Moment 0 2 tt (may_make cleared Moment clear_lawful may_count (omega arith)) refl (omega arith) in
    writes l 13 (words 2 3 0 7 1) gone c Close 1 4 tt (may_make gone Close count_lawful may_end (omega arith)) refl (omega arith)

-- ---- the meeting
met : Scene l 17 (words 2 4 0 7 1) (writer_view l evicted evict_done.tally ∷ reader_view l 0 [] [] ∷ spent_view ∷ reader_view l 1 evicted [] ∷ [])
unfolding payload
met = meets l 14 (words 2 4 0 7 1) evicted evict_done (omega arith) (omega arith)

-- ---- the lookup beside the writer
holds_none : HoldsNow (state_of 1 small evicted).history 0 (Absent 2)
unfolding state_of opening mixed_key stripe_of payload moment version with_version with_item with_slot with_moment map_value
holds_none = (refl, refl)

pub evicted_then_met : EvictedThenMet
evicted_then_met =
    let acts : HasActs (met.states 17) evicted = record { seat = 0; view = writer_view l evicted evict_done.tally; mine = ap (λ (z : List View). get_elem? z 0) met.views_are; writer = tt; is = refl } in
    record {
      states = met.states;
      run = met.run;
      j = 17;
      acts = acts;
      first = λ of. record { seat = 1; view = reader_view l 0 [] []; mine = ap (λ (z : List View). get_elem? z 1) met.views_are; reader = hit 0; front = refl; is = refl };
      second = λ of. record { seat = 3; view = reader_view l 1 evicted []; mine = ap (λ (z : List View). get_elem? z 3) met.views_are; reader = hit 1; front = refl; is = refl };
      looked = λ of. record { of = refl; number = refl; begins = front_self evicted; front = refl; replies = (holds_none.0, holds_none.1, refl) };
      timed = now_timed 1 small met.states met.run 17 0 (state_of 1 small evicted).history (Absent 2) (history_of 1 small met.states met.run 17 evicted acts) holds_none;
      victim = victims_were_clear 1 Clock small met.states met.run 17 8 0 0 (ap (λ (z : List Made). slice_get z 8) (acts_are l met.states met.run 17 evicted acts));
    }
