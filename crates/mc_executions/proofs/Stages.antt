-- Executions that are written out, one step after the other: each stage says what the words and two seats are by then.
use Rattle.std.proofs.Common.{◌≡◌, ℕ, suc, ◌<◌, ◌≤◌, ◌^◌, List, [], ◌∷◌, ◌++◌, length, get_or, set, refl, ap, sym, ◌∙◌, subst, arith, Some}
use mathlib.Core.Option.{Option, none, some, some-ne-none}
use lib.ListN.{get_elem?}
use Rattle.std.specs.Int.RustNames.{bit_or}
use lib.Seq.{set-get_or}
use Rattle.atomic_table.specs.Table.{Act as TableAct, keeps, takes, gives, chain, homes_after, carried_after, Valid, step, stepped}
use Rattle.atomic_table.proofs.Lists.{set_else, set_here}
use Rattle.mc_words.specs.Places.{word_count, recency_place}
use Rattle.mc_theory.specs.Lists.{Made}
use Rattle.mc_theory.specs.Readings.{Reading}
use Rattle.mc_theory.specs.Writes.{place_read}
use Rattle.mc_theory.specs.declared.access.Access.{Access}
use Rattle.mc_theory.specs.declared.access.Access.TheVariants as access
use Rattle.mc_theory.specs.declared.act.Act.{Act}
use Rattle.mc_shared.specs.ExactFronts.{StandsAt}
use Rattle.mc_shared.specs.Inside.Seats.{MayMake}
use Rattle.mc_shared.specs.Inside.Steps.{WritesAt, IsOffBits, only}
use Rattle.mc_shared.specs.SeatPlays.{makes, marks, reads}
use Rattle.mc_shared.specs.Steps.{SeatView, reading, mark_at}
use Rattle.mc_shared.specs.TableRule.{Ruled}
use Rattle.mc_shared.specs.Views.{Tally, View, writer_view, reader_view, front_of, with_bit, with_note}
use Rattle.mc_shared.specs.declared.layout.Layout.{Layout}
use Rattle.mc_shared.proofs.EachStep.{got_below, stores_as, reads_one, marks_one}
use Rattle.mc_shared.proofs.SeatSteps.{off_stored, stored_bit}
use Rattle.mc_shared.proofs.ExactReadings.{readings_are_newest, reads_are_entries}
use Rattle.mc_shared.proofs.RecencySteps.{store_bits, store_past}
use Rattle.mc_executions.specs.Executions.{TableState, IsExecution, IsStep, HasRecord, HasActs}
use Rattle.mc_executions.specs.GrownExecutions.{grown}
use Rattle.mc_executions.proofs.ExecutionSteps.{hit, log_is}
use Rattle.mc_executions.proofs.GrownExecutions.{executions_grow}
use Rattle.mc_executions.proofs.RunningSteps.{each_is_a_step}

-- a table without slots has none after any step
no_slots : (a : TableAct (Unit {0})) → Valid [] [] a → (homes_after [] [] a ≡ []) × (carried_after [] a ≡ [])
no_slots keeps v = (refl, refl)
no_slots (takes k y) v = absurd (some-ne-none _ (sym v))
no_slots gives v = (refl, refl)
no_slots (chain a b) v =
    let x = no_slots a v.0 in
    let y = no_slots b (subst (λ (z : List (Option (Unit {0})) × List (ℕ × Unit {0})). Valid z.0 z.1 b) (λ i. (x.0 i, x.1 i)) v.1) in
    ((λ i. homes_after (x.0 i) (x.1 i) b) ∙ y.0, (λ i. carried_after (x.1 i) b) ∙ y.1)

pub still_none : (homes : List (Option (Unit {0}))) (a : TableAct (Unit {0})) → homes ≡ [] → Valid homes [] a → homes_after homes [] a ≡ []
still_none homes a e v = ap (λ (z : List (Option (Unit {0}))). homes_after z [] a) e ∙ (no_slots a (subst (λ (z : List (Option (Unit {0}))). Valid z [] a) e v)).0

-- An execution that has come to state n. The writer, on seat 0, has made these acts, and reader 0, on seat 1, has this record. In an earlier
-- state they were `acts0` and `done0`
pub record Stage (l : Layout) (n : ℕ) (ws : List ℕ) (acts : List Made) (done : List Reading) (acts0 : List Made) (done0 : List Reading) : Type 0 where
  pub states : ℕ → TableState
  pub run : IsExecution l states
  pub words : (states n).words ≡ ws
  pub homes : (states n).homes ≡ []
  pub tally : Tally
  pub front : List Made
  pub writer : get_elem? (states n).views 0 ≡ some (writer_view l acts tally)
  pub reader : get_elem? (states n).views 1 ≡ some (reader_view l 0 front done)
  pub early : ℕ
  pub before : early ≤ n
  pub had_acts : HasActs (states early) acts0
  pub had_record : HasRecord 0 (states early) done0

-- what is so now is remembered
pub noted : {l : Layout} {n : ℕ} {ws : List ℕ} {acts acts0 : List Made} {done done0 : List Reading} → Stage l n ws acts done acts0 done0 → Stage l n ws acts done acts done
noted {l} {n} {ws} {acts} {acts0} {done} {done0} g = record {
  states = g.states;
  run = g.run;
  words = g.words;
  homes = g.homes;
  tally = g.tally;
  front = g.front;
  writer = g.writer;
  reader = g.reader;
  early = n;
  before = omega arith;
  had_acts = record { seat = 0; view = writer_view l acts g.tally; mine = g.writer; writer = tt; is = refl };
  had_record = record { seat = 1; view = reader_view l 0 g.front done; mine = g.reader; reader = hit 0; is = refl };
}

module _ (l : Layout) (n : ℕ) (ws : List ℕ) (acts : List Made) (done : List Reading) (acts0 : List Made) (done0 : List Reading) (g : Stage l n ws acts done acts0 done0) where
  abbrev s : TableState
  s = g.states n

  grows_to : (t : TableState) → IsStep s t → Ruled l t → (ws' : List ℕ) → t.words ≡ ws' → t.homes ≡ [] → (acts' : List Made) (done' : List Reading) (tally : Tally) (front : List Made)
      → get_elem? t.views 0 ≡ some (writer_view l acts' tally) → get_elem? t.views 1 ≡ some (reader_view l 0 front done') → Stage l (suc n) ws' acts' done' acts0 done0
  grows_to t is rule ws' words homes acts' done' tally front writer reader =
      let e = (executions_grow l).grow g.states n t g.run is rule in
      let now : grown g.states n t (suc n) ≡ t = e.2 (suc n) (omega arith) in
      let was : grown g.states n t g.early ≡ g.states g.early = e.1 g.early g.before in
      record {
        states = grown g.states n t;
        run = e.0;
        words = ap (λ (z : TableState). z.words) now ∙ words;
        homes = ap (λ (z : TableState). z.homes) now ∙ homes;
        tally = tally;
        front = front;
        writer = ap (λ (z : TableState). get_elem? z.views 0) now ∙ writer;
        reader = ap (λ (z : TableState). get_elem? z.views 1) now ∙ reader;
        early = g.early;
        before = omega (arith, g.before);
        had_acts = subst (λ (z : TableState). HasActs z acts0) (sym was) g.had_acts;
        had_record = subst (λ (z : TableState). HasRecord 0 z done0) (sym was) g.had_record;
      }

  -- the writer stores the word of an act
  pub after_act : (a : Act) (place x : ℕ) → IsOffBits a → MayMake l acts a → WritesAt l acts a place x → get_or ws place 0 < 2 ^ 64 → Stage l (suc n) (set ws place x) (acts ++ with_bit a 0 ∷ []) done acts0 done0
  after_act a place x off may writes small =
      let rule = g.run.ruled n in
      let v : View = writer_view l acts g.tally in
      let st = step 0 place x 0 none in
      let allows = stores_as l l refl 0 0 (v, []) refl a place x (λ z. x) (λ z. z) st (off_stored a off) may writes (λ z. refl) (store_bits l acts a place x (λ z. z) off may writes) (store_past l acts a place x off may writes) in
      let low : get_or s.words place 0 < 18446744073709551616 = subst (λ (z : List ℕ). get_or z place 0 < 18446744073709551616) (sym g.words) small in
      let fits = ap length g.homes in
      let next = allows s rule fits g.writer low in
      let t : TableState = stepped s place x 0 [] next.0 next.1 in
      let y = (each_is_a_step l).plays (makes a) s 0 0 place v [] st (λ z. x) refl allows rule fits g.writer low in
      let told = next.4.1 in
      let view : next.0 ≡ writer_view l (acts ++ with_bit a 0 ∷ []) (with_note g.tally told.0) =
      ap (λ (z : SeatView). z.0) told.1 ∙ ap (λ (b : ℕ). writer_view l (acts ++ with_bit a b ∷ []) (with_note g.tally told.0)) (stored_bit a (get_or s.words place 0) off) in
      grows_to t y.0 y.1 (set ws place x) (ap (λ (z : List ℕ). set z place x) g.words) (still_none s.homes next.1 g.homes next.2) (acts ++ with_bit a 0 ∷ []) done (with_note g.tally told.0) g.front
      (set_here s.views 0 next.0 (got_below s.views 0 v g.writer) ∙ ap some view)
      (set_else s.views 0 1 next.0 (omega arith) ∙ g.reader)

  -- the reader reads a word
  pub after_reading : (a : Access) (place x : ℕ) → place_read l.width l.shape a ≡ Some place → place < word_count l.width l.shape → ((f m : ℕ) → StandsAt a f m → f ≡ m) → get_or ws place 0 ≡ x → x < 2 ^ 64
      → Stage l (suc n) ws acts (done ++ record { access = a; word = x; front = length acts } ∷ []) acts0 done0
  after_reading a place x where_is below newest is small =
      let rule = g.run.ruled n in
      let v : View = reader_view l 0 g.front done in
      let st = step 0 place 0 0 none in
      let allows = reads_one l 1 0 [] 0 g.front done a place st where_is refl below in
      let word : get_or s.words place 0 ≡ x = ap (λ (z : List ℕ). get_or z place 0) g.words ∙ is in
      let low : get_or s.words place 0 < 18446744073709551616 = omega (arith, word, small) in
      let fits = ap length g.homes in
      let next = allows s rule fits g.reader low in
      let t : TableState = stepped s place (get_or s.words place 0) 1 [] next.0 next.1 in
      let y = (each_is_a_step l).plays (reads a) s 1 0 place v [] st (λ z. z) refl allows rule fits g.reader low in
      let told = next.4 in
      let entry = reads_are_entries l s 1 0 place 0 g.front done [] a st allows rule fits g.reader low in
      let log = (log_is l s rule 0 (writer_view l acts g.tally) g.writer tt).0 in
      let made : length (front_of next.0) ≡ length acts = newest (length (front_of next.0)) (length rule.log) (readings_are_newest l s t rule.log (reading a (get_or s.words place 0) (front_of next.0)) entry).0 ∙ ap length (sym log) in
      let e : Reading = record { access = a; word = x; front = length acts } in
      let same : reading a (get_or s.words place 0) (front_of next.0) ≡ e = λ i. record { access = a; word = word i; front = made i } in
      let view : next.0 ≡ reader_view l 0 (front_of next.0) (done ++ e ∷ []) =
      ap (λ (z : SeatView). z.0) told.1 ∙ (ap (λ (z : List Reading). reader_view l 0 (front_of next.0) z) told.2.adds ∙ ap (λ (z : Reading). reader_view l 0 (front_of next.0) (done ++ z ∷ [])) same) in
      grows_to t y.0 y.1 ws (set-get_or s.words place 0 ∙ g.words) (still_none s.homes next.1 g.homes next.2) acts (done ++ e ∷ []) g.tally (front_of next.0)
      (set_else s.views 1 0 next.0 (omega arith) ∙ g.writer)
      (set_here s.views 1 next.0 (got_below s.views 1 v g.reader) ∙ ap some view)

  -- the reader marks an item
  pub after_mark : (i : ℕ) → i < l.shape.items → get_or ws (recency_place l.width l.shape i) 0 < 2 ^ 64
      → (ws' : List ℕ) × (f : ℕ) × Stage l (suc n) ws' acts (done ++ record { access = access.Mark i; word = 0; front = f } ∷ []) acts0 done0
  after_mark i within small =
      let rule = g.run.ruled n in
      let place : ℕ = recency_place l.width l.shape i in
      let v : View = reader_view l 0 g.front done in
      let st = step 0 place (only i) 0 none in
      let allows = marks_one l 1 0 [] 0 g.front done i (λ z. z) st within in
      let low : get_or s.words place 0 < 18446744073709551616 = subst (λ (z : List ℕ). get_or z place 0 < 18446744073709551616) (sym g.words) small in
      let fits = ap length g.homes in
      let next = allows s rule fits g.reader low in
      let x : ℕ = bit_or (get_or s.words place 0) (only i) in
      let t : TableState = stepped s place x 1 [] next.0 next.1 in
      let y = (each_is_a_step l).plays (marks i) s 1 0 place v [] st (λ z. bit_or z (only i)) refl allows rule fits g.reader low in
      let view : next.0 ≡ reader_view l 0 g.front (done ++ mark_at i g.front ∷ []) = ap (λ (z : SeatView). z.0) next.4 in (
        t.words,
        length g.front,
        grows_to t y.0 y.1 t.words refl (still_none s.homes next.1 g.homes next.2) acts (done ++ mark_at i g.front ∷ []) g.tally g.front
            (set_else s.views 1 0 next.0 (omega arith) ∙ g.writer)
            (set_here s.views 1 next.0 (got_below s.views 1 v g.reader) ∙ ap some view),
      )
