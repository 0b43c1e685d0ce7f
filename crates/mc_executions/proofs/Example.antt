-- The example, step by step.
use Rattle.std.proofs.Common.{◌≡◌, inl, inr, ℕ, zero, suc, ◌+◌, ◌*◌, ◌<◌, ◌≤◌, ◌^◌, List, [], ◌∷◌, ◌++◌, get_or, refl, ap, sym, ◌∙◌, arith, Some}
use Rattle.std.specs.Prelude.{take, drop}
use lib.Count.{count_trailing_zeros}
use Rattle.atomic_table.specs.Table.{opening as table_opening}
use Rattle.mc_words.specs.declared.policy.Policy.TheVariants.{Clock}
use Rattle.mc_words.specs.Keys.{mixed_key, tag_of, stripe_of, first_of, slot_word}
use Rattle.mc_words.specs.Places.{payload, moment, version, slot, with_moment, with_version, with_slot, with_item}
use Rattle.mc_words.specs.Recency.{recency_word, recency_words}
use Rattle.mc_words.specs.Shapes.{IsShape}
use Rattle.mc_words.specs.Standing.{NamesItem}
use Rattle.mc_theory.specs.Acts.{IsAllowed}
use Rattle.mc_theory.specs.Lists.{Made, state_of, IsLawful}
use Rattle.mc_theory.specs.Lookups.{IsLookup, IsSpoiled, Scans, TagMatches, Tries, slots_for}
use Rattle.mc_theory.specs.Readings.{Reading}
use Rattle.mc_theory.specs.States.{opening}
use Rattle.mc_theory.specs.Writes.{place_read}
use Rattle.mc_theory.specs.declared.access.Access.{Access}
use Rattle.mc_theory.specs.declared.access.Access.TheVariants as access
use Rattle.mc_theory.specs.declared.act.Act.{Act}
use Rattle.mc_theory.specs.declared.act.Act.TheVariants.{Open, Slot, Item, Moment, Close}
use Rattle.mc_theory.specs.declared.act.Deed.TheVariants as deed
use Rattle.mc_theory.proofs.Lists.Fronts.{lawful_none, lawful_push}
use Rattle.mc_shared.specs.SeatPlays.{seats}
use Rattle.mc_shared.specs.ExactFronts.{StandsAt}
use Rattle.mc_shared.specs.Inside.Seats.{MayMake}
use Rattle.mc_shared.specs.Views.{View, tally_for, writer_view, reader_view, new_writer_view, with_bit, layout_with}
use Rattle.mc_shared.specs.declared.layout.Layout.{Layout}
use Rattle.mc_shared.proofs.CutSeats.{splits_new}
use Rattle.mc_executions.specs.Example.{small, first_slot, put_opens, put_whole, read, readings, found, PutBesideGet}
use Rattle.mc_executions.specs.Executions.{TableState, IsExecution, HasRecord}
use Rattle.mc_executions.specs.GrownExecutions.{grown}
use Rattle.mc_executions.proofs.ExecutionSteps.{hit}
use Rattle.mc_executions.proofs.GrownExecutions.{executions_grow}
use Rattle.mc_executions.proofs.RunningSteps.{each_is_a_step}
use Rattle.mc_executions.proofs.Stages.{Stage, noted, after_act, after_reading, after_mark}
use Rattle.mc_executions.proofs.TimedLookups.{lookups_are_timed}

abbrev pub l : Layout
l = layout_with 1 Clock small

pub is_shape : IsShape small
unfolding count_trailing_zeros
is_shape = record {
  buckets = (omega arith, omega arith, refl);
  items = (omega arith, omega arith);
  stripes = (omega arith, omega arith, refl);
  depth = omega arith;
  tries = (omega arith, omega arith);
  limit = omega arith;
}

-- all words: seven slots stay empty, and the last word is of recency bits
abbrev pub words : (at turn named value stamp : ℕ) → List ℕ
words at turn named value stamp = at ∷ turn ∷ named ∷ 0 ∷ 0 ∷ 0 ∷ 0 ∷ 0 ∷ 0 ∷ 0 ∷ 0 ∷ value ∷ stamp ∷ 0 ∷ []

-- ---- each act is allowed
empty_slots : (rest : List ℕ) (q : ℕ) → q < 8 → get_or (0 ∷ 0 ∷ 0 ∷ 0 ∷ 0 ∷ 0 ∷ 0 ∷ 0 ∷ rest) q 0 ≡ 0
empty_slots rest zero lt = refl
empty_slots rest (suc zero) lt = refl
empty_slots rest (suc (suc zero)) lt = refl
empty_slots rest (suc (suc (suc zero))) lt = refl
empty_slots rest (suc (suc (suc (suc zero)))) lt = refl
empty_slots rest (suc (suc (suc (suc (suc zero))))) lt = refl
empty_slots rest (suc (suc (suc (suc (suc (suc zero)))))) lt = refl
empty_slots rest (suc (suc (suc (suc (suc (suc (suc zero))))))) lt = refl
empty_slots rest (suc (suc (suc (suc (suc (suc (suc (suc q)))))))) lt = absurd (omega (arith, lt))

nothing_named : (at turn q i : ℕ) (rest : List ℕ) → NamesItem small (at ∷ turn ∷ 0 ∷ 0 ∷ 0 ∷ 0 ∷ 0 ∷ 0 ∷ 0 ∷ 0 ∷ rest) q i → ⊥
unfolding slot slot_word
nothing_named at turn q i rest named =
    let w : List ℕ = at ∷ turn ∷ 0 ∷ 0 ∷ 0 ∷ 0 ∷ 0 ∷ 0 ∷ 0 ∷ 0 ∷ rest in
    let place : 1 + 1 + q ≡ suc (suc q) = omega arith in
    let empty : slot small w q ≡ 0 = ap (λ (n : ℕ). get_or w n 0) place ∙ empty_slots rest q (omega (arith, named.in_table)) in
    let word : 0 ≡ named.tag * 2 ^ 32 + i + 1 = sym empty ∙ named.word in
    omega (arith, word)

-- the acts of the put, as far as they are made
abbrev pub keyed : List Made
keyed = put_opens ++ with_bit (Item 0 0 0) 0 ∷ []

abbrev pub filled : List Made
filled = keyed ++ with_bit (Item 0 1 7) 0 ∷ []

abbrev pub stamped : List Made
stamped = filled ++ with_bit (Item 0 2 1) 0 ∷ []

abbrev pub placed : List Made
placed = stamped ++ with_bit (Slot first_slot 1) 0 ∷ []

abbrev pub dated : List Made
dated = placed ++ with_bit Moment 0 ∷ []

pub may_open : IsAllowed small (state_of 1 small []) (Open 0 deed.Fill)
unfolding state_of opening payload
may_open = (omega arith, ((λ q i stands. nothing_named 0 0 q i (0 ∷ 0 ∷ 0 ∷ []) stands.names), (0, omega arith, λ q named. nothing_named 0 0 q 0 (0 ∷ 0 ∷ 0 ∷ []) named)))

pub may_key : IsAllowed small (state_of 1 small put_opens) (Item 0 0 0)
unfolding state_of opening mixed_key stripe_of payload version with_version
may_key = (omega arith, (λ q named. nothing_named 0 1 q 0 (0 ∷ 0 ∷ 0 ∷ []) named), refl, refl)

pub may_fill : IsAllowed small (state_of 1 small keyed) (Item 0 1 7)
unfolding state_of opening mixed_key stripe_of payload version with_version with_item
may_fill = (refl, refl, omega arith, omega arith, λ e. absurd (omega (arith, e)))

pub may_stamp : IsAllowed small (state_of 1 small filled) (Item 0 2 1)
unfolding state_of opening mixed_key stripe_of payload moment version with_version with_item
may_stamp = (refl, refl, omega arith, omega arith, λ e. refl)

pub may_place : IsAllowed small (state_of 1 small stamped) (Slot first_slot 1)
unfolding state_of opening mixed_key tag_of stripe_of first_of slot_word payload version slot with_version with_item
may_place = (refl, (omega arith, refl), inl refl, omega arith, refl)

pub may_date : IsAllowed small (state_of 1 small placed) Moment
unfolding state_of opening
may_date = tt

pub may_close : IsAllowed small (state_of 1 small dated) Close
unfolding state_of opening
may_close = tt

pub opens : IsLawful 1 small put_opens
opens = lawful_push 1 small [] (with_bit (Open 0 deed.Fill) 0) (lawful_none 1 small) may_open

pub keys : IsLawful 1 small keyed
keys = lawful_push 1 small put_opens (with_bit (Item 0 0 0) 0) opens may_key

pub fills : IsLawful 1 small filled
fills = lawful_push 1 small keyed (with_bit (Item 0 1 7) 0) keys may_fill

pub stamps : IsLawful 1 small stamped
stamps = lawful_push 1 small filled (with_bit (Item 0 2 1) 0) fills may_stamp

pub places : IsLawful 1 small placed
places = lawful_push 1 small stamped (with_bit (Slot first_slot 1) 0) stamps may_place

pub dates : IsLawful 1 small dated
dates = lawful_push 1 small placed (with_bit Moment 0) places may_date

pub may_make : (acts : List Made) (a : Act) → IsLawful 1 small acts → IsAllowed small (state_of 1 small acts) a → (state_of 1 small acts).version_steps ≤ 2 ^ 62 → MayMake l acts a
may_make acts a lawful allowed few = record { shape = is_shape; lawful = lawful; allowed = allowed; few = few }

-- ---- the steps up to the opening of the put: a reader is seated before it
begun : Stage l 1 (words 0 0 0 0 0) [] [] [] []
unfolding payload recency_words
begun =
    let states : ℕ → TableState = λ n. table_opening (words 0 0 0 0 0) [] (new_writer_view l) in
    let run : IsExecution l states = (executions_grow l).begin (words 0 0 0 0 0) refl in
    let left : View = writer_view l [] (tally_for 1) in
    let new : View = reader_view l 0 [] [] in
    let x = (each_is_a_step l).cuts seats (states 0) 0 (new_writer_view l) (splits_new l 0 0) (run.ruled 0) refl in
    let t : TableState = record { words = words 0 0 0 0 0; homes = []; views = left ∷ new ∷ [] } in
    let e = (executions_grow l).grow states 0 t run x.0 x.1 in
    record {
      states = grown states 0 t;
      run = e.0;
      words = refl;
      homes = refl;
      tally = tally_for 1;
      front = [];
      writer = refl;
      reader = refl;
      early = 1;
      before = omega arith;
      had_acts = record { seat = 0; view = left; mine = refl; writer = tt; is = refl };
      had_record = record { seat = 1; view = new; mine = refl; reader = hit 0; is = refl };
    }

opened : Stage l 2 (words 0 1 0 0 0) put_opens [] put_opens []
unfolding state_of opening mixed_key stripe_of payload version recency_words
opened =
    noted (after_act l 1 (words 0 0 0 0 0) [] [] [] [] begun (Open 0 deed.Fill) 1 1 tt (may_make [] (Open 0 deed.Fill) (lawful_none 1 small) may_open (omega arith)) refl (omega arith))

-- the reader reads the odd version
refused : Stage l 3 (words 0 1 0 0 0) put_opens (take 1 (readings 0)) put_opens []
unfolding mixed_key stripe_of
refused = after_reading l 2 (words 0 1 0 0 0) put_opens [] put_opens [] opened (access.Version 0) 1 1 refl (omega arith) (λ f m e. e) refl (omega arith)

-- the put goes on
after_key : Stage l 4 (words 0 1 0 0 0) keyed (take 1 (readings 0)) put_opens []
unfolding state_of opening mixed_key stripe_of payload version with_version
after_key = after_act l 3 (words 0 1 0 0 0) put_opens (take 1 (readings 0)) put_opens [] refused (Item 0 0 0) 10 0 tt (may_make put_opens (Item 0 0 0) opens may_key (omega arith)) refl (omega arith)

after_fill : Stage l 5 (words 0 1 0 7 0) filled (take 1 (readings 0)) put_opens []
unfolding state_of opening mixed_key stripe_of payload version with_version with_item
after_fill = after_act l 4 (words 0 1 0 0 0) keyed (take 1 (readings 0)) put_opens [] after_key (Item 0 1 7) 11 7 tt (may_make keyed (Item 0 1 7) keys may_fill (omega arith)) refl (omega arith)

after_stamp : Stage l 6 (words 0 1 0 7 1) stamped (take 1 (readings 0)) put_opens []
unfolding state_of opening mixed_key stripe_of payload moment version with_version with_item
after_stamp = after_act l 5 (words 0 1 0 7 0) filled (take 1 (readings 0)) put_opens [] after_fill (Item 0 2 1) 12 1 tt (may_make filled (Item 0 2 1) fills may_stamp (omega arith)) refl (omega arith)

after_place : Stage l 7 (words 0 1 1 7 1) placed (take 1 (readings 0)) put_opens []
unfolding state_of opening mixed_key stripe_of payload version with_version with_item with_slot
after_place = after_act l 6 (words 0 1 0 7 1) stamped (take 1 (readings 0)) put_opens [] after_stamp (Slot first_slot 1) 2 1 tt (may_make stamped (Slot first_slot 1) stamps may_place (omega arith)) refl (omega arith)

after_date : Stage l 8 (words 1 1 1 7 1) dated (take 1 (readings 0)) put_opens []
unfolding state_of opening mixed_key stripe_of payload moment version with_version with_item with_slot
after_date = after_act l 7 (words 0 1 1 7 1) placed (take 1 (readings 0)) put_opens [] after_place Moment 0 1 tt (may_make placed Moment places may_date (omega arith)) refl (omega arith)

after_close : Stage l 9 (words 1 2 1 7 1) put_whole (take 1 (readings 0)) put_opens []
unfolding state_of opening mixed_key stripe_of payload moment version with_version with_item with_slot with_moment
after_close = after_act l 8 (words 1 1 1 7 1) dated (take 1 (readings 0)) put_opens [] after_date Close 1 2 tt (may_make dated Close dates may_close (omega arith)) refl (omega arith)

-- the reader tries again
reads_next : (n : ℕ) (done : List Reading) (a : Access) (place x : ℕ) → place_read 1 small a ≡ Some place → place < 13 → ((f m : ℕ) → StandsAt a f m → f ≡ m) → get_or (words 1 2 1 7 1) place 0 ≡ x → x < 2 ^ 64
    → Stage l n (words 1 2 1 7 1) put_whole done put_opens [] → Stage l (suc n) (words 1 2 1 7 1) put_whole (done ++ read a x 7 ∷ []) put_opens []
unfolding payload
reads_next n done a place x where_is below newest is small g = after_reading l n (words 1 2 1 7 1) put_whole done put_opens [] g a place x where_is below newest is small

read_all : Stage l 16 (words 1 2 1 7 1) put_whole (take 8 (readings 0)) put_opens []
unfolding payload
read_all =
    let a = reads_next 9 (take 1 (readings 0)) (access.Version 0) 1 2 refl (omega arith) (λ f m e. e) refl (omega arith) after_close in
    let b = reads_next 10 (take 2 (readings 0)) (access.Slot first_slot) 2 1 refl (omega arith) (λ f m e. e) refl (omega arith) a in
    let c = reads_next 11 (take 3 (readings 0)) (access.Key 0) 10 0 refl (omega arith) (λ f m e. e) refl (omega arith) b in
    let d = reads_next 12 (take 4 (readings 0)) (access.Value 0 1) 11 7 refl (omega arith) (λ f m e. e) refl (omega arith) c in
    let e = reads_next 13 (take 5 (readings 0)) (access.Stamp 0) 12 1 refl (omega arith) (λ f m e. e) refl (omega arith) d in
    let f = reads_next 14 (take 6 (readings 0)) access.Moment 0 1 refl (omega arith) (λ f m e. e) refl (omega arith) e in
    reads_next 15 (take 7 (readings 0)) (access.Version 0) 1 2 refl (omega arith) (λ f m e. e) refl (omega arith) f

-- and marks the item
marked : (ws : List ℕ) × (front : ℕ) × Stage l 17 ws put_whole (readings front) put_opens []
unfolding payload recency_word
marked = after_mark l 16 (words 1 2 1 7 1) put_whole (take 8 (readings 0)) put_opens [] read_all 0 (omega arith) (omega arith)

-- ---- the lookup, and what it found
key_match : TagMatches small 0 1 0
unfolding mixed_key tag_of slot_word
key_match = (omega arith, refl)

scans : Scans small 0 (slots_for small 0) (read (access.Slot first_slot) 1 7 ∷ read (access.Key 0) 0 7 ∷ []) (Some 0)
unfolding mixed_key first_of
scans = (read (access.Slot first_slot) 1 7, read (access.Key 0) 0 7 ∷ [], refl, refl, inr (0, read (access.Key 0) 0 7, [], key_match, refl, refl, inl (refl, refl, refl)))

second_try : Tries 1 small 0 (drop 1 (take 8 (readings 0))) (Some 0) (7 ∷ 1 ∷ []) 2 2 1
unfolding mixed_key stripe_of payload
second_try = record {
  first = read (access.Version 0) 2 7;
  scan = read (access.Slot first_slot) 1 7 ∷ read (access.Key 0) 0 7 ∷ [];
  values = read (access.Value 0 1) 7 7 ∷ read (access.Stamp 0) 1 7 ∷ [];
  mid = read access.Moment 1 7;
  last = read (access.Version 0) 2 7;
  parts = refl;
  first_is = refl;
  first_word = refl;
  even = refl;
  scans = scans;
  reads = (read (access.Value 0 1) 7 7 ∷ [], read (access.Stamp 0) 1 7, 7 ∷ [], refl, refl, refl, (refl, refl, tt), refl);
  mid_is = refl;
  mid_word = refl;
  last_is = refl;
  last_word = refl;
}

looked : (front : ℕ) → IsLookup 1 small 0 2 (readings front) found
unfolding mixed_key stripe_of
looked front =
    let mark : Reading = read (access.Mark 0) 0 front in
    let spoiled : IsSpoiled 1 small 0 (take 1 (readings 0)) = inl (read (access.Version 0) 1 1, refl, refl, refl) in
    inl (take 1 (readings 0), drop 1 (readings front), refl, spoiled, inr (drop 1 (take 8 (readings 0)), mark ∷ [], Some 0, 7 ∷ 1 ∷ [], 2, 1, refl, second_try, (mark, refl, refl), refl))

pub put_beside_get : PutBesideGet
unfolding state_of opening mixed_key stripe_of payload moment version with_version with_item with_slot with_moment
put_beside_get =
    let front : ℕ = marked.1 in
    let g = marked.2 in
    let ended : HasRecord 0 (g.states 17) (readings front) = record { seat = 1; view = reader_view l 0 g.front (readings front); mine = g.reader; reader = hit 0; is = refl } in
    let in_order : g.early ≤ 17 = g.before in
    record {
      states = g.states;
      run = g.run;
      i = g.early;
      j = 17;
      in_order = in_order;
      opened = g.had_acts;
      began = g.had_record;
      closed = record { seat = 0; view = writer_view l put_whole g.tally; mine = g.writer; writer = tt; is = refl };
      front = front;
      ended = ended;
      looked = looked front;
      empty = refl;
      put = refl;
      timed = lookups_are_timed 1 Clock small g.states g.run g.early 17 0 0 2 [] (readings front) found is_shape (omega arith) (omega arith) in_order g.had_record ended (looked front);
    }
