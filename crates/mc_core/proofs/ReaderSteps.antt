-- A reader of a world begins a lookup, and continues it.
use Rattle.std.proofs.Common.{ℕ, ◌≡◌, ◌+◌, ◌-◌, ◌^◌, ◌<◌, ◌≤◌, List, [], ◌∷◌, ◌++◌, length, Option, Some, None, refl, sym, ◌∙◌, ap, subst, inl, inr, arith}
use Rattle.std.specs.Prelude.{◌↔◌, IsSome, slice_get, slice_set, unwrap_or}
use Rattle.std.proofs.lemmas.List.{append_assoc, append-nil}
use Rattle.mc_words.specs.Checks.{shape_of}
use Rattle.mc_words.specs.declared.checked.Checked.{Checked}
use Rattle.mc_words.specs.declared.history.Reply.{Reply}
use Rattle.mc_words.specs.declared.shape.Shape.{Shape}
use Rattle.mc_lookup.specs.Course.{BeginsWith}
use Rattle.mc_theory.specs.Lists.{IsLawful, state_of}
use Rattle.mc_theory.specs.Lookups.{IsLookup}
use Rattle.mc_lookup.specs.Machine.{shape_for, held_by, next_at, next_access, reply_at, reply_now, IsRemainderAt, IsRemainder, Consumes}
use Rattle.mc_core.specs.Inside.Parts.{shape_of_parts, StandFor}
use Rattle.mc_theory.specs.Phases.{close_owed}
use Rattle.mc_theory.specs.Readings.{Reading, IsWordOf}
use Rattle.mc_core.specs.Seen.{Both, IsOpenLookup}
use Rattle.mc_theory.specs.States.{State}
use Rattle.mc_theory.specs.Traces as traces
use Rattle.mc_theory.specs.Traces.{OpenLookup, Ended, bits_read, first_read, ReadsNext, EndsRead, ContinuesRead}
use Rattle.mc_core.specs.Inside.Writers.{state_in, words_of_writer, shape_of_writer, phase_at, UsedWell}
use Rattle.mc_theory.specs.declared.access.Access.{Access}
use Rattle.mc_theory.specs.declared.event.Done.{Done}
use Rattle.mc_theory.specs.declared.event.Event.TheVariants as event
use Rattle.mc_theory.specs.declared.event.Stepped.TheVariants as stepped
use Rattle.mc_lookup.specs.declared.lookup.Lookup.{Lookup}
use Rattle.mc_core.specs.declared.parts.Parts.{Parts}
use Rattle.mc_core.specs.declared.reader.Reader.{Reader}
use Rattle.mc_lookup.specs.declared.stage.Stage.{Stage}
use Rattle.mc_lookup.specs.declared.stage.Stage.TheVariants.{First, Slot, Key, Value, Stamp, Moment, Last, Mark, Over}
use Rattle.mc_core.specs.declared.writer.Writer.{Writer}
use Rattle.mc_core.proofs.PairedLists.{both_set, both_some, both_none, set_there}
use Rattle.mc_lookup.proofs.NextAccess.{next_is_determined, can_end}
use Rattle.mc_lookup.proofs.StageSteps.{at_stage, both_trans}
use Rattle.mc_theory.specs.Writes.{IsAccess}
use Rattle.mc_theory.specs.declared.access.Access.TheVariants as access
use Rattle.mc_core.specs.Inside.Seen.{MarksIn}

-- ---- the end of a lookup
over_at : {V : ℕ} (l : Lookup V) (st : Stage) (reply : Reply V) → reply_at {V = V} l st ≡ Some reply → IsRemainderAt V (shape_for {V = V} l) l.key l.tries l.version (held_by {V = V} l) l.reply st [] reply
over_at l Over reply e = let is : reply ≡ l.reply = cc in (refl, is)
over_at l First reply e = absurd (cc (e))
over_at l (Slot j) reply e = absurd (cc (e))
over_at l (Key j i) reply e = absurd (cc (e))
over_at l (Value i c) reply e = absurd (cc (e))
over_at l (Stamp i) reply e = absurd (cc (e))
over_at l (Moment hit) reply e = absurd (cc (e))
over_at l (Last hit at) reply e = absurd (cc (e))
over_at l (Mark i) reply e = absurd (cc (e))

-- once it has its reply, nothing is left of it
over_left : {V : ℕ} (l : Lookup V) (reply : Reply V) → reply_now {V = V} l ≡ Some reply → IsRemainder {V = V} l [] reply
over_left {V} l reply e = (at_stage {V = V} l l.stage [] reply refl).0 (over_at {V = V} l l.stage reply e)

-- before it has its reply, there is a next access
going_at : {V : ℕ} (l : Lookup V) (st : Stage) → reply_at {V = V} l st ≡ None → IsSome (next_at {V = V} l st)
going_at l Over e = absurd (cc (e))
going_at l First e = refl
going_at l (Slot j) e = refl
going_at l (Key j i) e = refl
going_at l (Value i c) e = refl
going_at l (Stamp i) e = refl
going_at l (Moment hit) e = refl
going_at l (Last hit at) e = refl
going_at l (Mark i) e = refl

-- what has a next access does not end with no readings
begins_not : {V : ℕ} (l : Lookup V) (o : Option Access) (reply : Reply V) → IsSome o → BeginsWith {V = V} l o [] reply → ⊥
begins_not l (Some a) reply s b = cc (b.2)
begins_not l None reply s b = cc (s)

-- before that, something is left of it
going_left : {V : ℕ} (l : Lookup V) (reply : Reply V) → reply_now {V = V} l ≡ None → IsRemainder {V = V} l [] reply → ⊥
going_left {V} l reply e left = begins_not {V = V} l (next_access {V = V} l) reply (going_at {V = V} l l.stage e) (next_is_determined V l [] reply left)

-- ---- a reader's part
-- what a reader's event leaves of the parts, when only its own lookup and the bits are changed
stand_read : {V : ℕ} (old new : Parts V) (seen : traces.Trace V) (r : ℕ) (x : Option (Reader V)) (y : Option OpenLookup) (bits : List ℕ → List ℕ) (ended : List (Ended V)) → StandFor {V = V} old seen →
    new.writer ≡ old.writer → new.bits.items ≡ bits old.bits.items → new.readers.items ≡ slice_set old.readers.items r x → new.events ≡ old.events + 1 → Both (IsOpenLookup V (shape_of_parts {V = V} old)) x y →
    StandFor {V = V} new (record { acts = seen.acts; bits = bits seen.bits; readers = slice_set seen.readers r y; ended = ended; events = seen.events + 1 })
stand_read {V} old new seen r x y bits ended s writer bits_are readers events both =
    let sh = shape_of_parts {V = V} old in
    let shown = s.shows in
    let now : (q : ℕ) → Both (Both (IsOpenLookup V sh)) (slice_get new.readers.items q) (slice_get (slice_set seen.readers r y) q) =
    λ q. subst (λ (z : List (Option (Reader V))). Both (Both (IsOpenLookup V sh)) (slice_get z q) (slice_get (slice_set seen.readers r y) q)) (sym readers) (both_set (Both (IsOpenLookup V sh)) old.readers.items seen.readers r x y shown.readers both q) in
    record {
      shows = record {
        lawful = subst (λ (w : Writer V). IsLawful V (shape_of_writer {V = V} w) seen.acts) (sym writer) shown.lawful;
        state = subst (λ (w : Writer V). state_in {V = V} w ≡ state_of V (shape_of_writer {V = V} w) seen.acts) (sym writer) shown.state;
        bits = bits_are ∙ ap bits shown.bits;
        readers = λ q. subst (λ (w : Writer V). Both (Both (IsOpenLookup V (shape_of_writer {V = V} w))) (slice_get new.readers.items q) (slice_get (slice_set seen.readers r y) q)) (sym writer) (now q);
        events = events ∙ ap (λ n. n + 1) shown.events;
      };
      used = subst (λ (w : Writer V). UsedWell {V = V} w.table) (sym writer) s.used;
      within = subst (λ (w : Writer V). w.version_steps + close_owed (phase_at w.written w.progress) ≤ (shape_of_writer {V = V} w).limit) (sym writer) s.within;
    }

-- the lookup of a reader in memory is one that runs in the trace of events
pub running_of : {V : ℕ} (old : Parts V) (seen : traces.Trace V) (r : ℕ) (reader : Reader V) → StandFor {V = V} old seen → slice_get old.readers.items r ≡ Some (Some reader) → (run : OpenLookup) × (slice_get seen.readers r ≡ Some (Some run)) × IsOpenLookup V (shape_of_parts {V = V} old) reader run
running_of {V} old seen r reader s at =
    let sh = shape_of_parts {V = V} old in
    let one = both_some (Both (IsOpenLookup V sh)) (Some reader) (slice_get old.readers.items r) (slice_get seen.readers r) (s.shows.readers r) at in
    let two = both_some (IsOpenLookup V sh) reader (Some reader) one.0 one.2 refl in
    (two.0, one.1 ∙ ap (λ (o : Option OpenLookup). Some o) two.1, two.2)

-- and a reader in memory without a lookup has none there
pub idle_of : {V : ℕ} (old : Parts V) (seen : traces.Trace V) (r : ℕ) → StandFor {V = V} old seen → slice_get old.readers.items r ≡ Some None → slice_get seen.readers r ≡ Some None
idle_of {V} old seen r s at =
    let sh = shape_of_parts {V = V} old in
    let one = both_some (Both (IsOpenLookup V sh)) None (slice_get old.readers.items r) (slice_get seen.readers r) (s.shows.readers r) at in
    one.1 ∙ ap (λ (o : Option OpenLookup). Some o) (both_none (IsOpenLookup V sh) None one.0 one.2 refl)

-- what is left after a reading
left_more : {V : ℕ} (sh : Shape) (reader : Reader V) (run : OpenLookup) (a : Access) (word f : ℕ) (next : Lookup V) → IsOpenLookup V sh reader run → Consumes {V = V} reader.lookup a word next → (rest : List Reading) (reply : Reply V) → IsRemainder {V = V} next rest reply ↔ IsLookup V sh run.key sh.tries ((run.sofar ++ record { access = a; word = word; front = f } ∷ []) ++ rest) reply
left_more {V} sh reader run a word f next is takes rest reply =
    let reading : Reading = record { access = a; word = word; front = f } in
    let same : (run.sofar ++ reading ∷ []) ++ rest ≡ run.sofar ++ reading ∷ rest = append_assoc run.sofar (reading ∷ []) rest in
    subst (λ (rs : List Reading). IsRemainder {V = V} next rest reply ↔ IsLookup V sh run.key sh.tries rs reply) (sym same) (both_trans (takes.left f rest reply) (is.left (reading ∷ rest) reply))

-- the reading is the one that the lookup has next
reads_next : {V : ℕ} (sh : Shape) (seen : traces.Trace V) (reader : Reader V) (run : OpenLookup) (a : Access) (word : ℕ) (next : Lookup V) → IsOpenLookup V sh reader run → IsWordOf V sh (state_of V sh seen.acts).words a word → Consumes {V = V} reader.lookup a word next → ReadsNext V sh seen run (record { access = a; word = word; front = length seen.acts })
reads_next {V} sh seen reader run a word next is reads takes =
    let end = can_end V next in
    record {
      now = refl;
      word = reads;
      rest = end.0;
      reply = end.1;
      next = (is.left (record { access = a; word = word; front = length seen.acts } ∷ end.0) end.1).0 ((takes.left (length seen.acts) end.0 end.1).0 end.2);
    }

-- a lookup that has read before keeps the moment of its first reading
first_more : (sofar : List Reading) (reading : Reading) (key first events : ℕ) → first_read events (record { key = key; sofar = sofar ++ reading ∷ []; first = first }) ≡ first
first_more [] reading key first events = refl
first_more (x ∷ xs) reading key first events = refl

-- two accounts of an ended lookup with equal parts are equal
pub told_is : {V : ℕ} (r k key : ℕ) (reply : Reply V) (first f last e : ℕ) → k ≡ key → first ≡ f → last ≡ e → ◌≡◌ {A = Done V} (record { reader = r; key = k; reply = reply; first = first; last = last }) (record { reader = r; key = key; reply = reply; first = f; last = e })
told_is r k key reply first f last e a b c = rw (a, b, c) refl

-- the access that ends a lookup
pub access_ends : {V : ℕ} (old new : Parts V) (seen : traces.Trace V) (r : ℕ) (reader : Reader V) (a : Access) (word : ℕ) (next : Lookup V) (reply : Reply V) (done : Done V) (mid : List (Option (Reader V))) → StandFor {V = V} old seen → slice_get old.readers.items r ≡ Some (Some reader) → old.events < 2 ^ 64 - 1 →
    IsWordOf V (shape_of_parts {V = V} old) (words_of_writer {V = V} old.writer) a word → Consumes {V = V} reader.lookup a word next → reply_now {V = V} next ≡ Some reply →
    done ≡ record { reader = r; key = next.key; reply = reply; first = unwrap_or reader.first old.events; last = old.events } →
    new.writer ≡ old.writer → new.bits.items ≡ bits_read old.bits.items a → mid ≡ old.readers.items → new.readers.items ≡ slice_set mid r None → new.events ≡ old.events + 1 →
    (x : traces.Trace V) × traces.StepsByClock V (shape_of_parts {V = V} old) seen (event.Read r) x × traces.EventGives {V = V} seen (event.Read r) x (stepped.Done done) × StandFor {V = V} new x
access_ends {V} old new seen r reader a word next reply done mid s at below reads takes over told writer bits kept readers events =
    let sh = shape_of_parts {V = V} old in
    let found = running_of {V = V} old seen r reader s at in
    let run : OpenLookup = found.0 in
    let is = found.2 in
    let reading : Reading = record { access = a; word = word; front = length seen.acts } in
    let word_now : IsWordOf V sh (state_of V sh seen.acts).words a word = subst (λ (y : State V). IsWordOf V sh y.words a word) s.shows.state reads in
    let whole : IsLookup V sh run.key sh.tries ((run.sofar ++ reading ∷ []) ++ []) reply = (left_more {V = V} sh reader run a word (length seen.acts) next is takes [] reply).0 (over_left {V = V} next reply over) in
    let looked : IsLookup V sh run.key sh.tries (run.sofar ++ reading ∷ []) reply = rw append-nil at whole in
    let ended : Ended V = record { told = record { reader = r; key = run.key; reply = reply; first = first_read seen.events run; last = seen.events }; read = run.sofar ++ reading ∷ []; stop = length seen.acts } in
    let key : next.key ≡ run.key = takes.key ∙ is.key in
    let first : unwrap_or reader.first old.events ≡ first_read seen.events run = is.first old.events ∙ ap (λ n. first_read n run) s.shows.events in (
      _,
      (run, reading, found.1, reads_next {V = V} sh seen reader run a word next is word_now takes, omega (arith, s.shows.events), inl (reply, looked, refl)),
      (ended, refl, sym (told ∙ told_is r next.key run.key reply (unwrap_or reader.first old.events) (first_read seen.events run) old.events seen.events key first s.shows.events)),
      stand_read {V = V} old new seen r None None (λ bs. bits_read bs a) (seen.ended ++ ended ∷ []) s writer bits (readers ∙ ap (λ rs. slice_set rs r None) kept) events tt,
    )

-- an access after which the lookup continues
pub access_goes_on : {V : ℕ} (old new : Parts V) (seen : traces.Trace V) (r : ℕ) (reader : Reader V) (a : Access) (word : ℕ) (next : Lookup V) (after : Reader V) (mid : List (Option (Reader V))) → StandFor {V = V} old seen → slice_get old.readers.items r ≡ Some (Some reader) → old.events < 2 ^ 64 - 1 →
    IsWordOf V (shape_of_parts {V = V} old) (words_of_writer {V = V} old.writer) a word → Consumes {V = V} reader.lookup a word next → reply_now {V = V} next ≡ None →
    after.lookup ≡ next → after.first ≡ Some (unwrap_or reader.first old.events) →
    new.writer ≡ old.writer → new.bits.items ≡ bits_read old.bits.items a → mid ≡ old.readers.items → new.readers.items ≡ slice_set mid r (Some after) → new.events ≡ old.events + 1 →
    (x : traces.Trace V) × traces.StepsByClock V (shape_of_parts {V = V} old) seen (event.Read r) x × traces.EventGives {V = V} seen (event.Read r) x (stepped.Word word) × StandFor {V = V} new x
access_goes_on {V} old new seen r reader a word next after mid s at below reads takes on lookup_is first_is writer bits kept readers events =
    let sh = shape_of_parts {V = V} old in
    let found = running_of {V = V} old seen r reader s at in
    let run : OpenLookup = found.0 in
    let is = found.2 in
    let reading : Reading = record { access = a; word = word; front = length seen.acts } in
    let word_now : IsWordOf V sh (state_of V sh seen.acts).words a word = subst (λ (y : State V). IsWordOf V sh y.words a word) s.shows.state reads in
    let first : unwrap_or reader.first old.events ≡ first_read seen.events run = is.first old.events ∙ ap (λ n. first_read n run) s.shows.events in
    let more : OpenLookup = record { key = run.key; sofar = run.sofar ++ reading ∷ []; first = first_read seen.events run } in
    let unended : (reply : Reply V) → IsLookup V sh run.key sh.tries (run.sofar ++ reading ∷ []) reply → ⊥ =
    λ reply looked. going_left {V = V} next reply on ((left_more {V = V} sh reader run a word (length seen.acts) next is takes [] reply).1 (rw append-nil looked)) in
    let running : IsOpenLookup V sh after more =
    record {
      shape = ap (λ (l : Lookup V). shape_for {V = V} l) lookup_is ∙ ap (λ (y : Checked). shape_of y) takes.shape ∙ is.shape;
      key = ap (λ (l : Lookup V). l.key) lookup_is ∙ takes.key ∙ is.key;
      left = λ rest reply. subst (λ (l : Lookup V). IsRemainder {V = V} l rest reply ↔ IsLookup V sh run.key sh.tries ((run.sofar ++ reading ∷ []) ++ rest) reply) (sym lookup_is) (left_more {V = V} sh reader run a word (length seen.acts) next is takes rest reply);
      first = λ n. ap (λ (o : Option ℕ). unwrap_or o n) first_is ∙ first ∙ sym (first_more run.sofar reading run.key (first_read seen.events run) n);
      more = subst (λ (l : Lookup V). IsSome (next_access {V = V} l)) (sym lookup_is) (going_at {V = V} next next.stage on);
    } in (
      _,
      (run, reading, found.1, reads_next {V = V} sh seen reader run a word next is word_now takes, omega (arith, s.shows.events), inr (unended, refl)),
      (more, run.sofar, reading, set_there seen.readers r (Some more) (Some run) found.1, refl, refl),
      stand_read {V = V} old new seen r (Some after) (Some more) (λ bs. bits_read bs a) seen.ended s writer bits (readers ∙ ap (λ rs. slice_set rs r (Some after)) kept) events running,
    )

-- the beginning of a lookup
pub begins : {V : ℕ} (old new : Parts V) (seen : traces.Trace V) (r key : ℕ) (after : Reader V) → StandFor {V = V} old seen → slice_get seen.readers r ≡ Some None → key < 2 ^ 64 → old.events < 2 ^ 64 - 1 →
    shape_for {V = V} after.lookup ≡ shape_of_parts {V = V} old → after.lookup.key ≡ key → ((rs : List Reading) (reply : Reply V) → IsRemainder {V = V} after.lookup rs reply ↔ IsLookup V (shape_of_parts {V = V} old) key (shape_of_parts {V = V} old).tries rs reply) → IsSome (next_access {V = V} after.lookup) → after.first ≡ None →
    new.writer ≡ old.writer → new.bits.items ≡ old.bits.items → new.readers.items ≡ slice_set old.readers.items r (Some after) → new.events ≡ old.events + 1 →
    (x : traces.Trace V) × traces.StepsByClock V (shape_of_parts {V = V} old) seen (event.Begin r key) x × traces.EventGives {V = V} seen (event.Begin r key) x stepped.Nothing × StandFor {V = V} new x
begins {V} old new seen r key after s idle range below shape key_is left more first writer bits readers events =
    let run : OpenLookup = record { key = key; sofar = []; first = 0 } in
    let running : IsOpenLookup V (shape_of_parts {V = V} old) after run = record {
      shape = shape;
      key = key_is;
      left = left;
      first = λ n. ap (λ (o : Option ℕ). unwrap_or o n) first;
      more = more;
    } in (
      _,
      (idle, range, omega (arith, s.shows.events), refl),
      refl,
      stand_read {V = V} old new seen r (Some after) (Some run) (λ bs. bs) seen.ended s writer bits readers events running,
    )

-- a mark among the accesses of a table is one of an item
pub marks_in : (V : ℕ) (sh : Shape) (a : Access) → IsAccess V sh a → MarksIn sh.items a
marks_in V sh (access.Mark i) l = l
marks_in V sh (access.Version t) l = tt
marks_in V sh (access.Slot p) l = tt
marks_in V sh (access.Key i) l = tt
marks_in V sh (access.Value i j) l = tt
marks_in V sh (access.Stamp i) l = tt
marks_in V sh access.Moment l = tt
