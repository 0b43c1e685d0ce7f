-- What follows of a world in memory from the trace of events that it shows.
use Rattle.std.proofs.Common.{ℕ, true, ◌≡◌, ◌+◌, ◌-◌, ◌^◌, ◌<◌, ◌≤◌, List, [], ◌∷◌, ◌++◌, Option, sym, ◌∙◌, ap, subst, arith}
use Rattle.std.specs.Prelude.{Result, Ok, Err, OnOk, OnErr, false, slice_get}
use Rattle.std.specs.Result.{is_err}
use Rattle.std.proofs.lemmas.Bool.{false≢true}
use Rattle.mc_words.specs.Checks.{shape_of}
use Rattle.mc_words.specs.declared.checked.Checked.{Checked}
use Rattle.mc_theory.specs.Lists.{Made, IsLawful, state_of}
use Rattle.mc_words.specs.declared.shape.Shape.{Shape}
use Rattle.mc_theory.specs.Acts.{MayFrom, IsAllowed, IsAllowedByClock}
use Rattle.mc_theory.specs.Effects.{phase_after, version_steps_after, after_act}
use Rattle.mc_theory.specs.Inner.{StateHolds, StateCounted}
use Rattle.mc_theory.specs.Phases.{Phase, Quiet, close_owed}
use Rattle.mc_core.specs.Seen.{WorldView, Both, IsOpenLookup, Shows}
use Rattle.mc_core.specs.Inside.Seen.{ReadsIn}
use Rattle.mc_core.specs.Inside.Parts.{shape_of_parts, view_of, StandFor, PartsRefuse}
use Rattle.mc_theory.specs.States.{State}
use Rattle.mc_theory.specs.Traces as traces
use Rattle.mc_core.specs.Inside.Writers.{state_in, words_of_writer, phase_at, room_of, UsedWell, IsMade, KeepsWriter}
use Rattle.mc_theory.specs.declared.act.Act.{Act}
use Rattle.mc_theory.specs.declared.act.Act.TheVariants.{Open, Slot, Item, Moment, Close, Hand, Mark}
use Rattle.mc_theory.specs.declared.event.Event.TheVariants.{Write}
use Rattle.mc_theory.specs.declared.event.Unlawful.TheVariants as unlawful
use Rattle.mc_core.specs.declared.parts.Parts.{Parts}
use Rattle.mc_core.specs.declared.reader.Reader.{Reader}
use Rattle.mc_core.specs.declared.table.Table.{Table}
use Rattle.mc_theory.proofs.Lists.Bounds.{state_counted, state_hand}
use Rattle.mc_theory.proofs.Lists.Fronts.{state_holds, state_push, lawful_push}
use Rattle.mc_theory.proofs.Invariant.Limits.{within_after}

-- the invariant holds of a state that stands for a trace
pub holds_of : {V : ℕ} (parts : Parts V) (seen : traces.Trace V) → StandFor {V = V} parts seen → StateHolds (shape_of_parts {V = V} parts) (state_in {V = V} parts.writer)
holds_of {V} parts seen s = subst (λ (y : State V). StateHolds (shape_of_parts {V = V} parts) y) (sym s.shows.state) (state_holds V (shape_of_parts {V = V} parts) seen.acts parts.writer.table.checked.sound s.shows.lawful)

-- so do the bounds on its version steps
pub counted_of : {V : ℕ} (parts : Parts V) (seen : traces.Trace V) → StandFor {V = V} parts seen → StateCounted (shape_of_parts {V = V} parts) (state_in {V = V} parts.writer)
counted_of {V} parts seen s = subst (λ (y : State V). StateCounted (shape_of_parts {V = V} parts) y) (sym s.shows.state) (state_counted V (shape_of_parts {V = V} parts) seen.acts parts.writer.table.checked.sound s.shows.lawful)

-- and its hand is on an item
pub hand_of : {V : ℕ} (parts : Parts V) (seen : traces.Trace V) → StandFor {V = V} parts seen → parts.writer.hand < (shape_of_parts {V = V} parts).items
hand_of {V} parts seen s = subst (λ (y : State V). y.hand < (shape_of_parts {V = V} parts).items) (sym s.shows.state) (state_hand V (shape_of_parts {V = V} parts) seen.acts parts.writer.table.checked.sound)

-- an allowed act is on the bit of an item
pub reads_in : (V : ℕ) (sh : Shape) (w : List ℕ) (hand : ℕ) (cleared : Option ℕ) (p : Phase) (a : Act) → MayFrom V sh w hand cleared p a → ReadsIn sh.items a
reads_in V sh w hand cleared Quiet (Hand i) may = may
reads_in V sh w hand cleared Quiet (Mark i) may = may
reads_in V sh w hand cleared p (Open k d) may = tt
reads_in V sh w hand cleared p (Slot q x) may = tt
reads_in V sh w hand cleared p (Item i j x) may = tt
reads_in V sh w hand cleared p Moment may = tt
reads_in V sh w hand cleared p Close may = tt
reads_in V sh w hand cleared _ _ may = absurd may

-- a result that is no error is a success
pub ok_of : {A E : Type 0} (r : Result A E) (P : Type 0) → is_err r ≡ false → OnOk r P → P
ok_of (Ok x) P e h = h
ok_of (Err x) P e h = absurd (false≢true (sym e))

-- the parts after an act that was made
pub stand_after : {V : ℕ} (old new : Parts V) (seen : traces.Trace V) (a : Act) → StandFor {V = V} old seen → IsAllowed (shape_of_parts {V = V} old) (state_in {V = V} old.writer) a → traces.HasVersionSteps (shape_of_parts {V = V} old).limit old.writer.version_steps a →
    IsMade {V = V} old.writer new.writer a (traces.bit_of old.bits.items a) → new.bits.items ≡ traces.bits_after old.bits.items a → new.readers.items ≡ old.readers.items → new.events ≡ old.events + 1 →
    StandFor {V = V} new (record { acts = seen.acts ++ record { act = a; bit = traces.bit_of seen.bits a } ∷ []; bits = traces.bits_after seen.bits a; readers = seen.readers; ended = seen.ended; events = seen.events + 1 })
stand_after {V} old new seen a s may has made bits readers events =
    let sh = shape_of_parts {V = V} old in
    let shown = s.shows in
    let same : shape_of_parts {V = V} new ≡ sh = ap (λ (y : Checked). shape_of y) made.shape in
    let m : Made = record { act = a; bit = traces.bit_of seen.bits a } in
    let allowed : IsAllowed sh (state_of V sh seen.acts) a = subst (λ (y : State V). IsAllowed sh y a) shown.state may in
    let state : state_in {V = V} new.writer ≡ state_of V sh (seen.acts ++ m ∷ []) =
    made.state ∙ ap (λ (y : State V). after_act sh y a (traces.bit_of old.bits.items a)) shown.state ∙ ap (λ (y : List ℕ). after_act sh (state_of V sh seen.acts) a (traces.bit_of y a)) shown.bits ∙ sym (state_push V sh seen.acts m) in
    let changes : new.writer.version_steps ≡ version_steps_after old.writer.version_steps a = ap (λ (y : State V). y.version_steps) made.state in
    let phase : phase_at new.writer.written new.writer.progress ≡ phase_after (phase_at old.writer.written old.writer.progress) a = ap (λ (y : State V). y.phase) made.state in
    let close = within_after V sh (words_of_writer {V = V} old.writer) old.writer.hand old.writer.cleared old.writer.version_steps sh.limit (phase_at old.writer.written old.writer.progress) a may has s.within in
    let now : (r : ℕ) → Both (Both (IsOpenLookup V sh)) (slice_get new.readers.items r) (slice_get seen.readers r) =
    λ r. subst (λ (y : List (Option (Reader V))). Both (Both (IsOpenLookup V sh)) (slice_get y r) (slice_get seen.readers r)) (sym readers) (shown.readers r) in
    record {
      shows = record {
        lawful = subst (λ (y : Shape). IsLawful V y (seen.acts ++ m ∷ [])) (sym same) (lawful_push V sh seen.acts m shown.lawful allowed);
        state = subst (λ (y : Shape). state_in {V = V} new.writer ≡ state_of V y (seen.acts ++ m ∷ [])) (sym same) state;
        bits = bits ∙ ap (λ (y : List ℕ). traces.bits_after y a) shown.bits;
        readers = λ r. subst (λ (y : Shape). Both (Both (IsOpenLookup V y)) (slice_get new.readers.items r) (slice_get seen.readers r)) (sym same) (now r);
        events = events ∙ ap (λ y. y + 1) shown.events;
      };
      used = made.used;
      within = subst (λ (y : Shape). new.writer.version_steps + close_owed (phase_at new.writer.written new.writer.progress) ≤ y.limit) (sym same) (omega (arith, close, changes, ap close_owed phase));
    }

-- ---- an act for which there was no memory
pub err_of : {A E : Type 0} (r : Result A E) (P : Type 0) → is_err r ≡ true → OnErr r P → P
err_of (Err x) P e h = h
err_of (Ok x) P e h = absurd (false≢true e)

-- parts that show the same stand for the same trace
stand_kept : {V : ℕ} (old new : Parts V) (seen : traces.Trace V) → StandFor {V = V} old seen → KeepsWriter {V = V} old.writer new.writer → view_of {V = V} new ≡ view_of {V = V} old → StandFor {V = V} new seen
stand_kept {V} old new seen s kept same = record {
  shows = subst (λ (v : WorldView V). Shows {V = V} v seen) (sym same) s.shows;
  used = subst (λ (t : Table V). UsedWell {V = V} t) (sym kept.table) s.used;
  within = omega (arith, s.within, ap (λ (y : State V). y.version_steps) kept.state, ap (λ (y : State V). close_owed y.phase) kept.state, ap (λ (v : WorldView V). v.shape.limit) same);
}

-- an allowed moment is refused if the history has no room left
pub memory_wanting : {V : ℕ} (old new : Parts V) (a : Act) → a ≡ Moment → IsAllowedByClock (shape_of_parts {V = V} old) (state_in {V = V} old.writer) a → old.events < 2 ^ 64 - 1 → KeepsWriter {V = V} old.writer new.writer → view_of {V = V} new ≡ view_of {V = V} old → room_of {V = V} old.writer ≡ 0 →
    PartsRefuse {V = V} old new (Write a) unlawful.NoMemory
memory_wanting {V} old new a is may within kept same none = record {
  kept = same;
  full = λ wanting. none;
  refused = λ seen s.
      let sh = shape_of_parts {V = V} old in
      let allowed = subst (λ (b : Act). IsAllowedByClock sh (state_of V sh seen.acts) b) is (subst (λ (y : State V). IsAllowedByClock sh y a) s.shows.state may) in
      subst (λ (b : Act). traces.RefusesEvent {V = V} sh seen (Write b) unlawful.NoMemory) (sym is) (allowed, (omega (arith, within, s.shows.events), tt));
  stays = λ seen s. stand_kept old new seen s kept same;
}
