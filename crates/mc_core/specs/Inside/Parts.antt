-- The parts of a world in memory.
use Rattle.std.specs.Prelude.{ℕ, ◌≡◌, ◌+◌, ◌≤◌, List, ◌++◌, map}
use Rattle.mc_words.specs.declared.shape.Shape.{Shape}
use Rattle.mc_theory.specs.Phases.{close_owed}
use Rattle.mc_core.specs.Seen.{WorldView, Shows, state_after}
use Rattle.mc_theory.specs.Traces as traces
use Rattle.mc_core.specs.Inside.Writers.{shape_of_writer, state_in, phase_at, room_of, UsedWell}
use Rattle.mc_theory.specs.declared.event.Done.{Done}
use Rattle.mc_theory.specs.declared.event.Event.{Event}
use Rattle.mc_theory.specs.declared.event.Stepped.{Stepped}
use Rattle.mc_theory.specs.declared.event.Unlawful.{Unlawful}
use Rattle.mc_theory.specs.declared.event.Unlawful.TheVariants as unlawful
use Rattle.mc_core.specs.declared.parts.Parts.{Parts}

abbrev pub shape_of_parts : {V : ℕ} → Parts V → Shape
shape_of_parts p = shape_of_writer p.writer

-- what they show
abbrev pub view_of : {V : ℕ} → Parts V → WorldView V
view_of p = record { shape = shape_of_writer p.writer; state = state_in p.writer; bits = p.bits.items; readers = p.readers.items; events = p.events }

-- they show these events; the flags of the table are right, and the close of a running deed passes no limit
pub record StandFor {V : ℕ} (p : Parts V) (seen : traces.Trace V) : Type 0 where
  pub shows : Shows (view_of p) seen
  pub used : UsedWell p.writer.table
  pub within : p.writer.version_steps + close_owed (phase_at p.writer.written p.writer.progress) ≤ (shape_of_writer p.writer).limit

-- they are as some events leave them, from a new world on
pub record AreReached {V : ℕ} (p : Parts V) : Type 0 where
  pub seen : traces.Trace V
  pub stand : StandFor p seen
  pub reached : traces.IsReached V (shape_of_parts p) seen

-- the event was made, and gave this; it took room for one change at most
pub record MakesEvent {V : ℕ} (old new : Parts V) (e : Event) (out : Stepped V) : Type 0 where
  pub shape : shape_of_parts new ≡ shape_of_parts old
  pub state : (view_of new).state ≡ state_after (view_of old) e
  pub room : room_of old.writer ≤ room_of new.writer + 1
  pub leads : (seen : traces.Trace V) → StandFor old seen → (next : traces.Trace V) × traces.StepsByClock V (shape_of_parts old) seen e next × traces.EventGives seen e next out × StandFor new next

-- the event was refused, and nothing is changed; the reason is memory only if there was no room for a change
pub record PartsRefuse {V : ℕ} (old new : Parts V) (e : Event) (why : Unlawful) : Type 0 where
  pub kept : view_of new ≡ view_of old
  pub full : why ≡ unlawful.NoMemory → room_of old.writer ≡ 0
  pub refused : (seen : traces.Trace V) → StandFor old seen → traces.RefusesEvent (shape_of_parts old) seen e why
  pub stays : (seen : traces.Trace V) → StandFor old seen → StandFor new seen

-- these events were made, and `after` is `before` with what the lookups that ended in them returned
pub record MakesEvents {V : ℕ} (old new : Parts V) (events : List Event) (before after : List (Done V)) : Type 0 where
  pub shape : shape_of_parts new ≡ shape_of_parts old
  pub made : (seen : traces.Trace V) → StandFor old seen → (x : traces.Trace V) × traces.StepsAllByClock V (shape_of_parts old) seen events x × StandFor new x ×
      ((ended : List (traces.Ended V)) × (x.ended ≡ seen.ended ++ ended) × (after ≡ before ++ map (λ e. e.told) ended))
