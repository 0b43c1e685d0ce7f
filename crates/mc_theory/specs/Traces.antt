-- A trace: one writer and some readers, each event one atomic step.
use Rattle.std.specs.Prelude.{ℕ, ◌≡◌, ◌≢◌, ◌+◌, ◌-◌, ◌^◌, ◌<◌, ◌≤◌, ◌⊎◌, List, [], ◌∷◌, ◌++◌, All, length, map, Option, Some, None, slice_get, slice_set, slice_index, replicate}
use Rattle.mc_words.specs.History.{IsTrueAnswer}
use Rattle.mc_words.specs.Shapes.{IsShape}
use Rattle.mc_words.specs.declared.history.Reply.{Reply}
use Rattle.mc_words.specs.declared.shape.Shape.{Shape}
use Rattle.mc_theory.specs.Acts.{IsAllowed, IsAllowedByClock}
use Rattle.mc_theory.specs.Lists.{Made, IsLawful, state_of, front}
use Rattle.mc_theory.specs.Lookups.{IsLookup}
use Rattle.mc_theory.specs.Plain.{IsBetween, events_made}
use Rattle.mc_theory.specs.Readings.{Reading, IsWordOf}
use Rattle.mc_theory.specs.declared.access.Access.{Access}
use Rattle.mc_theory.specs.declared.access.Access.TheVariants as access
use Rattle.mc_theory.specs.declared.act.Act.{Act}
use Rattle.mc_theory.specs.declared.act.Act.TheVariants as act
use Rattle.mc_theory.specs.declared.event.Done.{Done}
use Rattle.mc_theory.specs.declared.event.Event.{Event}
use Rattle.mc_theory.specs.declared.event.Event.TheVariants.{Write, Begin, Read}
use Rattle.mc_theory.specs.declared.event.Stepped.{Stepped}
use Rattle.mc_theory.specs.declared.event.Stepped.TheVariants as stepped
use Rattle.mc_theory.specs.declared.event.Unlawful.{Unlawful}
use Rattle.mc_theory.specs.declared.event.Unlawful.TheVariants as unlawful

-- a lookup that runs: its key, what it has read, and the number of the event that made its first reading
pub record OpenLookup : Type 0 where
  pub key : ℕ
  pub sofar : List Reading
  pub first : ℕ

-- a lookup that has ended, what it read, and how many acts the writer had made then
pub record Ended (V : ℕ) : Type 0 where
  pub told : Done V
  pub read : List Reading
  pub stop : ℕ

-- bits are the recency bits, by item; events counts the events so far
pub record Trace (V : ℕ) : Type 0 where
  pub acts : List Made
  pub bits : List ℕ
  pub readers : List (Option OpenLookup)
  pub ended : List (Ended V)
  pub events : ℕ

-- a new trace
abbrev pub first_trace : (V : ℕ) → Shape → ℕ → Trace V
first_trace V sh readers = record { acts = []; bits = replicate sh.items 0; readers = replicate readers None; ended = []; events = 0 }

-- what a recency bit may be
abbrev pub IsBit : ℕ → Type 0
IsBit b = (b ≡ 0) ⊎ (b ≡ 1)

-- the bit that an act reads, and the bits after it
abbrev pub bit_of : List ℕ → Act → ℕ
bit_of bits (act.Hand i) = slice_index bits i
bit_of bits _ = 0

abbrev pub bits_after : List ℕ → Act → List ℕ
bits_after bits (act.Hand i) = slice_set bits i 0
bits_after bits (act.Mark i) = slice_set bits i 1
bits_after bits _ = bits

-- the bits after an access: a mark sets one
abbrev pub bits_read : List ℕ → Access → List ℕ
bits_read bits (access.Mark i) = slice_set bits i 1
bits_read bits _ = bits

-- what an act gives: the bit, if the hand read it
abbrev pub given_of : {V : ℕ} → ℕ → Act → Stepped V
given_of bit (act.Hand i) = stepped.Word bit
given_of bit _ = stepped.Nothing

-- the event is lawful, whatever was counted
abbrev pub IsLawfulNow : {V : ℕ} → Shape → Trace V → Event → Type 0
IsLawfulNow {V} sh w (Write a) = IsAllowedByClock sh (state_of V sh w.acts) a
IsLawfulNow sh w (Begin r k) = (slice_get w.readers r ≡ Some None) × (k < 2 ^ 64)
IsLawfulNow sh w (Read r) = (run : OpenLookup) × (slice_get w.readers r ≡ Some (Some run))

-- after an open two version changes have to be left
abbrev pub HasVersionSteps : ℕ → ℕ → Act → Type 0
HasVersionSteps limit changes (act.Open k d) = changes + 2 ≤ limit
HasVersionSteps limit changes _ = Unit {0}

-- the event passes no limit
abbrev pub IsWithin : {V : ℕ} → Shape → Trace V → Event → Type 0
IsWithin {V} sh w (Write a) = (w.events < 2 ^ 64 - 1) × HasVersionSteps sh.limit (state_of V sh w.acts).version_steps a
IsWithin sh w _ = w.events < 2 ^ 64 - 1

-- why an event is refused
abbrev pub RefusesEvent : {V : ℕ} → Shape → Trace V → Event → Unlawful → Type 0
RefusesEvent {V} sh w (Write a) unlawful.NotLawful = IsAllowedByClock sh (state_of V sh w.acts) a → ⊥
RefusesEvent sh w (Read r) unlawful.NotLawful = slice_get w.readers r ≡ Some None
RefusesEvent sh w (Begin r k) unlawful.NoReader = length w.readers ≤ r
RefusesEvent sh w (Read r) unlawful.NoReader = length w.readers ≤ r
RefusesEvent sh w (Begin r k) unlawful.StillRunning = (run : OpenLookup) × (slice_get w.readers r ≡ Some (Some run))
RefusesEvent sh w e unlawful.Limit = IsLawfulNow sh w e × (IsWithin sh w e → ⊥)
RefusesEvent sh w (Write act.Moment) unlawful.NoMemory = IsLawfulNow sh w (Write act.Moment) × IsWithin sh w (Write act.Moment)
RefusesEvent sh w _ _ = ⊥

-- the number of the first reading, if this event makes one
abbrev pub first_read : ℕ → OpenLookup → ℕ
first_read events run = first_of run.sofar
  where
    first_of : List Reading → ℕ
    first_of [] = events
    first_of (r ∷ rs) = run.first

-- the reading reads the words now, and is the one that some lookup has next
pub record ReadsNext (V : ℕ) (sh : Shape) (w : Trace V) (run : OpenLookup) (r : Reading) : Type 0 where
  pub now : r.front ≡ length w.acts
  pub word : IsWordOf V sh (state_of V sh w.acts).words r.access r.word
  pub rest : List Reading
  pub reply : Reply V
  pub next : IsLookup V sh run.key sh.tries (run.sofar ++ r ∷ rest) reply

-- the lookup continues, or ends with a reply
abbrev pub EndsRead : (V : ℕ) → Shape → Trace V → ℕ → OpenLookup → Reading → Trace V → Type 0
EndsRead V sh w r run reading x =
    (reply : Reply V) × IsLookup V sh run.key sh.tries (run.sofar ++ reading ∷ []) reply ×
    (x ≡ record w {
      bits = bits_read w.bits reading.access;
      readers = slice_set w.readers r None;
      ended = w.ended ++ record { told = record { reader = r; key = run.key; reply = reply; first = first_read w.events run; last = w.events }; read = run.sofar ++ reading ∷ []; stop = length w.acts } ∷ [];
      events = w.events + 1;
    })

abbrev pub ContinuesRead : (V : ℕ) → Shape → Trace V → ℕ → OpenLookup → Reading → Trace V → Type 0
ContinuesRead V sh w r run reading x =
    ((reply : Reply V) → IsLookup V sh run.key sh.tries (run.sofar ++ reading ∷ []) reply → ⊥) ×
    (x ≡ record w {
      bits = bits_read w.bits reading.access;
      readers = slice_set w.readers r (Some (record { key = run.key; sofar = run.sofar ++ reading ∷ []; first = first_read w.events run }));
      events = w.events + 1;
    })

-- the trace with one act more, and the bit that it read
abbrev pub with_act : {V : ℕ} → Trace V → Act → ℕ → Trace V
with_act w a bit = record w { acts = w.acts ++ record { act = a; bit = bit } ∷ []; bits = bits_after w.bits a; events = w.events + 1 }

-- a reader begins a lookup, or reads a word
abbrev pub Begins : (V : ℕ) → Shape → Trace V → ℕ → ℕ → Trace V → Type 0
Begins V sh w r k x =
    (slice_get w.readers r ≡ Some None) × (k < 2 ^ 64) × IsWithin sh w (Begin r k) ×
    (x ≡ record w { readers = slice_set w.readers r (Some (record { key = k; sofar = []; first = 0 })); events = w.events + 1 })

abbrev pub ReadsOn : (V : ℕ) → Shape → Trace V → ℕ → Trace V → Type 0
ReadsOn V sh w r x =
    (run : OpenLookup) × (reading : Reading) × (slice_get w.readers r ≡ Some (Some run)) × ReadsNext V sh w run reading × IsWithin sh w (Read r) × (
    EndsRead V sh w r run reading x ⊎ ContinuesRead V sh w r run reading x)

-- the event leads from one trace to the other: an act is any lawful one, and the hand reads whatever bit
abbrev pub Steps : (V : ℕ) → Shape → Trace V → Event → Trace V → Type 0
Steps V sh w (Write a) x = (bit : ℕ) × IsAllowed sh (state_of V sh w.acts) a × IsWithin sh w (Write a) × (x ≡ with_act w a bit)
Steps V sh w (Begin r k) x = Begins V sh w r k x
Steps V sh w (Read r) x = ReadsOn V sh w r x

-- the same in CLOCK's order, and the hand reads the bit that its item has
abbrev pub StepsByClock : (V : ℕ) → Shape → Trace V → Event → Trace V → Type 0
StepsByClock V sh w (Write a) x = IsAllowedByClock sh (state_of V sh w.acts) a × IsWithin sh w (Write a) × (x ≡ with_act w a (bit_of w.bits a))
StepsByClock V sh w (Begin r k) x = Begins V sh w r k x
StepsByClock V sh w (Read r) x = ReadsOn V sh w r x

-- what an event that leads from one trace to the other gives: an access gives the word that it read, and the access that ends a lookup
-- gives what is then returned
abbrev pub EventGives : {V : ℕ} → Trace V → Event → Trace V → Stepped V → Type 0
EventGives w (Write a) x out = out ≡ given_of (bit_of w.bits a) a
EventGives w (Begin r k) x out = out ≡ stepped.Nothing
EventGives w (Read r) x (stepped.Word n) = (run : OpenLookup) × (was : List Reading) × (reading : Reading) × (slice_get x.readers r ≡ Some (Some run)) × (run.sofar ≡ was ++ reading ∷ []) × (reading.word ≡ n)
EventGives w (Read r) x (stepped.Done done) = (e : Ended _) × (x.ended ≡ w.ended ++ e ∷ []) × (e.told ≡ done)
EventGives w (Read r) x stepped.Nothing = ⊥

-- the events lead from one trace to the other, one after the other
abbrev pub StepsAll : (V : ℕ) → Shape → Trace V → List Event → Trace V → Type 0
StepsAll V sh w [] x = x ≡ w
StepsAll V sh w (e ∷ es) x = (mid : Trace V) × Steps V sh w e mid × StepsAll V sh mid es x

abbrev pub StepsAllByClock : (V : ℕ) → Shape → Trace V → List Event → Trace V → Type 0
StepsAllByClock V sh w [] x = x ≡ w
StepsAllByClock V sh w (e ∷ es) x = (mid : Trace V) × StepsByClock V sh w e mid × StepsAllByClock V sh mid es x

-- when a run stopped, the next event is refused, and not because there is no memory
abbrev pub StopsAt : {V : ℕ} → Shape → Trace V → List Event → Option (ℕ × Unlawful) → Type 0
StopsAt sh w events None = Unit {0}
StopsAt sh w events (Some stop) = (e : Event) × (slice_get events stop.0 ≡ Some e) × RefusesEvent sh w e stop.1 × (stop.1 ≢ unlawful.NoMemory)

-- the events lead from one trace to the other, up to the first that is refused; done is what the lookups that ended returned
pub record HasRun (V : ℕ) (sh : Shape) (w x : Trace V) (events : List Event) (done : List (Done V)) (stopped : Option (ℕ × Unlawful)) : Type 0 where
  pub runs : StepsAllByClock V sh w (events_made events stopped) x
  pub ended : List (Ended V)
  pub more : x.ended ≡ w.ended ++ ended
  pub told : done ≡ map (λ e. e.told) ended
  pub stops : StopsAt sh x events stopped

-- some events lead to the trace from a new one, in CLOCK's order
pub record IsReached (V : ℕ) (sh : Shape) (w : Trace V) : Type 0 where
  pub readers : ℕ
  pub events : List Event
  pub runs : StepsAllByClock V sh (first_trace V sh readers) events w

-- the front of the first reading
abbrev pub start_of : List Reading → ℕ
start_of [] = 0
start_of (r ∷ rs) = r.front

-- the reply is that of the words read, and true at a moment between the first reading and the last
pub record IsTrueEnd (V : ℕ) (sh : Shape) (w : Trace V) (e : Ended V) : Type 0 where
  pub looked : IsLookup V sh e.told.key sh.tries e.read e.told.reply
  pub true : IsTrueAnswer (state_of V sh w.acts).history e.told.key e.told.reply
  pub between : IsBetween (length (front V sh w.acts (start_of e.read)).history) (length (front V sh w.acts e.stop).history) e.told.reply

-- whatever the events are: the writer's acts are lawful, and each lookup that has ended has a true reply
abbrev pub TracesAreTrue : ℕ → Type 0
TracesAreTrue V =
    (sh : Shape) (readers : ℕ) (es : List Event) (w : Trace V) → IsShape sh → StepsAll V sh (first_trace V sh readers) es w →
    IsLawful V sh w.acts × All (IsTrueEnd V sh w) w.ended

-- whatever the events are: there is a recency bit for each item, and each is 0 or 1
abbrev pub BitsStay : ℕ → Type 0
BitsStay V =
    (sh : Shape) (readers : ℕ) (es : List Event) (w : Trace V) → StepsAll V sh (first_trace V sh readers) es w → (length w.bits ≡ sh.items) × All IsBit w.bits
