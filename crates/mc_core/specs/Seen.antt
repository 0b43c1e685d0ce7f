-- What a world in memory shows of the trace of events that it is.
use Rattle.std.specs.Prelude.{ℕ, ◌≡◌, ◌-◌, ◌^◌, ◌<◌, ◌↔◌, List, ◌++◌, Option, Some, None, IsSome, slice_get, unwrap_or}
use Rattle.mc_words.specs.declared.history.Reply.{Reply}
use Rattle.mc_words.specs.declared.shape.Shape.{Shape}
use Rattle.mc_theory.specs.Acts.{IsAllowedByClock}
use Rattle.mc_theory.specs.Effects.{after_act}
use Rattle.mc_theory.specs.Lists.{IsLawful, state_of}
use Rattle.mc_theory.specs.Lookups.{IsLookup}
use Rattle.mc_lookup.specs.Machine.{shape_for, next_access, IsRemainder}
use Rattle.mc_theory.specs.Readings.{Reading}
use Rattle.mc_theory.specs.States.{State}
use Rattle.mc_theory.specs.Traces as traces
use Rattle.mc_theory.specs.Traces.{HasVersionSteps, bit_of}
use Rattle.mc_theory.specs.declared.act.Act.{Act}
use Rattle.mc_theory.specs.declared.event.Event.{Event}
use Rattle.mc_theory.specs.declared.event.Event.TheVariants as event
use Rattle.mc_core.specs.declared.reader.Reader.{Reader}

-- what callers see of a world: the readers whose lookup runs, and how many events were counted
pub record WorldView (V : ℕ) : Type 0 where
  pub shape : Shape
  pub state : State V
  pub bits : List ℕ
  pub readers : List (Option (Reader V))
  pub events : ℕ

-- what is there on both sides is related
abbrev pub Both : {A B : Type 0} → (A → B → Type 0) → Option A → Option B → Type 0
Both R None None = Unit {0}
Both R (Some a) (Some b) = R a b
Both R _ _ = ⊥

-- the lookup of a reader is one that runs: what is left of it are the readings that make a lookup after those so far
pub record IsOpenLookup (V : ℕ) (sh : Shape) (r : Reader V) (run : traces.OpenLookup) : Type 0 where
  pub shape : shape_for r.lookup ≡ sh
  pub key : r.lookup.key ≡ run.key
  pub left : (rest : List Reading) (reply : Reply V) → IsRemainder r.lookup rest reply ↔ IsLookup V sh run.key sh.tries (run.sofar ++ rest) reply
  pub first : (events : ℕ) → unwrap_or r.first events ≡ traces.first_read events run
  pub more : IsSome (next_access r.lookup)

-- the writer's state is that of the acts so far, which are lawful, and each reader's lookup is the one that runs
pub record Shows {V : ℕ} (shown : WorldView V) (seen : traces.Trace V) : Type 0 where
  pub lawful : IsLawful V shown.shape seen.acts
  pub state : shown.state ≡ state_of V shown.shape seen.acts
  pub bits : shown.bits ≡ seen.bits
  pub readers : (r : ℕ) → Both (Both (IsOpenLookup V shown.shape)) (slice_get shown.readers r) (slice_get seen.readers r)
  pub events : shown.events ≡ seen.events

-- the act is allowed now, and passes no limit
abbrev pub MayAct : {V : ℕ} → WorldView V → Act → Type 0
MayAct s a = IsAllowedByClock s.shape s.state a × HasVersionSteps s.shape.limit s.state.version_steps a × (s.events < 2 ^ 64 - 1)

-- the state of the writer after an event
abbrev pub state_after : {V : ℕ} → WorldView V → Event → State V
state_after s (event.Write a) = after_act s.shape s.state a (bit_of s.bits a)
state_after s _ = s.state
