-- What traces of events owe to the plain words: the history that the acts make, and the span of each lookup that ended.
use Rattle.std.specs.Prelude.{ℕ, ◌≡◌, All, List, length, take}
use Rattle.mc_words.specs.Shapes.{IsShape}
use Rattle.mc_words.specs.declared.shape.Shape.{Shape}
use Rattle.mc_theory.specs.Lists.{front, state_of}
use Rattle.mc_theory.specs.Plain.{IsPlainlyTrue, IsSpan, acts_in, history_of}
use Rattle.mc_theory.specs.Traces.{Ended, StepsAll, Trace, first_trace, start_of}
use Rattle.mc_theory.specs.declared.event.Event.{Event}

-- after each number of events, the front of the acts among them has the history that they make
abbrev pub EventsTellHistories : ℕ → Type 0
EventsTellHistories V =
    (sh : Shape) (readers : ℕ) (es : List Event) (w : Trace V) → StepsAll V sh (first_trace V sh readers) es w →
    ((state_of V sh w.acts).history ≡ history_of V es) ×
    ((n : ℕ) → (front V sh w.acts (length (acts_in (take n es)))).history ≡ history_of V (take n es))

-- the lookup has its span in these events, and the fronts of its first reading and of its last are the acts before these
pub record IsSpanned {V : ℕ} (es : List Event) (e : Ended V) : Type 0 where
  pub span : IsSpan es e.told
  pub start : start_of e.read ≡ length (acts_in (take e.told.first es))
  pub stop : e.stop ≡ length (acts_in (take e.told.last es))

-- whatever the events are: each lookup that has ended reports its first access and its last
abbrev pub EndsTellSpans : ℕ → Type 0
EndsTellSpans V =
    (sh : Shape) (readers : ℕ) (es : List Event) (w : Trace V) → StepsAll V sh (first_trace V sh readers) es w → All (IsSpanned es) w.ended

-- whatever the events are: each lookup that has ended has a plainly true reply
abbrev pub TracesArePlainlyTrue : ℕ → Type 0
TracesArePlainlyTrue V =
    (sh : Shape) (readers : ℕ) (es : List Event) (w : Trace V) → IsShape sh → StepsAll V sh (first_trace V sh readers) es w → All (λ e. IsPlainlyTrue es e.told) w.ended
