-- What a list of events makes of a new world is plainly true.
use Rattle.std.proofs.Common.{ℕ, ◌≡◌, List, Option, subst, sym}
use Rattle.std.specs.Prelude.{All}
use Rattle.std.proofs.lemmas.List.Elements.{All-map}
use Rattle.mc_core.specs.Runs.{RunsTruly}
use Rattle.mc_core.specs.Seen.{WorldView, Shows}
use Rattle.mc_core.specs.declared.outcome.Run.{Run}
use Rattle.mc_theory.proofs.Events.Orders.{all_by_clock}
use Rattle.mc_theory.proofs.Events.Spans.{traces_are_plainly_true}
use Rattle.mc_theory.specs.Plain.{IsPlainlyTrue, events_made}
use Rattle.mc_theory.specs.Traces.{Ended, HasRun, Trace, first_trace}
use Rattle.mc_theory.specs.declared.event.Done.{Done}
use Rattle.mc_theory.specs.declared.event.Event.{Event}
use Rattle.mc_theory.specs.declared.event.Unlawful.{Unlawful}
use Rattle.mc_words.specs.Shapes.{IsShape}
use Rattle.mc_words.specs.declared.shape.Shape.{Shape}

-- a run of a world that shows a new one leads from the new one
pub made_anew : {V : ℕ} (sh : Shape) (old new : WorldView V) (readers : ℕ) (events : List Event) (run : Run V) → old.shape ≡ sh → Shows {V = V} old (first_trace V sh readers) →
    ((seen : Trace V) → Shows {V = V} old seen → (x : Trace V) × RunsTruly {V = V} old new events run seen x) → (x : Trace V) × HasRun V sh (first_trace V sh readers) x events run.done.items run.stopped
made_anew {V} sh old new readers events run shape shows runs =
    let ran = runs (first_trace V sh readers) shows in
    (ran.0, subst (λ (y : Shape). HasRun V y (first_trace V sh readers) ran.0 events run.done.items run.stopped) shape ran.1.made)

-- what lookups that ended in a new world returned is plainly true of the events that were made
pub plainly_anew : {V : ℕ} (sh : Shape) (readers : ℕ) (x : Trace V) (events : List Event) (done : List (Done V)) (stopped : Option (ℕ × Unlawful)) → IsShape sh → HasRun V sh (first_trace V sh readers) x events done stopped →
    All (IsPlainlyTrue (events_made events stopped)) done
plainly_anew {V} sh readers x events done stopped shape ran =
    let es = events_made events stopped in
    let all = traces_are_plainly_true V sh readers es x shape (all_by_clock V sh (first_trace V sh readers) x es ran.runs) in
    subst (λ (ds : List (Done V)). All (IsPlainlyTrue es) ds) (sym ran.told)
    (All-map (IsPlainlyTrue es) (λ (e : Ended V). e.told) ran.ended (subst (λ (ys : List (Ended V)). All (λ e. IsPlainlyTrue es e.told) ys) ran.more all))
