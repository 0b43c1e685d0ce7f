-- What a list of events makes of a world in memory.
use Rattle.std.specs.Prelude.{ℕ, All, List}
use Rattle.mc_core.specs.Seen.{WorldView, Shows}
use Rattle.mc_core.specs.declared.outcome.Run.{Run}
use Rattle.mc_theory.specs.Traces.{Trace, HasRun, IsReached, IsTrueEnd}
use Rattle.mc_theory.specs.declared.event.Event.{Event}

-- the events that were made lead from one trace of events to another, which is then shown; if the one was reached, so is the other, and
-- each lookup that has ended there returned the truth
pub record RunsTruly {V : ℕ} (old new : WorldView V) (events : List Event) (run : Run V) (seen x : Trace V) : Type 0 where
  pub made : HasRun V old.shape seen x events run.done.items run.stopped
  pub shows : Shows new x
  pub reached : IsReached V old.shape seen → IsReached V old.shape x
  pub true : IsReached V old.shape seen → All (IsTrueEnd V old.shape x) x.ended
