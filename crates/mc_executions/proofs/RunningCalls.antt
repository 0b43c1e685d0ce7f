-- When the answers of running calls are true.
use Rattle.std.proofs.Common.{⊎_elim, ℕ, ◌^◌, ◌<◌, List, arith}
use Rattle.mc_words.specs.Shapes.{IsShape}
use Rattle.mc_words.specs.declared.history.Change.{Change}
use Rattle.mc_words.specs.declared.history.Reply.{Reply}
use Rattle.mc_words.specs.declared.history.Reply.TheVariants.{Found, Absent, Busy}
use Rattle.mc_words.specs.declared.shape.Shape.{Shape}
use Rattle.mc_theory.specs.Lists.{Made, state_of}
use Rattle.mc_shared.specs.Records.{ReaderRecord, WriterRecord}
use Rattle.mc_reader.specs.Records.{HasLooked}
use Rattle.mc_cache.specs.Plain.{TellsNow, history}
use Rattle.mc_cache.specs.Turns.{HasLookedOrMet}
use Rattle.mc_executions.specs.RunningCalls.{IsTimedThroughout, LookupIsTimed}
use Rattle.mc_executions.specs.TimedLookups.{HoldsNow}
use Rattle.mc_executions.proofs.Fallbacks.{fallbacks_are_timed, reads}
use Rattle.mc_executions.proofs.TimedLookups.{gets_are_timed, history_of, now_timed, still}

pub looked_is_timed : (V : ℕ) (sh : Shape) (k : ℕ) (old new : ReaderRecord) (reply : Reply V) → IsShape sh → k < 2 ^ 64 → HasLooked V sh k old new reply → LookupIsTimed V sh k old new reply
looked_is_timed V sh k old new reply shape small looked policy states run i j le h h' =
    let x = gets_are_timed V policy sh states run i j k old new reply shape small le (reads old (states i) h) (reads new (states j) h') looked in
    (x.0, x.1, x.2, x.3, omega (arith, x.4), x.5)

pub looked_or_met_is_timed : (V : ℕ) (sh : Shape) (k : ℕ) (old new : ReaderRecord) (reply : Reply V) → IsShape sh → k < 2 ^ 64 → HasLookedOrMet V sh k old new reply → LookupIsTimed V sh k old new reply
looked_or_met_is_timed V sh k old new reply shape small told policy states run i j le h h' = ⊎_elim
    (λ looked. looked_is_timed V sh k old new reply shape small looked policy states run i j le h h')
    (λ fallen. (i, j, omega arith, le, omega arith, fallbacks_are_timed V policy sh states run i j k old new reply shape small le h h' fallen))
    told

tells_hold : {V : ℕ} (h : List (Change V)) (k : ℕ) (reply : Reply V) → TellsNow h k reply → HoldsNow h k reply
tells_hold h k (Found v at since) x = x
tells_hold h k (Absent at) x = x
tells_hold h k Busy x = tt

-- what the writer's map holds now is true in each state while it makes no change
pub told_throughout : (V : ℕ) (sh : Shape) (k : ℕ) (acts : List Made) (reply : Reply V) → TellsNow (state_of V sh acts).history k reply → IsTimedThroughout V sh k acts acts reply
told_throughout V sh k acts reply told policy states run i j h h' n le le' =
    now_timed V sh states run n k _ reply (still V sh states run i j n _ (history_of V sh states run i acts h) (history_of V sh states run j acts h') le le') (tells_hold (state_of V sh acts).history k reply told)

pub told_by : (V : ℕ) (w : WriterRecord) (k : ℕ) (reply : Reply V) → TellsNow (history V w) k reply → TellsNow (state_of V w.of.layout.shape w.acts).history k reply
unfolding history
told_by V w k reply told = told
