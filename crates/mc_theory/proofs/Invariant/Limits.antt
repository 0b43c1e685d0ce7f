-- A running deed can be closed within the limit on version changes.
use Rattle.std.proofs.Common.{ℕ, ◌+◌, ◌≤◌, List, Option, arith}
use Rattle.mc_theory.specs.Acts.{MayFrom}
use Rattle.mc_theory.specs.Effects.{version_steps_after, phase_after}
use Rattle.mc_theory.specs.Phases.{Closing, Filling, Keyed, Moved, Moving, Phase, Placed, Quiet, Removed, Removing, Renewing, close_owed}
use Rattle.mc_theory.specs.Traces as traces
use Rattle.mc_theory.specs.declared.act.Act.{Act}
use Rattle.mc_theory.specs.declared.act.Act.TheVariants.{Open, Slot, Item, Moment, Close, Hand, Mark}
use Rattle.mc_theory.specs.declared.act.Deed.TheVariants as deed
use Rattle.mc_words.specs.declared.shape.Shape.{Shape}

-- the close of a running deed passes no limit
pub within_after : (V : ℕ) (sh : Shape) (w : List ℕ) (hand : ℕ) (cleared : Option ℕ) (c limit : ℕ) (p : Phase) (a : Act) → MayFrom V sh w hand cleared p a → traces.HasVersionSteps limit c a → c + close_owed p ≤ limit → version_steps_after c a + close_owed (phase_after p a) ≤ limit
within_after V sh w hand cleared c limit Quiet (Open k deed.Fill) may has l = omega (arith, has)
within_after V sh w hand cleared c limit Quiet (Open k deed.Renew) may has l = omega (arith, has)
within_after V sh w hand cleared c limit Quiet (Open k deed.Remove) may has l = omega (arith, has)
within_after V sh w hand cleared c limit Quiet (Open k deed.Evict) may has l = omega (arith, has)
within_after V sh w hand cleared c limit Quiet (Open k deed.Move) may has l = omega (arith, has)
within_after V sh w hand cleared c limit Quiet (Hand i) may has l = l
within_after V sh w hand cleared c limit Quiet (Mark i) may has l = l
within_after V sh w hand cleared c limit (Filling k) (Item i j x) may has l = l
within_after V sh w hand cleared c limit (Keyed k i xs) (Item g j x) may has l = l
within_after V sh w hand cleared c limit (Keyed k i xs) (Slot q x) may has l = l
within_after V sh w hand cleared c limit (Placed k i xs) Moment may has l = l
within_after V sh w hand cleared c limit (Renewing k xs) (Item i j x) may has l = l
within_after V sh w hand cleared c limit (Renewing k xs) Moment may has l = l
within_after V sh w hand cleared c limit (Removing k e) (Slot q x) may has l = l
within_after V sh w hand cleared c limit (Removed k e) Moment may has l = l
within_after V sh w hand cleared c limit (Moving k) (Slot q x) may has l = l
within_after V sh w hand cleared c limit (Moved k f) (Slot q x) may has l = l
within_after V sh w hand cleared c limit (Closing k) Close may has l = omega (arith, l)
within_after V sh w hand cleared c limit _ _ may has l = absurd may
