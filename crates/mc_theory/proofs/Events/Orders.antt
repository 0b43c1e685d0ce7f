-- CLOCK's order is one of the lawful orders.
use Rattle.std.proofs.Common.{ℕ, List, [], ◌∷◌}
use Rattle.mc_words.specs.declared.shape.Shape.{Shape}
use Rattle.mc_theory.specs.Traces.{Steps, StepsAll, StepsByClock, StepsAllByClock, Trace, bit_of}
use Rattle.mc_theory.specs.declared.event.Event.{Event}
use Rattle.mc_theory.specs.declared.event.Event.TheVariants.{Write, Begin, Read}

step_by_clock : (V : ℕ) (sh : Shape) (w x : Trace V) (e : Event) → StepsByClock V sh w e x → Steps V sh w e x
step_by_clock V sh w x (Write a) s = (bit_of w.bits a, s.0.0, s.1, s.2)
step_by_clock V sh w x (Begin r k) s = s
step_by_clock V sh w x (Read r) s = s

pub all_by_clock : (V : ℕ) (sh : Shape) (w x : Trace V) (es : List Event) → StepsAllByClock V sh w es x → StepsAll V sh w es x
all_by_clock V sh w x [] s = s
all_by_clock V sh w x (e ∷ es) s = (s.0, step_by_clock V sh w s.0 e s.1, all_by_clock V sh s.0 x es s.2)
