-- From the parts of a world to the world: it is as some events leave it.
use Rattle.std.proofs.Common.{ℕ, Bool, true, false, ◌≡◌, ◌+◌, List, [], ◌∷◌, ◌++◌, refl, sym, ◌∙◌, ap, subst, inl, inr, arith}
use Rattle.std.specs.Prelude.{All, Result, Ok, Err, IfOk, IfErr, OnOk}
use Rattle.mc_theory.specs.Acts.{IsAllowedByClock}
use Rattle.mc_theory.specs.Lists.{state_of}
use Rattle.mc_theory.specs.States.{State}
use Rattle.mc_theory.specs.declared.act.Act.{Act}
use Rattle.mc_theory.specs.declared.act.Act.TheVariants as act
use Rattle.mc_theory.specs.declared.event.Event.TheVariants.{Write, Begin, Read}
use Rattle.mc_theory.specs.declared.event.Unlawful.TheVariants as unlawful
use Rattle.mc_words.specs.Shapes.{IsShape}
use Rattle.mc_words.specs.declared.shape.Shape.{Shape}
use Rattle.mc_core.specs.Inside.Parts.{shape_of_parts, view_of, StandFor, AreReached, MakesEvent, PartsRefuse}
use Rattle.mc_core.specs.Seen.{WorldView, Shows, MayAct}
use Rattle.mc_theory.specs.Traces as traces
use Rattle.mc_theory.specs.Traces.{Trace, IsWithin, HasVersionSteps, bit_of, given_of, StepsByClock, EventGives, StepsAllByClock, IsReached, IsTrueEnd, first_trace}
use Rattle.mc_theory.specs.declared.event.Event.{Event}
use Rattle.mc_theory.specs.declared.event.Stepped.{Stepped}
use Rattle.mc_theory.specs.declared.event.Unlawful.{Unlawful}
use Rattle.mc_core.specs.declared.parts.Parts.{Parts}
use Rattle.mc_theory.proofs.Events.Orders.{all_by_clock}
use Rattle.mc_theory.proofs.Events.ReachedTraces.{traces_are_true}

-- one event more
pub runs_push : (V : ℕ) (sh : Shape) (w : Trace V) (es : List Event) (x y : Trace V) (e : Event) → StepsAllByClock V sh w es x → StepsByClock V sh x e y → StepsAllByClock V sh w (es ++ e ∷ []) y
runs_push V sh w [] x y e r s = (y, subst (λ (z : Trace V). StepsByClock V sh z e y) r s, refl)
runs_push V sh w (d ∷ ds) x y e r s = (r.0, r.1, runs_push V sh r.0 ds x y e r.2 s)

-- more events, one after the other
pub runs_append : (V : ℕ) (sh : Shape) (w x y : Trace V) (es ds : List Event) → StepsAllByClock V sh w es x → StepsAllByClock V sh x ds y → StepsAllByClock V sh w (es ++ ds) y
runs_append V sh w x y [] ds r s = subst (λ (z : Trace V). StepsAllByClock V sh z ds y) r s
runs_append V sh w x y (e ∷ es) ds r s = (r.0, r.1, runs_append V sh r.0 x y es ds r.2 s)

-- a trace is reached from a reached one by more events
pub reached_append : (V : ℕ) (sh : Shape) (x y : Trace V) (es : List Event) → IsReached V sh x → StepsAllByClock V sh x es y → IsReached V sh y
reached_append V sh x y es r s = record { readers = r.readers; events = r.events ++ es; runs = runs_append V sh (first_trace V sh r.readers) x y r.events es r.runs s }

-- what has ended in a world that is reached replied truly
pub reached_true : (V : ℕ) (sh : Shape) (x : Trace V) → IsShape sh → IsReached V sh x → All (IsTrueEnd V sh x) x.ended
reached_true V sh x sound r = (traces_are_true V sh r.readers r.events x sound (all_by_clock V sh (first_trace V sh r.readers) x r.events r.runs)).1

-- and by one
pub reached_push : (V : ℕ) (sh : Shape) (x y : Trace V) (e : Event) → IsReached V sh x → StepsByClock V sh x e y → IsReached V sh y
reached_push V sh x y e r s = record { readers = r.readers; events = r.events ++ e ∷ []; runs = runs_push V sh (first_trace V sh r.readers) r.events x y e r.runs s }

-- what a step makes of parts that are reached
pub reached_after : {V : ℕ} (old new : Parts V) (e : Event) (r : Result (Stepped V) Unlawful) → AreReached {V = V} old → IfOk r (λ out. MakesEvent {V = V} old new e out) → IfErr r (λ why. PartsRefuse {V = V} old new e why) → AreReached {V = V} new
reached_after {V} old new e (Ok out) reached made refused =
    let next = made.leads reached.seen reached.stand in
    record {
      seen = next.0;
      stand = next.3;
      reached = subst (λ (sh : Shape). IsReached V sh next.0) (sym made.shape) (reached_push V (shape_of_parts {V = V} old) reached.seen next.0 e reached.reached next.1);
    }
reached_after {V} old new e (Err why) reached made refused =
    record {
      seen = reached.seen;
      stand = refused.stays reached.seen reached.stand;
      reached = subst (λ (sh : Shape). IsReached V sh reached.seen) (sym (ap (λ (s : WorldView V). s.shape) refused.kept)) reached.reached;
    }

-- the shape stays
pub shape_after : {V : ℕ} (old new : Parts V) (e : Event) (r : Result (Stepped V) Unlawful) → IfOk r (λ out. MakesEvent {V = V} old new e out) → IfErr r (λ why. PartsRefuse {V = V} old new e why) → shape_of_parts {V = V} new ≡ shape_of_parts {V = V} old
shape_after old new e (Ok out) made refused = made.shape
shape_after {V} old new e (Err why) made refused = ap (λ (s : WorldView V). s.shape) refused.kept

-- every event is counted
steps_count : (V : ℕ) (sh : Shape) (w x : Trace V) (e : Event) → StepsByClock V sh w e x → x.events ≡ w.events + 1
steps_count V sh w x (Write a) s = ap (λ (y : Trace V). y.events) s.2
steps_count V sh w x (Begin r k) s = ap (λ (y : Trace V). y.events) s.3
steps_count V sh w x (Read r) s = elim s.5 [
  | inl over ↦ ap (λ (y : Trace V). y.events) over.2
  | inr more ↦ ap (λ (y : Trace V). y.events) more.1
]

-- an event that is made is counted
pub counted_after : {V : ℕ} (old new : Parts V) (e : Event) (r : Result (Stepped V) Unlawful) → AreReached {V = V} old → IfOk r (λ out. MakesEvent {V = V} old new e out) → OnOk r (new.events ≡ old.events + 1)
counted_after {V} old new e (Ok out) reached made =
    let next = made.leads reached.seen reached.stand in
    next.3.shows.events ∙ steps_count V (shape_of_parts {V = V} old) reached.seen next.0 e next.1 ∙ ap (λ n. n + 1) (sym reached.stand.shows.events)
counted_after old new e (Err why) reached made = made

-- an act that is allowed and passes no limit is refused only without memory, and only if it counts a change
refused_act : (V : ℕ) (sh : Shape) (w : Trace V) (a : Act) (why : Unlawful) → traces.RefusesEvent {V = V} sh w (Write a) why → IsAllowedByClock sh (state_of V sh w.acts) a → IsWithin {V = V} sh w (Write a) → (why ≡ unlawful.NoMemory) × (a ≡ act.Moment)
refused_act V sh w a unlawful.NotLawful h may within = absurd (h may)
refused_act V sh w a unlawful.Limit h may within = absurd (h.1 within)
refused_act V sh w act.Moment unlawful.NoMemory h may within = (refl, refl)
refused_act V sh w (act.Open k d) unlawful.NoMemory h may within = absurd h
refused_act V sh w (act.Slot p x) unlawful.NoMemory h may within = absurd h
refused_act V sh w (act.Item i j x) unlawful.NoMemory h may within = absurd h
refused_act V sh w act.Close unlawful.NoMemory h may within = absurd h
refused_act V sh w (act.Hand i) unlawful.NoMemory h may within = absurd h
refused_act V sh w (act.Mark i) unlawful.NoMemory h may within = absurd h
refused_act V sh w a unlawful.NoReader h may within = absurd h
refused_act V sh w a unlawful.StillRunning h may within = absurd h

-- what is refused though it is allowed is a change, when there is no memory
pub lawful_after : {V : ℕ} (old new : Parts V) (e : Event) (r : Result (Stepped V) Unlawful) → AreReached {V = V} old → IfErr r (λ why. PartsRefuse {V = V} old new e why) → (a : Act) → e ≡ Write a → MayAct {V = V} (view_of {V = V} old) a → IfErr r (λ why. (why ≡ unlawful.NoMemory) × (a ≡ act.Moment))
lawful_after old new e (Ok out) reached refused a is may = refused
lawful_after {V} old new e (Err why) reached refused a is may =
    let sh = shape_of_parts {V = V} old in
    let shows = reached.stand.shows in
    let why_not = subst (λ (d : Event). traces.RefusesEvent {V = V} sh reached.seen d why) is (refused.refused reached.seen reached.stand) in
    let allowed = subst (λ (s : State V). IsAllowedByClock sh s a) shows.state may.0 in
    let has = subst (λ (s : State V). HasVersionSteps sh.limit s.version_steps a) shows.state may.1 in
    refused_act V sh reached.seen a why why_not allowed (omega (arith, may.2, shows.events), has)

-- and gives the bit that the hand read
pub given_after : {V : ℕ} (old new : Parts V) (e : Event) (r : Result (Stepped V) Unlawful) → AreReached {V = V} old → IfOk r (λ out. MakesEvent {V = V} old new e out) → (a : Act) → e ≡ Write a → IfOk r (λ out. out ≡ given_of {V = V} (bit_of old.bits.items a) a)
given_after {V} old new e (Ok out) reached made a is =
    let next = made.leads reached.seen reached.stand in
    let gives = subst (λ (d : Event). EventGives {V = V} reached.seen d next.0 out) is next.2 in
    gives ∙ ap (λ (bits : List ℕ). given_of {V = V} (bit_of bits a) a) (sym reached.stand.shows.bits)
given_after old new e (Err why) reached made a is = made

-- what the parts show is enough, if they are reached
pub stand_for : {V : ℕ} (p : Parts V) (seen : Trace V) → AreReached {V = V} p → Shows {V = V} (view_of {V = V} p) seen → StandFor {V = V} p seen
stand_for {V} p seen reached shows = record { shows = shows; used = reached.stand.used; within = reached.stand.within }

-- and so of every trace of events that is shown
pub leads_shown : {V : ℕ} (old new : Parts V) (e : Event) (r : Result (Stepped V) Unlawful) → AreReached {V = V} old → IfOk r (λ out. MakesEvent {V = V} old new e out) →
    IfOk r (λ out. (seen : Trace V) → Shows {V = V} (view_of {V = V} old) seen → (next : Trace V) × StepsByClock V (shape_of_parts {V = V} old) seen e next × EventGives {V = V} seen e next out × Shows {V = V} (view_of {V = V} new) next)
leads_shown {V} old new e (Ok out) reached made = λ seen shows. let next = made.leads seen (stand_for {V = V} old seen reached shows) in (next.0, next.1, next.2, next.3.shows)
leads_shown old new e (Err why) reached made = made

-- and a refusal is one in every trace that is shown
pub refused_shown : {V : ℕ} (old new : Parts V) (e : Event) (r : Result (Stepped V) Unlawful) → AreReached {V = V} old → IfErr r (λ why. PartsRefuse {V = V} old new e why) →
    IfErr r (λ why. (seen : Trace V) → Shows {V = V} (view_of {V = V} old) seen → traces.RefusesEvent {V = V} (shape_of_parts {V = V} old) seen e why)
refused_shown {V} old new e (Err why) reached refused = λ seen shows. refused.refused seen (stand_for {V = V} old seen reached shows)
refused_shown old new e (Ok out) reached refused = refused

-- ---- why an event is refused
-- whether there was no memory
abbrev pub is_wanting : Unlawful → Bool
is_wanting unlawful.NoMemory = true
is_wanting why = false

-- it wasn't if the event was refused for another reason
pub not_wanting : {A : Type 0} (why : Unlawful) → is_wanting why ≡ false → why ≡ unlawful.NoMemory → A
not_wanting why other is = absurd (cc (other, ap is_wanting is))
