-- A world makes a list of events.
use Rattle.std.proofs.Common.{ℕ, ◌≡◌, ◌≤◌, List, [], ◌∷◌, ◌++◌, map, Option, Some, None, refl, sym, ◌∙◌, ap, subst, inl, inr, arith}
use Rattle.std.specs.Prelude.{slice_get}
use Rattle.std.proofs.lemmas.List.{append-nil, append_assoc, map-append}
use Rattle.mc_words.specs.declared.shape.Shape.{Shape}
use Rattle.mc_core.specs.Inside.Parts.{shape_of_parts, view_of, StandFor, AreReached, MakesEvent, PartsRefuse, MakesEvents}
use Rattle.mc_core.specs.Inside.Writers.{room_of}
use Rattle.mc_core.specs.Seen.{WorldView, Shows}
use Rattle.mc_theory.specs.Plain.{events_made}
use Rattle.mc_theory.specs.Traces as traces
use Rattle.mc_theory.specs.Traces.{Trace, OpenLookup, Ended, given_of, bit_of, StepsByClock, EventGives, StepsAllByClock, IsReached, StopsAt, HasRun, first_trace}
use Rattle.mc_theory.specs.declared.act.Act.{Act}
use Rattle.mc_theory.specs.declared.act.Act.TheVariants as act
use Rattle.mc_theory.specs.declared.event.Done.{Done}
use Rattle.mc_theory.specs.declared.event.Event.{Event}
use Rattle.mc_theory.specs.declared.event.Event.TheVariants.{Write, Begin, Read}
use Rattle.mc_theory.specs.declared.event.Stepped.{Stepped}
use Rattle.mc_theory.specs.declared.event.Stepped.TheVariants as stepped
use Rattle.mc_theory.specs.declared.event.Unlawful.{Unlawful}
use Rattle.mc_core.specs.declared.parts.Parts.{Parts}
use Rattle.mc_core.proofs.PairedLists.{set_there}
use Rattle.mc_core.proofs.WorldSteps.{runs_append, stand_for}

-- what an event returned
abbrev pub done_of : {V : ℕ} → Stepped V → List (Done V)
done_of (stepped.Done done) = done ∷ []
done_of _ = []

-- a writer's act ends no lookup
act_tells_none : (V bit : ℕ) (a : Act) → done_of {V = V} (given_of {V = V} bit a) ≡ []
act_tells_none V bit (act.Hand i) = refl
act_tells_none V bit (act.Open k d) = refl
act_tells_none V bit (act.Slot p x) = refl
act_tells_none V bit (act.Item i j x) = refl
act_tells_none V bit act.Moment = refl
act_tells_none V bit act.Close = refl
act_tells_none V bit (act.Mark i) = refl

abbrev pub Tells : {V : ℕ} → Trace V → Trace V → List (Done V) → Type 0
Tells {V} w x done = (ended : List (Ended V)) × (x.ended ≡ w.ended ++ ended) × (done ≡ map (λ e. e.told) ended)

-- an event that ends no lookup reports nothing
tells_none : {V : ℕ} (w x : Trace V) (done : List (Done V)) → x.ended ≡ w.ended → done ≡ [] → Tells {V = V} w x done
tells_none {V} w x done same none = ([], same ∙ sym (append-nil w.ended), none)

-- an event reports the lookups that it ends
event_tells : (V : ℕ) (sh : Shape) (w x : Trace V) (e : Event) (out : Stepped V) → StepsByClock V sh w e x → EventGives {V = V} w e x out → Tells {V = V} w x (done_of {V = V} out)
event_tells V sh w x (Write a) out s gives = tells_none {V = V} w x (done_of {V = V} out) (ap (λ (y : Trace V). y.ended) s.2) (ap (λ (o : Stepped V). done_of {V = V} o) gives ∙ act_tells_none V (bit_of w.bits a) a)
event_tells V sh w x (Begin r k) out s gives = tells_none {V = V} w x (done_of {V = V} out) (ap (λ (y : Trace V). y.ended) s.3) (ap (λ (o : Stepped V). done_of {V = V} o) gives)
event_tells V sh w x (Read r) (stepped.Done done) s gives = (gives.0 ∷ [], gives.1, ap (λ d. d ∷ []) (sym gives.2))
event_tells V sh w x (Read r) stepped.Nothing s gives = absurd gives
event_tells V sh w x (Read r) (stepped.Word n) s gives =
    elim s.5 [
      | inl over ↦
          let none : slice_get x.readers r ≡ Some None = ap (λ (y : Trace V). slice_get y.readers r) over.2 ∙ set_there w.readers r None (Some s.0) s.2 in
          absurd (ended_not gives.0 (sym gives.3 ∙ none))
      | inr more ↦ tells_none {V = V} w x [] (ap (λ (y : Trace V). y.ended) more.1) refl
    ]
  where
    ended_not : (run : OpenLookup) → ◌≡◌ {A = Option (Option OpenLookup)} (Some (Some run)) (Some None) → ⊥
    ended_not run e = cc (e)

-- an event that was made
pub made_one : {V : ℕ} (old new : Parts V) (e : Event) (out : Stepped V) (before after : List (Done V)) → MakesEvent {V = V} old new e out → after ≡ before ++ done_of {V = V} out → MakesEvents {V = V} old new (e ∷ []) before after
made_one {V} old new e out before after made told = record {
  shape = made.shape;
  made = λ seen s.
      let next = made.leads seen s in
      let more = event_tells V (shape_of_parts {V = V} old) seen next.0 e out next.1 next.2 in
      (next.0, (next.0, next.1, refl), next.3, (more.0, more.1, told ∙ ap (λ ys. before ++ ys) more.2));
}

-- some events, and then some more
pub made_then : {V : ℕ} (old mid new : Parts V) (es ds : List Event) (before between after : List (Done V)) → MakesEvents {V = V} old mid es before between → MakesEvents {V = V} mid new ds between after → MakesEvents {V = V} old new (es ++ ds) before after
made_then {V} old mid new es ds before between after first second = record {
  shape = second.shape ∙ first.shape;
  made = λ seen s.
      let now = first.made seen s in
      let next = second.made now.0 now.2 in
      let told : Ended V → Done V = λ e. e.told in
      let runs = subst (λ (sh : Shape). StepsAllByClock V sh now.0 ds next.0) first.shape next.1 in (
        next.0,
        runs_append V (shape_of_parts {V = V} old) seen now.0 next.0 es ds now.1 runs,
        next.2,
        (
          now.3.0 ++ next.3.0,
          next.3.1 ∙ ap (λ ys. ys ++ next.3.0) now.3.1 ∙ append_assoc seen.ended now.3.0 next.3.0,
          next.3.2 ∙ ap (λ ys. ys ++ map told next.3.0) now.3.2 ∙ append_assoc before (map told now.3.0) (map told next.3.0) ∙ ap (λ ys. before ++ ys) (sym (map-append told now.3.0 next.3.0)),
        ),
      );
}

-- an event refused
pub made_same : {V : ℕ} (old mid new : Parts V) (es : List Event) (e : Event) (why : Unlawful) (before after now : List (Done V)) → MakesEvents {V = V} old mid es before after → PartsRefuse {V = V} mid new e why → now ≡ after → MakesEvents {V = V} old new es before now
made_same {V} old mid new es e why before after now so_far refused silent = record {
  shape = ap (λ (s : WorldView V). s.shape) refused.kept ∙ so_far.shape;
  made = λ seen s.
      let made = so_far.made seen s in
      (made.0, made.1, refused.stays made.0 made.2, (made.3.0, made.3.1, silent ∙ made.3.2));
}

-- where a list of events stops, if there was room
pub stops_at : {V : ℕ} (old new : Parts V) (es : List Event) (i : ℕ) (e : Event) (why : Unlawful) (known : Trace V) → StandFor {V = V} old known → slice_get es i ≡ Some e → PartsRefuse {V = V} old new e why → 1 ≤ room_of {V = V} old.writer →
    (seen : Trace V) → StandFor {V = V} new seen → StopsAt {V = V} (shape_of_parts {V = V} new) seen es (Some (i, why))
stops_at {V} old new es i e why known stands at refused room = λ seen s.
    let before : StandFor {V = V} old seen = record { shows = subst (λ (shown : WorldView V). Shows {V = V} shown seen) refused.kept s.shows; used = stands.used; within = stands.within } in
    let shape = ap (λ (shown : WorldView V). shown.shape) refused.kept in
    (e, at, subst (λ (sh : Shape). traces.RefusesEvent {V = V} sh seen e why) (sym shape) (refused.refused seen before), λ wanting. let none = refused.full wanting in absurd (omega arith))

-- the parts are as one more list of events leaves them
pub reached_made : {V : ℕ} (old new : Parts V) (es : List Event) (before after : List (Done V)) → AreReached {V = V} old → MakesEvents {V = V} old new es before after → AreReached {V = V} new
reached_made {V} old new es before after reached made =
    let sh = shape_of_parts {V = V} old in
    let next = made.made reached.seen reached.stand in
    let so_far = reached.reached in
    record {
      seen = next.0;
      stand = next.2;
      reached = subst (λ (y : Shape). IsReached V y next.0) (sym made.shape) (record { readers = so_far.readers; events = so_far.events ++ es; runs = runs_append V sh (first_trace V sh so_far.readers) reached.seen next.0 so_far.events es so_far.runs next.1 });
    }

-- what a run promises of every trace of events that is shown
pub has_run : {V : ℕ} (old new : Parts V) (events : List Event) (done : List (Done V)) (stopped : Option (ℕ × Unlawful)) → AreReached {V = V} old → MakesEvents {V = V} old new (events_made events stopped) [] done →
    ((seen : Trace V) → StandFor {V = V} new seen → StopsAt {V = V} (shape_of_parts {V = V} new) seen events stopped) →
    (seen : Trace V) → Shows {V = V} (view_of {V = V} old) seen → (x : Trace V) × HasRun V (shape_of_parts {V = V} old) seen x events done stopped × Shows {V = V} (view_of {V = V} new) x
has_run {V} old new events done stopped reached made stops = λ seen shows.
    let next = made.made seen (stand_for {V = V} old seen reached shows) in (
      next.0,
      record {
        runs = next.1;
        ended = next.3.0;
        more = next.3.1;
        told = next.3.2;
        stops = subst (λ (sh : Shape). StopsAt {V = V} sh next.0 events stopped) made.shape (stops next.0 next.2);
      },
      next.2.shows,
    )
