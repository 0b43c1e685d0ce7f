-- Every reached trace is sound, and every lookup that ended has a true answer.
use Rattle.std.proofs.Common.{ℕ, zero, suc, ◌≡◌, ◌+◌, ◌^◌, ◌<◌, ◌≤◌, ◌⊎◌, List, [], ◌∷◌, ◌++◌, length, get_or, replicate, Option, Some, None, refl, ap, sym, subst, inl, inr, arith}
use Rattle.std.specs.Prelude.{slice_get, slice_set}
use Rattle.std.specs.List.{All}
use Rattle.std.proofs.lemmas.List.{length_push}
use Rattle.std.proofs.lemmas.List.Elements.{All-push, All-weaker}
use Rattle.mc_theory.specs.Lists.{IsLawful, Made}
use Rattle.mc_theory.specs.Lookups.{IsLookup}
use Rattle.mc_theory.specs.Phases.{close_owed}
use Rattle.mc_theory.specs.Readings.{AreRead, IsWordOf, Reading, RiseTo}
use Rattle.mc_theory.specs.States.{State}
use Rattle.mc_theory.specs.Traces.{OpenLookup, Ended, Trace, ReadsNext, Steps, StepsAll, start_of, first_trace, first_read, IsTrueEnd, TracesAreTrue}
use Rattle.mc_theory.specs.declared.event.Event.{Event}
use Rattle.mc_theory.specs.declared.event.Event.TheVariants.{Write, Begin, Read}
use Rattle.mc_words.specs.Shapes.{IsShape}
use Rattle.mc_theory.proofs.Lists.Fronts.{front_all, lawful_none, lawful_push}
use Rattle.mc_theory.proofs.Lists.Growth.{readings_stay}
use Rattle.mc_theory.proofs.Replies.TrueReplies.{lookup_true}
use Rattle.mc_theory.proofs.Lists.Readings.{read_push, rise_on, rise_push}
use Rattle.mc_words.specs.declared.shape.Shape.{Shape}

-- ---- what holds of a reader
pub record IsSound (V : ℕ) (sh : Shape) (acts : List Made) (k : ℕ) (rs : List Reading) (stop : ℕ) : Type 0 where
  pub in_range : k < 2 ^ 64
  pub read : AreRead V sh acts rs
  pub rise : RiseTo (start_of rs) rs stop
  pub fits : stop ≤ length acts

-- what was read so far stays sound when one more act is made
sound_push : (V : ℕ) (sh : Shape) (acts : List Made) (x : Made) (k : ℕ) (rs : List Reading) (stop g : ℕ) → stop ≤ g → g ≤ length acts + 1 → IsSound V sh acts k rs stop → IsSound V sh (acts ++ x ∷ []) k rs g
sound_push V sh acts x k rs stop g a b s = record {
  in_range = s.in_range;
  read = readings_stay V sh acts (x ∷ []) rs (start_of rs) (rise_on (start_of rs) rs stop (length acts) s.rise s.fits) s.read;
  rise = rise_on (start_of rs) rs stop g s.rise a;
  fits = omega (arith, length_push acts x);
}

-- one more reading at the last front keeps the fronts rising
rise_start : (rs : List Reading) (r : Reading) (e : ℕ) → r.front ≡ e → RiseTo (start_of rs) rs e → RiseTo (start_of (rs ++ r ∷ [])) (rs ++ r ∷ []) e
rise_start [] r e h up = (omega arith, omega arith)
rise_start (x ∷ xs) r e h up = (omega arith, rise_push x.front xs r e (rise_on x.front xs e r.front up.1 (omega arith)) (omega arith))

-- one more reading of the last state keeps a lookup sound
sound_more : (V : ℕ) (sh : Shape) (w : Trace V) (run : OpenLookup) (r : Reading) → IsSound V sh w.acts run.key run.sofar (length w.acts) → ReadsNext V sh w run r → IsSound V sh w.acts run.key (run.sofar ++ r ∷ []) (length w.acts)
sound_more V sh w run r s next = record {
  in_range = s.in_range;
  read = read_push V sh w.acts run.sofar r s.read (subst (λ (y : State V). IsWordOf V sh y.words r.access r.word) (sym (front_all V sh w.acts r.front (omega (arith, next.now)))) next.word, tt);
  rise = rise_start run.sofar r (length w.acts) next.now s.rise;
  fits = omega arith;
}

-- ---- the readers, by number
pub read_after_set : {A : Type 0} (xs : List A) (i r : ℕ) (o x : A) → slice_get (slice_set xs i o) r ≡ Some x → ((r ≡ i) × (o ≡ x)) ⊎ ((r ≡ i → ⊥) × (slice_get xs r ≡ Some x))
read_after_set [] i r o x e = absurd (cc)
read_after_set (y ∷ ys) zero zero o x e = inl (refl, cc)
read_after_set (y ∷ ys) zero (suc r) o x e = inr ((λ f. cc), e)
read_after_set (y ∷ ys) (suc i) zero o x e = inr ((λ f. cc), e)
read_after_set (y ∷ ys) (suc i) (suc r) o x e = elim (read_after_set ys i r o x e) [ inl new ↦ inl (ap suc new.0, new.1) | inr old ↦ inr ((λ f. old.0 (omega arith)), old.1) ]

-- no lookup runs in a list of idle readers
pub all_idle : (m r : ℕ) (run : OpenLookup) → slice_get (replicate {A = Option OpenLookup} m None) r ≡ Some (Some run) → ⊥
all_idle zero r run e = cc
all_idle (suc m) zero run e = cc
all_idle (suc m) (suc r) run e = all_idle m r run e

-- ---- what holds of a trace
abbrev pub EndedWell : (V : ℕ) → Shape → List Made → Ended V → Type 0
EndedWell V sh acts e = IsSound V sh acts e.told.key e.read e.stop × IsLookup V sh e.told.key sh.tries e.read e.told.reply

pub record WorldHolds (V : ℕ) (sh : Shape) (w : Trace V) : Type 0 where
  pub lawful : IsLawful V sh w.acts
  pub running : (r : ℕ) (run : OpenLookup) → slice_get w.readers r ≡ Some (Some run) → IsSound V sh w.acts run.key run.sofar (length w.acts)
  pub ended : All (EndedWell V sh w.acts) w.ended

-- ended lookups stay well ended when one more act is made
ended_push : (V : ℕ) (sh : Shape) (acts : List Made) (x : Made) (es : List (Ended V)) → All (EndedWell V sh acts) es → All (EndedWell V sh (acts ++ x ∷ [])) es
ended_push V sh acts x es all =
    All-weaker (EndedWell V sh acts) (EndedWell V sh (acts ++ x ∷ [])) (λ e a. (sound_push V sh acts x e.told.key e.read e.stop e.stop (omega arith) (omega (arith, a.0.fits)) a.0, a.1)) es all

-- of the same lookup the same holds
sound_of : (V : ℕ) (sh : Shape) (acts : List Made) (a b : OpenLookup) → Some a ≡ Some b → IsSound V sh acts a.key a.sofar (length acts) → IsSound V sh acts b.key b.sofar (length acts)
sound_of V sh acts a b e s =
    let is : a ≡ b = cc in
    subst (λ (y : OpenLookup). IsSound V sh acts y.key y.sofar (length acts)) is s

-- each event keeps it
pub step_holds : (V : ℕ) (sh : Shape) (w x : Trace V) (e : Event) → WorldHolds V sh w → Steps V sh w e x → WorldHolds V sh x
step_holds V sh w x (Write a) h s =
    let y : Made = record { act = a; bit = s.0 } in
    subst (λ (z : Trace V). WorldHolds V sh z) (sym s.3) (record {
      lawful = lawful_push V sh w.acts y h.lawful s.1;
      running = λ r run e. sound_push V sh w.acts y run.key run.sofar (length w.acts) (length (w.acts ++ y ∷ [])) (omega (arith, length_push w.acts y)) (omega (arith, length_push w.acts y)) (h.running r run e);
      ended = ended_push V sh w.acts y w.ended h.ended;
    })
step_holds V sh w x (Begin r k) h s =
    let new : OpenLookup = record { key = k; sofar = []; first = 0 } in
    subst (λ (z : Trace V). WorldHolds V sh z) (sym s.3) (record {
      lawful = h.lawful;
      running = λ q run e. elim (read_after_set w.readers r q (Some new) (Some run) e) [
        | inl is ↦ sound_of V sh w.acts new run is.1 (record { in_range = s.1; read = tt; rise = omega arith; fits = omega arith })
        | inr old ↦ h.running q run old.1
      ];
      ended = h.ended;
    })
step_holds V sh w x (Read r) h s =
    let run : OpenLookup = s.0 in
    let reading : Reading = s.1 in
    let sound = sound_more V sh w run reading (h.running r run s.2) s.3 in
    elim s.5 [
      | inl over ↦ subst (λ (z : Trace V). WorldHolds V sh z) (sym over.2) (record {
        lawful = h.lawful;
        running = λ q other e. elim (read_after_set w.readers r q None (Some other) e) [
          | inl is ↦ absurd (cc (is.1))
          | inr old ↦ h.running q other old.1
        ];
        ended = All-push (EndedWell V sh w.acts) w.ended _ h.ended (sound, over.1);
      })
      | inr more ↦
          let new : OpenLookup = record { key = run.key; sofar = run.sofar ++ reading ∷ []; first = first_read w.events run } in
          subst (λ (z : Trace V). WorldHolds V sh z) (sym more.1) (record {
            lawful = h.lawful;
            running = λ q other e. elim (read_after_set w.readers r q (Some new) (Some other) e) [
              | inl is ↦ sound_of V sh w.acts new other is.1 sound
              | inr old ↦ h.running q other old.1
            ];
            ended = h.ended;
          })
    ]

pub runs_hold : (V : ℕ) (sh : Shape) (w : Trace V) (es : List Event) (x : Trace V) → WorldHolds V sh w → StepsAll V sh w es x → WorldHolds V sh x
runs_hold V sh w [] x h r = subst (λ (z : Trace V). WorldHolds V sh z) (sym r) h
runs_hold V sh w (e ∷ es) x h r = runs_hold V sh r.0 es x (step_holds V sh w r.0 e h r.1) r.2

pub first_holds : (V : ℕ) (sh : Shape) (readers : ℕ) → WorldHolds V sh (first_trace V sh readers)
first_holds V sh readers = record {
  lawful = lawful_none V sh;
  running = λ r run e. absurd (all_idle readers r run e);
  ended = λ k d l. absurd (omega arith);
}

-- each lookup that ended returned the truth
pub ends_true : (V : ℕ) (sh : Shape) (w : Trace V) → IsShape sh → WorldHolds V sh w → All (IsTrueEnd V sh w) w.ended
ends_true V sh w shape h = λ k d l.
    let e = get_or w.ended k d in
    let a = h.ended k d l in
    let true = lookup_true V sh w.acts e.told.key sh.tries (start_of e.read) e.stop e.read e.told.reply shape h.lawful a.0.in_range a.0.fits a.0.read a.0.rise a.1 in
    record { looked = a.1; true = true.0; between = true.1 }

pub traces_are_true : (V : ℕ) → TracesAreTrue V
traces_are_true V sh readers es w shape close_owed =
    let h = runs_hold V sh (first_trace V sh readers) es w (first_holds V sh readers) close_owed in
    (h.lawful, ends_true V sh w shape h)
