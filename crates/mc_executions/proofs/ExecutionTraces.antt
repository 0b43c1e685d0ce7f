-- Each execution is a trace: by induction over its states.
use Rattle.std.specs.Prelude.{slice_get}
use Rattle.std.proofs.Common.{◌≡◌, ◌≢◌, ℕ, zero, suc, ◌*◌, ◌-◌, ◌^◌, ◌<◌, ◌≤◌, List, [], ◌∷◌, ◌++◌, replicate, refl, ap, sym, ◌∙◌, subst, arith, Some, None}
use mathlib.Core.Logic.{dite}
use native.Mathlib.Decide.{ℕ_discrete, dec_le}
use Rattle.mc_words.specs.declared.policy.Policy.{Policy}
use Rattle.mc_words.specs.Shapes.{IsShape}
use Rattle.mc_words.specs.declared.shape.Shape.{Shape}
use Rattle.mc_theory.specs.Acts.{IsAllowed}
use Rattle.mc_theory.specs.Effects.{after_act, version_steps_after}
use Rattle.mc_theory.specs.Lists.{Made, AreAllowed, IsLawful, after_all, state_of}
use Rattle.mc_theory.specs.Readings.{Reading}
use Rattle.mc_theory.specs.States.{State, opening}
use Rattle.mc_theory.specs.Traces.{HasVersionSteps, first_trace}
use Rattle.mc_theory.specs.declared.act.Act.{Act}
use Rattle.mc_theory.specs.declared.act.Act.TheVariants.{Open, Slot, Item, Moment, Close, Hand, Mark}
use Rattle.mc_theory.proofs.Lists.Fronts.{state_push}
use Rattle.mc_shared.specs.Views.{Tally, layout_with, new_writer_view}
use Rattle.mc_shared.proofs.ExactReadings.{readings_are_newest}
use lib.ListN.{get_elem?}
use Rattle.mc_executions.specs.Executions.{TableState, IsExecution, HasRecord}
use Rattle.mc_executions.specs.ExecutionTraces.{Parts, no_parts, AreEnded, IsOpen, AreMadeOf, IsMadeOf, ExecutionsAreTraces}
use Rattle.mc_executions.proofs.ExecutionSteps.{OneMove, nothing, one_act, one_entry, is_reader, log_is}
use Rattle.mc_executions.proofs.ExecutionRuns.{move}
use Rattle.mc_executions.proofs.StepMoves.{record_is_one}
use Rattle.mc_executions.proofs.TracedParts.{LastEntry, undo, none_made}
use Rattle.mc_executions.proofs.TraceEvents.{Sim, act_more, entry_more}

-- ---- the last act of a lawful list
allowed_last : {V : ℕ} (sh : Shape) (s : State V) (acts : List Made) (m : Made) → AreAllowed sh s (acts ++ m ∷ []) → IsAllowed sh (after_all sh s acts) m.act
allowed_last sh s [] m h = h.0
allowed_last sh s (x ∷ acts) m h = allowed_last sh (after_act sh s x.act x.bit) acts m h.1

lawful_last : (V : ℕ) (sh : Shape) (acts : List Made) (m : Made) → IsLawful V sh (acts ++ m ∷ []) → IsAllowed sh (state_of V sh acts) m.act
unfolding IsLawful state_of
lawful_last V sh acts m h = allowed_last sh (opening V sh) acts m h

steps_rise : (v : ℕ) (a : Act) → v ≤ version_steps_after v a
steps_rise v (Open k d) = omega arith
steps_rise v Close = omega arith
steps_rise v (Slot p x) = omega arith
steps_rise v (Item i j x) = omega arith
steps_rise v Moment = omega arith
steps_rise v (Hand i) = omega arith
steps_rise v (Mark i) = omega arith

-- an opening leaves a version change for its close
steps_left : (limit v : ℕ) (a : Act) → version_steps_after v a < limit → HasVersionSteps limit v a
steps_left limit v (Open k d) low = omega (arith, low)
steps_left limit v Close low = tt
steps_left limit v (Slot p x) low = tt
steps_left limit v (Item i j x) low = tt
steps_left limit v Moment low = tt
steps_left limit v (Hand i) low = tt
steps_left limit v (Mark i) low = tt

idle : {A : Type 0} (n i : ℕ) (x : A) → i < n → slice_get (replicate n x) i ≡ Some x
idle zero i x low = absurd (omega (arith, low))
idle (suc n) zero x low = refl
idle (suc n) (suc i) x low = idle n i x (omega (arith, low))

-- the parts of all readers, with those of one exchanged
abbrev exchanged : {V : ℕ} (parts : ℕ → Parts V) (a : ℕ) (p : Parts V) (b : ℕ) → Dec (b ≡ a) → Parts V
exchanged parts a p b (yes e) = p
exchanged parts a p b (no n) = parts b

exchanged_here : {V : ℕ} (parts : ℕ → Parts V) (a : ℕ) (p : Parts V) (d : Dec (a ≡ a)) → exchanged parts a p a d ≡ p
exchanged_here parts a p (yes e) = refl
exchanged_here parts a p (no n) = absurd (n refl)

exchanged_else : {V : ℕ} (parts : ℕ → Parts V) (a : ℕ) (p : Parts V) (b : ℕ) (d : Dec (b ≡ a)) → b ≢ a → exchanged parts a p b d ≡ parts b
exchanged_else parts a p b (yes e) n = absurd (n e)
exchanged_else parts a p b (no m) n = refl

module _ (V : ℕ) {policy : Policy} (sh : Shape) (states : ℕ → TableState) (run : IsExecution (layout_with V policy sh) states) (readers : ℕ) (sound : IsShape sh) where
  abbrev Sims : ℕ → Type 0
  Sims n = (parts : ℕ → Parts V) → 2 * n < 2 ^ 64 - 1 → (state_of V sh ((run.ruled n).log)).version_steps < sh.limit → (run.ruled n).tally.readers ≤ readers →
      AreMadeOf V sh (states n) (run.ruled n).tally.readers parts → Sim V sh readers (2 * n) ((run.ruled n).log) parts

  first : Sims 0
  first parts few low fits made =
      let rule = run.ruled 0 in
      let knows = log_is (layout_with V policy sh) (states 0) rule 0 (new_writer_view (layout_with V policy sh)) (ap (λ vs. get_elem? vs 0) run.opened) tt in
      let nobody : rule.tally.readers ≡ 0 = ap (λ (t : Tally). t.readers) (sym knows.1) in
      let none : (a : ℕ) → parts a ≡ no_parts = λ a. made.others a (omega (arith, nobody)) in
      record {
        events = [];
        trace = first_trace V sh readers;
        leads = refl;
        acts = knows.0;
        counted = omega arith;
        ended = λ a. subst (λ (p : Parts V). AreEnded p.ended []) (sym (none a)) refl;
        running = λ a below. subst (λ (p : Parts V). IsOpen p.running (slice_get (replicate readers None) a)) (sym (none a)) (idle readers a None below);
      }

  -- one step more
  step : (n : ℕ) → Sims n → OneMove (layout_with V policy sh) (states n) (states (suc n)) (run.ruled n) (run.ruled (suc n)) → Sims (suc n)
  step n before (nothing more same new kept) parts few low fits made =
      let r = run.ruled n in
      let r' = run.ruled (suc n) in
      let was : AreMadeOf V sh (states n) r.tally.readers parts = record {
        known = λ a done h. made.known a done (kept a done h);
        others = λ a over. dite (dec_le r'.tally.readers a)
            (λ y. made.others a y)
            (λ n. none_made V sh (parts a) sound.tries.0 (made.known a [] (new a over (omega (arith, n)))));
      } in
      let s = before parts (omega (arith, few)) (subst (λ (z : List Made). (state_of V sh z).version_steps < sh.limit) same low) (omega (arith, more, fits)) was in
      record { events = s.events; trace = s.trace; leads = s.leads; acts = s.acts ∙ sym same; counted = omega (arith, s.counted); ended = s.ended; running = s.running }
  step n before (one_act m seat note knows next log honest same kept) parts few low fits made =
      let r = run.ruled n in
      let was : AreMadeOf V sh (states n) r.tally.readers parts = record {
        known = λ a done h. made.known a done (kept a done h);
        others = λ a over. made.others a (omega (arith, over, same));
      } in
      let v : (state_of V sh ((run.ruled (suc n)).log)).version_steps ≡ version_steps_after (state_of V sh r.log).version_steps m.act = ap (λ (z : List Made). (state_of V sh z).version_steps) log ∙ ap (λ (z : State V). z.version_steps) (state_push V sh r.log m) in
      let s = before parts (omega (arith, few)) (omega (arith, v, low, steps_rise (state_of V sh r.log).version_steps m.act)) (omega (arith, same, fits)) was in
      let may = lawful_last V sh r.log m (subst (IsLawful V sh) log (run.ruled (suc n)).lawful) in
      let t = act_more V sh readers (2 * n) r.log parts s m may (omega (arith, few)) (steps_left sh.limit (state_of V sh r.log).version_steps m.act (subst (λ (z : ℕ). z < sh.limit) v low)) in
      record { events = t.events; trace = t.trace; leads = t.leads; acts = t.acts ∙ sym log; counted = omega (arith, t.counted); ended = t.ended; running = t.running }
  step n before (one_entry a done e entry is number h h' log same others) parts few low fits made =
      let r = run.ruled n in
      let l = layout_with V policy sh in
      let last = undo V sh done e (parts a) sound.tries.0 (made.known a (done ++ e ∷ []) h') in
      let old : ℕ → Parts V = λ b. exchanged parts a last.before b (ℕ_discrete b a) in
      let here : old a ≡ last.before = exchanged_here parts a last.before (ℕ_discrete a a) in
      let else' : (b : ℕ) → b ≢ a → old b ≡ parts b = λ b n. exchanged_else parts a last.before b (ℕ_discrete b a) n in
      let below : a < r.tally.readers = is_reader l (states n) r h.seat a h.view h.mine h.reader in
      let was : AreMadeOf V sh (states n) r.tally.readers old = record {
        known = λ b d g. dite (ℕ_discrete b a)
            (λ y.
            let one : d ≡ done = record_is_one l (states n) a d done r (subst (λ (z : ℕ). HasRecord z (states n) d) y g) h in
            subst (λ (z : ℕ). IsMadeOf V sh d (old z)) (sym y) (subst (IsMadeOf V sh d) (sym here) (subst (λ (z : List Reading). IsMadeOf V sh z last.before) (sym one) last.made)))
            (λ n. subst (IsMadeOf V sh d) (sym (else' b n)) (made.known b d (others b d n g)));
        others = λ b over. else' b (omega (arith, over, below)) ∙ made.others b (omega (arith, over, same));
      } in
      let s = before old (omega (arith, few)) (subst (λ (z : List Made). (state_of V sh z).version_steps < sh.limit) log low) (omega (arith, same, fits)) was in
      let newest = readings_are_newest l (states n) (states (suc n)) r.log e entry in
      let t = entry_more V sh readers (2 * n) r.log old s a (parts a) parts refl (λ b n. sym (else' b n)) (omega (arith, below, same, fits)) e (subst (λ (p : Parts V). LastEntry V sh p e (parts a)) (sym here) last.last) (omega (arith, few)) newest.0 newest.1 in
      record { events = t.events; trace = t.trace; leads = t.leads; acts = t.acts ∙ sym log; counted = omega (arith, t.counted); ended = t.ended; running = t.running }

  sims : (n : ℕ) → Sims n
  sims zero = first
  sims (suc n) = step n (sims n) (move (layout_with V policy sh) states run n)

pub executions_are_traces : (V : ℕ) → ExecutionsAreTraces V
executions_are_traces V policy sh states run n readers parts sound few low fits made =
    let s = sims V sh states run readers sound n parts few low fits made in
    record { events = s.events; trace = s.trace; leads = s.leads; acts = s.acts; ended = s.ended; running = s.running }
