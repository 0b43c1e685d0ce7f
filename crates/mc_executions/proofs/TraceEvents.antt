-- A trace grows by an act, or by an entry of a reader's record.
use Rattle.std.specs.Prelude.{slice_get, slice_set, if◌then◌else◌}
use Rattle.std.proofs.Common.{◌≡◌, ◌≢◌, ◌⊎◌, inl, inr, Bool, true, false, eqb, eq-eqb, ne_eqb, ℕ, ◌+◌, ◌-◌, ◌^◌, ◌<◌, ◌≤◌, List, [], ◌∷◌, ◌++◌, length, refl, ap, sym, ◌∙◌, subst, arith, append_assoc, Option, Some, None}
use mathlib.Core.Logic.{dite}
use native.Mathlib.Decide.{ℕ_discrete}
use Rattle.mc_words.specs.declared.history.Reply.{Reply}
use Rattle.mc_words.specs.declared.shape.Shape.{Shape}
use Rattle.mc_theory.specs.Acts.{IsAllowed}
use Rattle.mc_theory.specs.Lists.{Made, state_of}
use Rattle.mc_theory.specs.Lookups.{IsLookup}
use Rattle.mc_theory.specs.Readings.{Reading, IsWordOf}
use Rattle.mc_theory.specs.Traces.{Trace, Ended, OpenLookup, ReadsNext, HasVersionSteps, Steps, StepsAll, bits_read, first_read, first_trace, with_act}
use Rattle.mc_theory.specs.declared.access.Access.{Access}
use Rattle.mc_theory.specs.declared.access.Access.TheVariants.{Version, Slot, Key, Value, Stamp, Moment, Mark}
use Rattle.mc_theory.specs.declared.event.Event.{Event}
use Rattle.mc_theory.specs.declared.event.Event.TheVariants.{Write, Begin, Read}
use Rattle.mc_shared.specs.ExactFronts.{IsReading, StandsAt}
use Rattle.mc_executions.specs.ExecutionTraces.{Parts, IsSame, AreSame, ended_by, AreEnded, IsOpen}
use Rattle.mc_executions.proofs.ListParts.{got_here, got_else}
use Rattle.mc_executions.proofs.LookupEnds.{lookup_ends, mark_ends, mark_moves}
use Rattle.mc_executions.proofs.TracedParts.{running_with, LastEntry, goes_on, ends, alone}

-- ---- what a list of lookups that ended has of a reader
with_flag : {V : ℕ} (b : Bool) (x e : Ended V) (more all : List (Ended V)) → all ≡ more ++ e ∷ [] → ◌≡◌ {A = List (Ended V)} (if b then x ∷ all else all) ((if b then x ∷ more else more) ++ e ∷ [])
with_flag true x e more all same = ap (λ (z : List (Ended _)). x ∷ z) same
with_flag false x e more all same = same

ended_here : {V : ℕ} (a : ℕ) (es : List (Ended V)) (e : Ended V) → e.told.reader ≡ a → ended_by a (es ++ e ∷ []) ≡ ended_by a es ++ e ∷ []
ended_here {V} a [] e is = ap (λ (b : Bool). if◌then◌else◌ {A = List (Ended V)} b (e ∷ []) []) (eq-eqb e.told.reader a is)
ended_here a (x ∷ es) e is = with_flag (eqb x.told.reader a) x e (ended_by a es) (ended_by a (es ++ e ∷ [])) (ended_here a es e is)

same_flag : {V : ℕ} (b : Bool) (x : Ended V) (more all : List (Ended V)) → all ≡ more → ◌≡◌ {A = List (Ended V)} (if b then x ∷ all else all) (if b then x ∷ more else more)
same_flag true x more all same = ap (λ (z : List (Ended _)). x ∷ z) same
same_flag false x more all same = same

ended_else : {V : ℕ} (a : ℕ) (es : List (Ended V)) (e : Ended V) → e.told.reader ≢ a → ended_by a (es ++ e ∷ []) ≡ ended_by a es
ended_else {V} a [] e other = ap (λ (b : Bool). if◌then◌else◌ {A = List (Ended V)} b (e ∷ []) []) (ne_eqb e.told.reader a other)
ended_else a (x ∷ es) e other = same_flag (eqb x.told.reader a) x (ended_by a es) (ended_by a (es ++ e ∷ [])) (ended_else a es e other)

-- ---- entries
same_push : (rs : List Reading) (r q : Reading) → IsSame r q → AreSame (rs ++ r ∷ []) (rs ++ q ∷ [])
same_push [] r q is = (is, tt)
same_push (x ∷ rs) r q is = ((refl, refl, λ reads. refl), same_push rs r q is)

-- a reading stands at the front of all acts
front_now : (a : Access) (front made : ℕ) → IsReading a → StandsAt a front made → front ≡ made
front_now (Version t) front made reads stands = stands
front_now (Slot p) front made reads stands = stands
front_now (Key i) front made reads stands = stands
front_now (Value i j) front made reads stands = stands
front_now (Stamp i) front made reads stands = stands
front_now Moment front made reads stands = stands
front_now (Mark i) front made reads stands = absurd reads

is_mark : (a : Access) → ((i : ℕ) × (a ≡ Mark i)) ⊎ IsReading a
is_mark (Version t) = inr tt
is_mark (Slot p) = inr tt
is_mark (Key i) = inr tt
is_mark (Value i j) = inr tt
is_mark (Stamp i) = inr tt
is_mark Moment = inr tt
is_mark (Mark i) = inl (i, refl)

-- the entry at the front of these acts
abbrev at_front : Reading → ℕ → Reading
at_front e front = record { access = e.access; word = e.word; front = front }

stands_now : (e : Reading) (made : ℕ) → IsReading e.access → StandsAt e.access e.front made → e ≡ at_front e made
stands_now e made reads stands = ap (at_front e) (front_now e.access e.front made reads stands)

-- a lookup that ends with the entry ends with it at its front, too
ends_now : (V : ℕ) (sh : Shape) (k made : ℕ) (rs : List Reading) (e : Reading) (reply : Reply V) → StandsAt e.access e.front made → IsLookup V sh k sh.tries (rs ++ e ∷ []) reply → IsLookup V sh k sh.tries (rs ++ at_front e made ∷ []) reply
ends_now V sh k made rs e reply stands looks = elim (is_mark e.access) [
  | inl mark ↦ mark_moves V sh k sh.tries mark.0 rs e (at_front e made) reply mark.1 mark.1 looks
  | inr reads ↦ subst (λ (z : Reading). IsLookup V sh k sh.tries (rs ++ z ∷ []) reply) (stands_now e made reads stands) looks
]

-- ---- a trace that is reached, with these acts and parts
pub record Sim (V : ℕ) (sh : Shape) (readers most : ℕ) (made : List Made) (parts : ℕ → Parts V) : Type 0 where
  pub events : List Event
  pub trace : Trace V
  pub leads : StepsAll V sh (first_trace V sh readers) events trace
  pub acts : trace.acts ≡ made
  pub counted : trace.events ≤ most
  pub ended : (a : ℕ) → AreEnded (parts a).ended (ended_by a trace.ended)
  pub running : (a : ℕ) → a < readers → IsOpen (parts a).running (slice_get trace.readers a)

steps_push : (V : ℕ) (sh : Shape) (w x y : Trace V) (es : List Event) (e : Event) → StepsAll V sh w es x → Steps V sh x e y → StepsAll V sh w (es ++ e ∷ []) y
steps_push V sh w x y [] e all one = (y, subst (λ (z : Trace V). Steps V sh z e y) all one, refl)
steps_push V sh w x y (d ∷ es) e all one = (all.0, all.1, steps_push V sh all.0 x y es e all.2 one)

module _ (V : ℕ) (sh : Shape) (readers most : ℕ) (made : List Made) (parts : ℕ → Parts V) (s : Sim V sh readers most made parts) where
  pub act_more : (m : Made) → IsAllowed sh (state_of V sh made) m.act → most < 2 ^ 64 - 1 → HasVersionSteps sh.limit (state_of V sh made).version_steps m.act → Sim V sh readers (most + 1) (made ++ m ∷ []) parts
  act_more m may few within =
      let w = s.trace in
      let now : Made → List Made → Type 0 = λ x acts. IsAllowed sh (state_of V sh acts) x.act × HasVersionSteps sh.limit (state_of V sh acts).version_steps x.act in
      let here : now m w.acts = subst (now m) (sym s.acts) (may, within) in
      record {
        events = s.events ++ Write m.act ∷ [];
        trace = with_act w m.act m.bit;
        leads = steps_push V sh (first_trace V sh readers) w (with_act w m.act m.bit) s.events (Write m.act) s.leads (m.bit, here.0, (omega (arith, s.counted, few), here.1), refl);
        acts = ap (λ (z : List Made). z ++ m ∷ []) s.acts;
        counted = omega (arith, s.counted);
        ended = s.ended;
        running = s.running;
      }

  -- the trace in which the lookup of this reader runs, and has read rs
  record Opened (a k : ℕ) (rs : List Reading) : Type 0 where
    events : List Event
    trace : Trace V
    leads : StepsAll V sh (first_trace V sh readers) events trace
    run : OpenLookup
    at : slice_get trace.readers a ≡ Some (Some run)
    key : run.key ≡ k
    sofar : run.sofar ≡ rs
    acts : trace.acts ≡ made
    ended : trace.ended ≡ s.trace.ended
    others : (b : ℕ) → b ≢ a → slice_get trace.readers b ≡ slice_get s.trace.readers b
    counted : trace.events ≤ most + 1

  opened : (a k : ℕ) (rs : List Reading) → k < 2 ^ 64 → most < 2 ^ 64 - 1 → IsOpen (running_with k rs) (slice_get s.trace.readers a) → Opened a k rs
  opened a k [] small few idle =
      let w = s.trace in
      let run : OpenLookup = record { key = k; sofar = []; first = 0 } in
      let x : Trace V = record w { readers = slice_set w.readers a (Some run); events = w.events + 1 } in
      record {
        events = s.events ++ Begin a k ∷ [];
        trace = x;
        leads = steps_push V sh (first_trace V sh readers) w x s.events (Begin a k) s.leads (idle, small, omega (arith, s.counted, few), refl);
        run = run;
        at = got_here w.readers a None (Some run) idle;
        key = refl;
        sofar = refl;
        acts = s.acts;
        ended = refl;
        others = λ b n. got_else w.readers a b (Some run) n;
        counted = omega (arith, s.counted);
      }
  opened a k (r ∷ rs) small few runs = record {
    events = s.events;
    trace = s.trace;
    leads = s.leads;
    run = runs.0;
    at = runs.1;
    key = runs.2;
    sofar = runs.3;
    acts = s.acts;
    ended = refl;
    others = λ b n. refl;
    counted = omega (arith, s.counted);
  }

  -- the reader's next reading
  module _ (a k : ℕ) (rs : List Reading) (e : Reading) (o : Opened a k rs) (stands : StandsAt e.access e.front (length made)) (word : IsWordOf V sh (state_of V sh made).words e.access e.word) where
    abbrev q : Reading
    q = at_front e (length o.trace.acts)

    front_is : length o.trace.acts ≡ length made
    front_is = ap length o.acts

    reads_next : (rest : List Reading) (reply : Reply V) → IsLookup V sh k sh.tries (rs ++ q ∷ rest) reply → ReadsNext V sh o.trace o.run q
    reads_next rest reply looks = record {
      now = refl;
      word = subst (λ (z : List Made). IsWordOf V sh (state_of V sh z).words e.access e.word) (sym o.acts) word;
      rest = rest;
      reply = reply;
      next = subst (λ (n : ℕ). IsLookup V sh n sh.tries (o.run.sofar ++ q ∷ rest) reply) (sym o.key) (subst (λ (z : List Reading). IsLookup V sh k sh.tries (z ++ q ∷ rest) reply) (sym o.sofar) looks);
    }

    abbrev more_run : OpenLookup
    more_run = record { key = o.run.key; sofar = o.run.sofar ++ q ∷ []; first = first_read o.trace.events o.run }

    abbrev more : Trace V
    more = record o.trace { bits = bits_read o.trace.bits q.access; readers = slice_set o.trace.readers a (Some more_run); events = o.trace.events + 1 }

    -- is not the last of its lookup
    read_more : (rest : List Reading) (next : Reading) (reply : Reply V) → most + 1 < 2 ^ 64 - 1 → IsLookup V sh k sh.tries (rs ++ q ∷ next ∷ rest) reply → StepsAll V sh (first_trace V sh readers) (o.events ++ Read a ∷ []) more
    read_more rest next reply few looks = steps_push V sh (first_trace V sh readers) o.trace more o.events (Read a) o.leads (
      o.run,
      q,
      o.at,
      reads_next (next ∷ rest) reply looks,
      omega (arith, o.counted, few),
      inr (
        (λ other over. lookup_ends V sh k sh.tries (rs ++ q ∷ []) rest next other reply
            (subst (λ (n : ℕ). IsLookup V sh n sh.tries (rs ++ q ∷ []) other) o.key (subst (λ (z : List Reading). IsLookup V sh o.run.key sh.tries (z ++ q ∷ []) other) o.sofar over))
            (subst (λ (z : List Reading). IsLookup V sh k sh.tries z reply) (sym (append_assoc rs (q ∷ []) (next ∷ rest))) looks)),
        refl,
      ),
    )

    abbrev done : Reply V → Ended V
    done reply = record { told = record { reader = a; key = o.run.key; reply = reply; first = first_read o.trace.events o.run; last = o.trace.events }; read = o.run.sofar ++ q ∷ []; stop = length o.trace.acts }

    abbrev last : Reply V → Trace V
    last reply = record o.trace { bits = bits_read o.trace.bits q.access; readers = slice_set o.trace.readers a None; ended = o.trace.ended ++ done reply ∷ []; events = o.trace.events + 1 }

    -- is the last of it
    read_last : (reply : Reply V) → most + 1 < 2 ^ 64 - 1 → IsLookup V sh k sh.tries (rs ++ q ∷ []) reply → StepsAll V sh (first_trace V sh readers) (o.events ++ Read a ∷ []) (last reply)
    unfolding reads_next
    read_last reply few looks = steps_push V sh (first_trace V sh readers) o.trace (last reply) o.events (Read a) o.leads (
        let next = reads_next [] reply looks in
        (o.run, q, o.at, next, omega (arith, o.counted, few), inl (reply, next.next, refl))
        )

  -- the parts of one reader change
  module _ (a : ℕ) (after : Parts V) (parts' : ℕ → Parts V) (is : parts' a ≡ after) (same : (b : ℕ) → b ≢ a → parts' b ≡ parts b) (below : a < readers) where
    -- a trace in which another reader's lookups are as they were, and this one's as they are now
    changed : (x : Trace V) (events : List Event) → StepsAll V sh (first_trace V sh readers) events x → x.acts ≡ made → x.events ≤ most + 2 →
        AreEnded after.ended (ended_by a x.ended) → ((b : ℕ) → b ≢ a → ended_by b x.ended ≡ ended_by b s.trace.ended) →
        IsOpen after.running (slice_get x.readers a) → ((b : ℕ) → b ≢ a → slice_get x.readers b ≡ slice_get s.trace.readers b) → Sim V sh readers (most + 2) made parts'
    changed x events leads acts counted over others_over open_now others_open = record {
      events = events;
      trace = x;
      leads = leads;
      acts = acts;
      counted = counted;
      ended = λ b. dite (ℕ_discrete b a)
          (λ y. subst (λ (n : ℕ). AreEnded (parts' n).ended (ended_by n x.ended)) (sym y) (subst (λ (p : Parts V). AreEnded p.ended (ended_by a x.ended)) (sym is) over))
          (λ n. subst (λ (p : Parts V). AreEnded p.ended (ended_by b x.ended)) (sym (same b n)) (subst (λ (z : List (Ended V)). AreEnded (parts b).ended z) (sym (others_over b n)) (s.ended b)));
      running = λ b low. dite (ℕ_discrete b a)
          (λ y. subst (λ (n : ℕ). IsOpen (parts' n).running (slice_get x.readers n)) (sym y) (subst (λ (p : Parts V). IsOpen p.running (slice_get x.readers a)) (sym is) open_now))
          (λ n. subst (λ (p : Parts V). IsOpen p.running (slice_get x.readers b)) (sym (same b n)) (subst (λ (o : Option (Option OpenLookup)). IsOpen (parts b).running o) (sym (others_open b n)) (s.running b low)));
    }

    -- one entry more
    pub entry_more : (e : Reading) → LastEntry V sh (parts a) e after → most + 1 < 2 ^ 64 - 1 → StandsAt e.access e.front (length made) → IsWordOf V sh (state_of V sh made).words e.access e.word → Sim V sh readers (most + 2) made parts'
    entry_more e (alone idle now) few stands word =
        changed s.trace s.events s.leads s.acts (omega (arith, s.counted))
        (subst (λ (p : Parts V). AreEnded p.ended (ended_by a s.trace.ended)) (sym now) (s.ended a)) (λ b n. refl)
        (subst (λ (p : Parts V). IsOpen p.running (slice_get s.trace.readers a)) (sym now) (subst (λ (r : Option (ℕ × List Reading)). IsOpen r (slice_get s.trace.readers a)) idle (s.running a below))) (λ b n. refl)
    entry_more e (goes_on k rs rest next reply small looks was now) few stands word =
        let o = opened a k rs small (omega (arith, few)) (subst (λ (p : Parts V). IsOpen p.running (slice_get s.trace.readers a)) was (s.running a below)) in
        let reads : IsReading e.access = mark_ends V sh k sh.tries rs rest e next reply looks in
        let same_e : e ≡ q a k rs e o stands word = stands_now e (length o.trace.acts) reads (subst (StandsAt e.access e.front) (sym (ap length o.acts)) stands) in
        let y = more a k rs e o stands word in
        let leads = read_more a k rs e o stands word rest next reply few (subst (λ (z : Reading). IsLookup V sh k sh.tries (rs ++ z ∷ next ∷ rest) reply) same_e looks) in
        let run = more_run a k rs e o stands word in
        changed y (o.events ++ Read a ∷ []) leads o.acts (omega (arith, o.counted))
        (subst (λ (z : List (Ended V)). AreEnded after.ended (ended_by a z)) (sym o.ended) (subst (λ (p : Parts V). AreEnded p.ended (ended_by a s.trace.ended)) was (s.ended a)))
        (λ b n. ap (ended_by b) o.ended)
        (subst (λ (r : Option (ℕ × List Reading)). IsOpen r (slice_get y.readers a)) (sym now) (run, got_here o.trace.readers a (Some o.run) (Some run) o.at, o.key, (λ i. o.sofar i ++ sym same_e i ∷ [])))
        (λ b n. got_else o.trace.readers a b (Some run) n ∙ o.others b n)
    entry_more e (ends k rs reply small looks was now) few stands word =
        let o = opened a k rs small (omega (arith, few)) (subst (λ (r : Option (ℕ × List Reading)). IsOpen r (slice_get s.trace.readers a)) was (s.running a below)) in
        let here : StandsAt e.access e.front (length o.trace.acts) = subst (StandsAt e.access e.front) (sym (ap length o.acts)) stands in
        let y = last a k rs e o stands word reply in
        let over = done a k rs e o stands word reply in
        let leads = read_last a k rs e o stands word reply few (ends_now V sh k (length o.trace.acts) rs e reply here looks) in
        let alike : IsSame e (q a k rs e o stands word) = (refl, refl, λ reads. sym (front_now e.access e.front (length o.trace.acts) reads here)) in
        changed y (o.events ++ Read a ∷ []) leads o.acts (omega (arith, o.counted))
        (subst (λ (p : Parts V). AreEnded p.ended (ended_by a y.ended)) (sym now) (
          ended_by a s.trace.ended,
          over,
          ended_here a o.trace.ended over refl ∙ ap (λ (z : List (Ended V)). ended_by a z ++ over ∷ []) o.ended,
          (o.key, refl, subst (λ (z : List Reading). AreSame (rs ++ e ∷ []) (z ++ q a k rs e o stands word ∷ [])) (sym o.sofar) (same_push rs e (q a k rs e o stands word) alike)),
          s.ended a,
        ))
        (λ b n. ended_else b o.trace.ended over (λ e. n (sym e)) ∙ ap (ended_by b) o.ended)
        (subst (λ (p : Parts V). IsOpen p.running (slice_get y.readers a)) (sym now) (got_here o.trace.readers a (Some o.run) None o.at))
        (λ b n. got_else o.trace.readers a b None n ∙ o.others b n)
