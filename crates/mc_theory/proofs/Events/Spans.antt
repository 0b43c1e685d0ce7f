-- What a list of events determines by itself: the history that its acts make, and the span of each lookup.
use Rattle.std.proofs.Common.{ℕ, zero, suc, ◌≡◌, ◌+◌, ◌≤◌, ◌<◌, ◌⊎◌, List, [], ◌∷◌, ◌++◌, get_or, length, take, Some, None, refl, sym, ◌∙◌, ap, subst, inl, inr, arith, add-one}
use Rattle.std.specs.Prelude.{map, slice_get}
use Rattle.std.specs.List.{All}
use Rattle.std.proofs.lemmas.List.{append_assoc, append-nil, length-map, length_push, map-append, take-append-le, take-map}
use Rattle.std.proofs.Math.Seq.{take-append_seam}
use Rattle.std.proofs.lemmas.List.Elements.{All-nil, All-push, All-weaker}
use Rattle.std.proofs.lemmas.Option.{slice_get_within}
use Rattle.mc_words.specs.declared.history.Change.{Change}
use Rattle.mc_words.specs.declared.history.Reply.{Reply}
use Rattle.mc_words.specs.declared.shape.Shape.{Shape}
use Rattle.mc_theory.proofs.Lists.Fronts.{allowed_take}
use Rattle.mc_theory.specs.Lists.{IsLawful, Made, front, state_of}
use Rattle.mc_theory.specs.Plain.{IsBetween, IsPlainlyTrue, acts_in, changes_by, history_of}
use Rattle.mc_theory.specs.Readings.{Reading}
use Rattle.mc_theory.specs.Spans.{EndsTellSpans, EventsTellHistories, IsSpanned, TracesArePlainlyTrue}
use Rattle.mc_theory.specs.States.{opening}
use Rattle.mc_theory.specs.Traces.{Ended, IsTrueEnd, OpenLookup, StepsAll, Steps, Trace, first_read, first_trace, start_of}
use Rattle.mc_theory.specs.declared.act.Act.{Act}
use Rattle.mc_theory.specs.declared.act.Deed.TheVariants as deed
use Rattle.mc_theory.specs.declared.event.Event.{Event}
use Rattle.mc_theory.specs.declared.event.Event.TheVariants.{Write, Begin, Read}
use Rattle.mc_words.specs.History.{IsTrueAnswer}
use Rattle.mc_theory.proofs.Events.ReachedTraces.{all_idle, first_holds, read_after_set, runs_hold, traces_are_true}
use Rattle.mc_theory.proofs.Events.ToldHistories.{act_of, history_told}

-- ---- the acts among events
-- those of two lists, one after the other
acts_in-append : (xs ys : List Event) → acts_in (xs ++ ys) ≡ acts_in xs ++ acts_in ys
acts_in-append [] ys = refl
acts_in-append (Write a ∷ xs) ys = ap (λ (more : List Act). a ∷ more) (acts_in-append xs ys)
acts_in-append (Begin r k ∷ xs) ys = acts_in-append xs ys
acts_in-append (Read r ∷ xs) ys = acts_in-append xs ys

-- those among the first events are the first of them
take-acts_in : (n : ℕ) (es : List Event) → take (length (acts_in (take n es))) (acts_in es) ≡ acts_in (take n es)
take-acts_in zero es = refl
take-acts_in (suc n) [] = refl
take-acts_in (suc n) (Write a ∷ es) = ap (λ (more : List Act). a ∷ more) (take-acts_in n es)
take-acts_in (suc n) (Begin r k ∷ es) = take-acts_in n es
take-acts_in (suc n) (Read r ∷ es) = take-acts_in n es

-- an access is none
acts_in-read : (es : List Event) (n r : ℕ) → slice_get es n ≡ Some (Read r) → acts_in (take (suc n) es) ≡ acts_in (take n es)
acts_in-read [] n r e = absurd (cc)
acts_in-read (Write a ∷ es) zero r e = absurd (cc)
acts_in-read (Begin q k ∷ es) zero r e = refl
acts_in-read (Read q ∷ es) zero r e = refl
acts_in-read (Write a ∷ es) (suc n) r e = ap (λ (more : List Act). a ∷ more) (acts_in-read es n r e)
acts_in-read (Begin q k ∷ es) (suc n) r e = acts_in-read es n r e
acts_in-read (Read q ∷ es) (suc n) r e = acts_in-read es n r e

-- ---- the history that they make
-- a front of lawful acts has the history that its acts determine
front_history : (V : ℕ) (sh : Shape) (acts : List Made) (f : ℕ) → IsLawful V sh acts → (front V sh acts f).history ≡ changes_by {V = V} deed.Move 0 [] (take f (map act_of acts))
unfolding front opening IsLawful
front_history V sh acts f lawful =
    history_told sh (opening V sh) (take f acts) deed.Move 0 [] (allowed_take sh (opening V sh) f acts lawful) tt ∙
    ap (λ (made : List Act). changes_by {V = V} deed.Move 0 [] made) (sym (take-map act_of f acts))

-- and the front after some of the events that they make
fronts_tell : (V : ℕ) (sh : Shape) (acts : List Made) (es : List Event) (n : ℕ) → IsLawful V sh acts → map act_of acts ≡ acts_in es → (front V sh acts (length (acts_in (take n es)))).history ≡ history_of V (take n es)
unfolding history_of
fronts_tell V sh acts es n lawful same =
    front_history V sh acts (length (acts_in (take n es))) lawful ∙
    ap (λ (made : List Act). changes_by {V = V} deed.Move 0 [] (take (length (acts_in (take n es))) made)) same ∙
    ap (λ (made : List Act). changes_by {V = V} deed.Move 0 [] made) (take-acts_in n es)

-- and the state the history of all
state_tells : (V : ℕ) (sh : Shape) (acts : List Made) (es : List Event) → IsLawful V sh acts → map act_of acts ≡ acts_in es → (state_of V sh acts).history ≡ history_of V es
unfolding state_of opening history_of IsLawful
state_tells V sh acts es lawful same =
    history_told sh (opening V sh) acts deed.Move 0 [] lawful tt ∙ ap (λ (made : List Act). changes_by {V = V} deed.Move 0 [] made) same

-- ---- events by their numbers
-- a longer list has the same first events
get_front : {A : Type 0} (xs ys : List A) (n : ℕ) → n < length xs → slice_get (xs ++ ys) n ≡ slice_get xs n
get_front [] ys n l = absurd (omega arith)
get_front (x ∷ xs) ys zero l = refl
get_front (x ∷ xs) ys (suc n) l = get_front xs ys n (omega arith)

-- and an event of a list is one of a longer list
get_longer : {A : Type 0} (xs ys : List A) (n : ℕ) (x : A) → slice_get xs n ≡ Some x → slice_get (xs ++ ys) n ≡ Some x
get_longer xs ys n x e = get_front xs ys n (slice_get_within xs n x e) ∙ e

-- the event that was added is the last
get_last : {A : Type 0} (xs : List A) (x : A) → slice_get (xs ++ x ∷ []) (length xs) ≡ Some x
get_last [] x = refl
get_last (y ∷ xs) x = get_last xs x

-- an event of a list with one more is one of the list, or the last
get_push : {A : Type 0} (xs : List A) (y x : A) (n : ℕ) → slice_get (xs ++ y ∷ []) n ≡ Some x → (slice_get xs n ≡ Some x) ⊎ (y ≡ x)
get_push [] y x zero e = inr (cc)
get_push [] y x (suc n) e = absurd (cc)
get_push (z ∷ xs) y x zero e = inl e
get_push (z ∷ xs) y x (suc n) e = get_push xs y x n e

-- ---- the spans of lookups
-- the first of these readings was made by this event of the reader, the first one after that at which it began; without a reading there is no such event
abbrev pub BeganAt : List Event → ℕ → ℕ → ℕ → List Reading → Type 0
BeganAt es r begin first [] = (n : ℕ) → begin < n → slice_get es n ≡ Some (Read r) → ⊥
BeganAt es r begin first (x ∷ xs) =
    (begin < first) × (slice_get es first ≡ Some (Read r)) × (x.front ≡ length (acts_in (take first es))) × ((n : ℕ) → begin < n → n < first → slice_get es n ≡ Some (Read r) → ⊥)

-- the last lookup that the reader began looks up this key, and has these readings so far
record IsOpen (es : List Event) (r : ℕ) (run : OpenLookup) : Type 0 where
  begin : ℕ
  begun : slice_get es begin ≡ Some (Begin r run.key)
  alone : (n k : ℕ) → begin < n → slice_get es n ≡ Some (Begin r k) → ⊥
  first : BeganAt es r begin run.first run.sofar

-- more events leave it so, if there is a reading
began_longer : (es more : List Event) (r begin first : ℕ) (x : Reading) (xs : List Reading) → BeganAt es r begin first (x ∷ xs) → BeganAt (es ++ more) r begin first (x ∷ xs)
began_longer es more r begin first x xs at =
    let within = slice_get_within es first (Read r) at.1 in (
      at.0,
      get_longer es more first (Read r) at.1,
      at.2 ∙ ap (λ (ys : List Event). length (acts_in ys)) (sym (take-append-le first es more (omega arith))),
      λ n l m is. at.3 n l m (sym (get_front es more n (omega arith)) ∙ is),
    )

-- and so does one event more at which the reader makes none
began_still : (es : List Event) (e : Event) (r begin first : ℕ) (rs : List Reading) → (e ≡ Read r → ⊥) → BeganAt es r begin first rs → BeganAt (es ++ e ∷ []) r begin first rs
began_still es e r begin first [] other at = λ n l is. elim (get_push es e (Read r) n is) [ inl old ↦ at n l old | inr new ↦ other new ]
began_still es e r begin first (x ∷ xs) other at = began_longer es (e ∷ []) r begin first x xs at

-- one reading more, by the next event
began_more : (es : List Event) (r key begin first : ℕ) (rs : List Reading) (x : Reading) → begin < length es → x.front ≡ length (acts_in es) → BeganAt es r begin first rs
    → BeganAt (es ++ Read r ∷ []) r begin (first_read (length es) (record { key = key; sofar = rs; first = first })) (rs ++ x ∷ [])
began_more es r key begin first [] x before now at = (
  before,
  get_last es (Read r),
  now ∙ ap (λ (ys : List Event). length (acts_in ys)) (sym (take-append_seam es (Read r ∷ []))),
  λ n l m is. at n l (sym (get_front es (Read r ∷ []) n m) ∙ is),
)
began_more es r key begin first (y ∷ ys) x before now at = began_longer es (Read r ∷ []) r begin first y (ys ++ x ∷ []) at

-- if there is a reading, there is such an event
began_some : (es : List Event) (r begin first : ℕ) (rs : List Reading) (x : Reading) → BeganAt es r begin first (rs ++ x ∷ []) →
    (begin < first) × (slice_get es first ≡ Some (Read r)) × (start_of (rs ++ x ∷ []) ≡ length (acts_in (take first es))) × ((n : ℕ) → begin < n → n < first → slice_get es n ≡ Some (Read r) → ⊥)
began_some es r begin first [] x at = at
began_some es r begin first (y ∷ ys) x at = at

-- an event of others leaves the reader's lookup open
open_longer : (es : List Event) (e : Event) (r : ℕ) (run : OpenLookup) → ((k : ℕ) → e ≡ Begin r k → ⊥) → (e ≡ Read r → ⊥) → IsOpen es r run → IsOpen (es ++ e ∷ []) r run
open_longer es e r run other still o = record {
  begin = o.begin;
  begun = get_longer es (e ∷ []) o.begin _ o.begun;
  alone = λ n k l is. elim (get_push es e (Begin r k) n is) [ inl old ↦ o.alone n k l old | inr new ↦ other k new ];
  first = began_still es e r o.begin run.first run.sofar still o.first;
}

-- the reader begins
open_new : (es : List Event) (r k : ℕ) → IsOpen (es ++ Begin r k ∷ []) r (record { key = k; sofar = []; first = 0 })
open_new es r k = record {
  begin = length es;
  begun = get_last es (Begin r k);
  alone = λ n m l is. let within = slice_get_within (es ++ Begin r k ∷ []) n (Begin r m) is in absurd (omega (arith, length_push es (Begin r k)));
  first = λ n l is. let within = slice_get_within (es ++ Begin r k ∷ []) n (Read r) is in absurd (omega (arith, length_push es (Begin r k)));
}

-- the reader reads
open_more : (es : List Event) (r events : ℕ) (run : OpenLookup) (x : Reading) → events ≡ length es → x.front ≡ length (acts_in es) → IsOpen es r run
    → IsOpen (es ++ Read r ∷ []) r (record { key = run.key; sofar = run.sofar ++ x ∷ []; first = first_read events run })
open_more es r events run x counted now o =
    let before = slice_get_within es o.begin _ o.begun in record {
      begin = o.begin;
      begun = get_longer es (Read r ∷ []) o.begin _ o.begun;
      alone = λ n k l is. elim (get_push es (Read r) (Begin r k) n is) [ inl old ↦ o.alone n k l old | inr new ↦ absurd (cc (new)) ];
      first = subst (λ n. BeganAt (es ++ Read r ∷ []) r o.begin (first_read n run) (run.sofar ++ x ∷ [])) (sym counted) (began_more es r run.key o.begin run.first run.sofar x before now o.first);
    }

-- and ends its lookup
open_ends : {V : ℕ} (es : List Event) (r events : ℕ) (run : OpenLookup) (x : Reading) (reply : Reply V) (stop : ℕ) → events ≡ length es → stop ≡ length (acts_in es) → IsOpen (es ++ Read r ∷ []) r (record { key = run.key; sofar = run.sofar ++ x ∷ []; first = first_read events run })
    → IsSpanned (es ++ Read r ∷ []) (record { told = record { reader = r; key = run.key; reply = reply; first = first_read events run; last = events }; read = run.sofar ++ x ∷ []; stop = stop })
open_ends es r events run x reply stop counted now o =
    let e : Event = Read r in
    let some = began_some (es ++ e ∷ []) r o.begin (first_read events run) run.sofar x o.first in
    let within = slice_get_within (es ++ e ∷ []) (first_read events run) e some.1 in
    let grown = length_push es e in record {
      span = record {
        begin = o.begin;
        begun = o.begun;
        first = some.1;
        last = ap (λ n. slice_get (es ++ e ∷ []) n) counted ∙ get_last es e;
        after = some.0;
        unread = some.3;
        order = omega (arith, within, grown, counted);
        alone = λ n k l most is. o.alone n k l is;
      };
      start = some.2;
      stop = now ∙ ap (λ (ys : List Event). length (acts_in ys)) (sym (ap (λ n. take n (es ++ e ∷ [])) counted ∙ take-append_seam es (e ∷ [])));
    }

-- more events leave a span as it is
span_longer : {V : ℕ} (es more : List Event) (e : Ended V) → IsSpanned es e → IsSpanned (es ++ more) e
span_longer es more e s =
    let made = slice_get_within es e.told.last _ s.span.last in
    let cut : (n : ℕ) → n ≤ length es → length (acts_in (take n es)) ≡ length (acts_in (take n (es ++ more))) = λ n l. ap (λ (ys : List Event). length (acts_in ys)) (sym (take-append-le n es more l)) in
    record {
      span = record {
        begin = s.span.begin;
        begun = get_longer es more s.span.begin _ s.span.begun;
        first = get_longer es more e.told.first _ s.span.first;
        last = get_longer es more e.told.last _ s.span.last;
        after = s.span.after;
        unread = λ n l m is. s.span.unread n l m (sym (get_front es more n (omega (arith, m, made, s.span.order))) ∙ is);
        order = s.span.order;
        alone = λ n k l most is. s.span.alone n k l most (sym (get_front es more n (omega (arith, most, made))) ∙ is);
      };
      start = s.start ∙ cut e.told.first (omega (arith, s.span.order, made));
      stop = s.stop ∙ cut e.told.last (omega (arith, made));
    }

-- what a trace keeps of the events that led to it
record Traces (V : ℕ) (es : List Event) (w : Trace V) : Type 0 where
  counted : w.events ≡ length es
  acts : map act_of w.acts ≡ acts_in es
  running : (r : ℕ) (run : OpenLookup) → slice_get w.readers r ≡ Some (Some run) → IsOpen es r run
  ended : All (IsSpanned es) w.ended

-- and so those of all lookups that have ended
ended_longer : {V : ℕ} (es more : List Event) (xs : List (Ended V)) → All (IsSpanned es) xs → All (IsSpanned (es ++ more)) xs
ended_longer es more xs all = All-weaker (IsSpanned es) (IsSpanned (es ++ more)) (λ e s. span_longer es more e s) xs all

-- the lookup that is open is the one that a reader has
open_as : (es : List Event) (r q : ℕ) (a b : OpenLookup) → q ≡ r → Some a ≡ Some b → IsOpen es r a → IsOpen es q b
open_as es r q a b same e o =
    let is : a ≡ b = cc in
    subst (λ (y : OpenLookup). IsOpen es q y) is (subst (λ n. IsOpen es n a) (sym same) o)

-- each event keeps it
step_traces : (V : ℕ) (sh : Shape) (es : List Event) (w x : Trace V) (e : Event) → Traces V es w → Steps V sh w e x → Traces V (es ++ e ∷ []) x
step_traces V sh es w x (Write a) h s =
    let e : Event = Write a in
    subst (λ (z : Trace V). Traces V (es ++ e ∷ []) z) (sym s.3) (record {
      counted = omega (arith, h.counted, length_push es e);
      acts = map-append act_of w.acts _ ∙ ap (λ (made : List Act). made ++ a ∷ []) h.acts ∙ sym (acts_in-append es (e ∷ []));
      running = λ r run is. open_longer es e r run (λ k f. absurd (cc (f))) (λ f. absurd (cc (f))) (h.running r run is);
      ended = ended_longer es (e ∷ []) w.ended h.ended;
    })
step_traces V sh es w x (Begin r k) h s =
    let e : Event = Begin r k in
    let new : OpenLookup = record { key = k; sofar = []; first = 0 } in
    subst (λ (z : Trace V). Traces V (es ++ e ∷ []) z) (sym s.3) (record {
      counted = omega (arith, h.counted, length_push es e);
      acts = h.acts ∙ sym (append-nil (acts_in es)) ∙ sym (acts_in-append es (e ∷ []));
      running = λ q run is. elim (read_after_set w.readers r q (Some new) (Some run) is) [
        | inl set ↦ open_as (es ++ e ∷ []) r q new run set.0 set.1 (open_new es r k)
        | inr old ↦ open_longer es e q run (λ m f. let same : q ≡ r = cc in absurd (old.0 same)) (λ f. absurd (cc (f))) (h.running q run old.1)
      ];
      ended = ended_longer es (e ∷ []) w.ended h.ended;
    })
step_traces V sh es w x (Read r) h s =
    let e : Event = Read r in
    let run : OpenLookup = s.0 in
    let reading : Reading = s.1 in
    let counted : w.events + 1 ≡ length (es ++ e ∷ []) = omega (arith, h.counted, length_push es e) in
    let acts : map act_of w.acts ≡ acts_in (es ++ e ∷ []) = h.acts ∙ sym (append-nil (acts_in es)) ∙ sym (acts_in-append es (e ∷ [])) in
    let many : length w.acts ≡ length (acts_in es) = sym (length-map w.acts act_of) ∙ ap length h.acts in
    let new : OpenLookup = record { key = run.key; sofar = run.sofar ++ reading ∷ []; first = first_read w.events run } in
    let now : IsOpen (es ++ e ∷ []) r new = open_more es r w.events run reading h.counted (s.3.now ∙ many) (h.running r run s.2) in
    let older : (q : ℕ) (other : OpenLookup) → (q ≡ r → ⊥) → slice_get w.readers q ≡ Some (Some other) → IsOpen (es ++ e ∷ []) q other =
    λ q other differs old. open_longer es e q other (λ k f. absurd (cc (f))) (λ f. let same : q ≡ r = cc in absurd (differs same)) (h.running q other old) in
    elim s.5 [
      | inl over ↦ subst (λ (z : Trace V). Traces V (es ++ e ∷ []) z) (sym over.2) (record {
        counted = counted;
        acts = acts;
        running = λ q other is. elim (read_after_set w.readers r q None (Some other) is) [
          | inl set ↦ absurd (cc (set.1))
          | inr old ↦ older q other old.0 old.1
        ];
        ended = All-push (IsSpanned (es ++ e ∷ [])) w.ended _ (ended_longer es (e ∷ []) w.ended h.ended) (open_ends es r w.events run reading over.0 (length w.acts) h.counted many now);
      })
      | inr more ↦ subst (λ (z : Trace V). Traces V (es ++ e ∷ []) z) (sym more.1) (record {
        counted = counted;
        acts = acts;
        running = λ q other is. elim (read_after_set w.readers r q (Some new) (Some other) is) [
          | inl set ↦ open_as (es ++ e ∷ []) r q new other set.0 set.1 now
          | inr old ↦ older q other old.0 old.1
        ];
        ended = ended_longer es (e ∷ []) w.ended h.ended;
      })
    ]

-- events one after the other keep it
run_traces : (V : ℕ) (sh : Shape) (past : List Event) (w : Trace V) (es : List Event) (x : Trace V) → Traces V past w → StepsAll V sh w es x → Traces V (past ++ es) x
run_traces V sh past w [] x h r = subst (λ (z : Trace V). Traces V (past ++ []) z) (sym r) (subst (λ (ys : List Event). Traces V ys w) (sym (append-nil past)) h)
run_traces V sh past w (e ∷ es) x h r =
    subst (λ (ys : List Event). Traces V ys x) (append_assoc past (e ∷ []) es)
    (run_traces V sh (past ++ e ∷ []) r.0 es x (step_traces V sh past w r.0 e h r.1) r.2)

-- a new trace keeps nothing
first_traces : (V : ℕ) (sh : Shape) (readers : ℕ) → Traces V [] (first_trace V sh readers)
first_traces V sh readers = record {
  counted = refl;
  acts = refl;
  running = λ r run is. absurd (all_idle readers r run is);
  ended = All-nil (IsSpanned []);
}

-- so every trace keeps what led to it from a new one
world_traces : (V : ℕ) (sh : Shape) (readers : ℕ) (es : List Event) (w : Trace V) → StepsAll V sh (first_trace V sh readers) es w → Traces V es w
world_traces V sh readers es w runs = run_traces V sh [] (first_trace V sh readers) es w (first_traces V sh readers) runs

-- ---- the laws as they are stated
pub events_tell_histories : (V : ℕ) → EventsTellHistories V
events_tell_histories V sh readers es w runs =
    let same = (world_traces V sh readers es w runs).acts in
    let lawful = (runs_hold V sh (first_trace V sh readers) es w (first_holds V sh readers) runs).lawful in
    (state_tells V sh w.acts es lawful same, λ n. fronts_tell V sh w.acts es n lawful same)

pub ends_tell_spans : (V : ℕ) → EndsTellSpans V
ends_tell_spans V sh readers es w runs = (world_traces V sh readers es w runs).ended

-- an access changes no history
history_read : (V : ℕ) (es : List Event) (n r : ℕ) → slice_get es n ≡ Some (Read r) → history_of V (take (n + 1) es) ≡ history_of V (take n es)
unfolding history_of
history_read V es n r is = ap (λ m. changes_by {V = V} deed.Move 0 [] (acts_in (take m es))) (add-one n) ∙ ap (λ (made : List Act). changes_by {V = V} deed.Move 0 [] made) (acts_in-read es n r is)

-- a true reply, in terms of the events
plainly_true : (V : ℕ) (sh : Shape) (es : List Event) (w : Trace V) (e : Ended V) → IsLawful V sh w.acts → map act_of w.acts ≡ acts_in es → IsSpanned es e → IsTrueEnd V sh w e → IsPlainlyTrue es e.told
plainly_true V sh es w e lawful same s t =
    let from : (front V sh w.acts (start_of e.read)).history ≡ history_of V (take e.told.first es) =
    ap (λ f. (front V sh w.acts f).history) s.start ∙ fronts_tell V sh w.acts es e.told.first lawful same in
    let to : (front V sh w.acts e.stop).history ≡ history_of V (take (e.told.last + 1) es) =
    ap (λ f. (front V sh w.acts f).history) s.stop ∙ fronts_tell V sh w.acts es e.told.last lawful same ∙ sym (history_read V es e.told.last e.told.reader s.span.last) in
    record {
      span = s.span;
      true = subst (λ (h : List (Change V)). IsTrueAnswer h e.told.key e.told.reply) (state_tells V sh w.acts es lawful same) t.true;
      between =
          subst (λ (h : List (Change V)). IsBetween (length (history_of V (take e.told.first es))) (length h) e.told.reply) to
          (subst (λ (h : List (Change V)). IsBetween (length h) (length (front V sh w.acts e.stop).history) e.told.reply) from t.between);
    }

pub traces_are_plainly_true : (V : ℕ) → TracesArePlainlyTrue V
traces_are_plainly_true V sh readers es w shape runs =
    let kept = world_traces V sh readers es w runs in
    let true = traces_are_true V sh readers es w shape runs in
    λ k d l. plainly_true V sh es w (get_or w.ended k d) true.0 kept.acts (kept.ended k d l) (true.1 k d l)
