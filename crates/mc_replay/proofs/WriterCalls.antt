-- The acts of a call, in the world and for the clerk.
use Rattle.std.proofs.Common.{◌≡◌, ℕ, ◌+◌, ◌<◌, ◌≤◌, List, [], ◌∷◌, ◌++◌, Option, Some, None, refl, sym, ap, ◌∙◌, subst, inl, inr, arith, length, map, append_assoc, append-nil}
use Rattle.std.specs.Prelude.{◌-◌, ◌^◌, ◌⊎◌, ◌↔◌, IsSome, IfSome, IfNone, slice_get}
use Rattle.std.proofs.lemmas.Option.{slice_get_within}
use Rattle.mc_words.specs.History.{map_value}
use Rattle.mc_words.specs.Places.{moment}
use Rattle.mc_words.specs.Standing.{Agrees, Stands}
use Rattle.mc_words.specs.declared.history.Reply.TheVariants.{Found, Absent}
use Rattle.mc_words.specs.declared.shape.Shape.{Shape}
use Rattle.mc_theory.proofs.Lists.Fronts.{after_all-append, state_push}
use Rattle.mc_core.proofs.WorldSteps.{reached_append}
use Rattle.mc_theory.specs.Acts.{IsAllowed, IsAllowedByClock, MayFrom}
use Rattle.mc_theory.specs.Effects.{after_act}
use Rattle.mc_theory.specs.Lists.{Made, after_all, state_of}
use Rattle.mc_theory.specs.Phases.{Phase, Quiet, deed_key}
use Rattle.mc_core.specs.Seen.{WorldView, Shows, MayAct, state_after}
use Rattle.mc_theory.specs.States.{State}
use Rattle.mc_theory.specs.Traces.{Trace, IsReached, StepsByClock, StepsAllByClock, HasVersionSteps, bit_of, given_of}
use Rattle.mc_theory.specs.declared.act.Act.{Act}
use Rattle.mc_theory.specs.declared.act.Act.TheVariants.{Open, Slot, Item, Moment, Close, Hand, Mark}
use Rattle.mc_theory.specs.declared.event.Event.TheVariants as event
use Rattle.mc_plan.specs.Clerks as clerks
use Rattle.mc_plan.specs.WholeCalls.{Call, Answered}
use Rattle.mc_plan.specs.Clerks.{Knows, IsOn, next_act, acts_left}
use Rattle.mc_plan.specs.declared.answer.Answer.{Answer}
use Rattle.mc_plan.specs.declared.clerk.Clerk.{Clerk}
use Rattle.mc_plan.specs.declared.clerk.Stage.{Stage}
use Rattle.mc_plan.specs.declared.clerk.Stage.TheVariants.{Idle, Sweeping, Planned}
use Rattle.mc_plan.proofs.Calls.MidCall.{on_runs}
use Rattle.mc_replay.specs.declared.player.Player.{Player}
use Rattle.mc_replay.specs.Replay.{Pending, WriterMakes, LooksUp}
use Rattle.mc_replay.specs.Inside.Players.{shape_of_player, most_steps, IsAt, IsIdle, IsInCall, IsMidCall, BeginsAs, GoesOn, MakesAct, Completes, CallIsWhole, HasRoom, IsMarked, with_acts, bit_given}
use Rattle.mc_replay.specs.Replay.{pending}
use Rattle.mc_replay.proofs.ReaderLines.{readers_of}

-- ---- acts of the writer in a world
-- no act is made
pub makes_none : (V : ℕ) (sh : Shape) (w : Trace V) → WriterMakes V sh w [] w
makes_none V sh w = (refl, sym (append-nil w.acts))

-- an act that was made, with the bit that it read
abbrev pub made_of : {V : ℕ} → Trace V → Act → Made
made_of w a = record { act = a; bit = bit_of w.bits a }

-- a write event makes one act
pub makes_one : (V : ℕ) (sh : Shape) (w x : Trace V) (a : Act) → StepsByClock V sh w (event.Write a) x → WriterMakes V sh w (made_of w a ∷ []) x
makes_one V sh w x a steps = ((x, steps, refl), ap (λ (y : Trace V). y.acts) steps.2)

-- events of two lists run one after the other
runs_append : (V : ℕ) (sh : Shape) (w m x : Trace V) (xs ys : List Made) → StepsAllByClock V sh w (map (λ (m : Made). event.Write m.act) xs) m → StepsAllByClock V sh m (map (λ (m : Made). event.Write m.act) ys) x → StepsAllByClock V sh w (map (λ (m : Made). event.Write m.act) (xs ++ ys)) x
runs_append V sh w m x [] ys first second = subst (λ (y : Trace V). StepsAllByClock V sh y (map (λ (m : Made). event.Write m.act) ys) x) first second
runs_append V sh w m x (a ∷ xs) ys first second = (first.0, first.1, runs_append V sh first.0 m x xs ys first.2 second)

-- acts, and then others
pub makes_append : (V : ℕ) (sh : Shape) (w m x : Trace V) (xs ys : List Made) → WriterMakes V sh w xs m → WriterMakes V sh m ys x → WriterMakes V sh w (xs ++ ys) x
makes_append V sh w m x xs ys first second =
    (runs_append V sh w m x xs ys first.0 second.0, second.1 ∙ ap (λ (l : List Made). l ++ ys) first.1 ∙ append_assoc w.acts xs ys)

-- ---- one act of a call
-- the bit that was given is the one that was read
pub bit_given_is : (V : ℕ) (bits : List ℕ) (a : Act) → bit_given (given_of {V = V} (bit_of bits a) a) ≡ bit_of bits a
bit_given_is V bits (Open k d) = refl
bit_given_is V bits (Slot p x) = refl
bit_given_is V bits (Item i j x) = refl
bit_given_is V bits Moment = refl
bit_given_is V bits Close = refl
bit_given_is V bits (Hand i) = refl
bit_given_is V bits (Mark i) = refl

-- the state after one act more
pub state_after_one : (V : ℕ) (sh : Shape) (from : State V) (acts : List Made) (w x : Trace V) (m : Made) → after_all sh from acts ≡ state_of V sh w.acts → x.acts ≡ w.acts ++ m ∷ []
    → after_all sh from (acts ++ m ∷ []) ≡ state_of V sh x.acts
state_after_one V sh from acts w x m now more =
    after_all-append sh from acts (m ∷ []) ∙ ap (λ (s : State V). after_act sh s m.act m.bit) now ∙ sym (state_push V sh w.acts m) ∙ ap (state_of V sh) (sym more)

-- the player shows the world after one act
at_after_one : (V : ℕ) (old new : Player V) (most : ℕ) (w x : Trace V) (m : Made) → IsAt V old most w → shape_of_player new ≡ shape_of_player old → Shows {V = V} new.world x → WriterMakes V (shape_of_player old) w (m ∷ []) x → x.events ≡ w.events + 1
    → clerks.shape_of_clerk new.clerk ≡ clerks.shape_of_clerk old.clerk → IsAt V new (most + 1) x
at_after_one V old new most w x m at same shows makes events clerk = record {
  world = shows;
  reached = subst (λ (y : Shape). IsReached V y x) (sym same) (reached_append V (shape_of_player old) w x (event.Write m.act ∷ []) at.reached makes.0);
  shape = clerk ∙ at.shape ∙ sym same;
  readers = readers_of V new.world x shows;
  events = omega (arith, events, at.events);
}

-- the call continues after one act
pub call_goes_on : (V : ℕ) (old new : Player V) (most : ℕ) (p : Pending V) (w x : Trace V) (m : Made) → IsInCall V old most p w → shape_of_player new ≡ shape_of_player old → Shows {V = V} new.world x → WriterMakes V (shape_of_player old) w (m ∷ []) x → x.events ≡ w.events + 1
    → clerks.shape_of_clerk new.clerk ≡ clerks.shape_of_clerk old.clerk → IsOn V new.clerk p.call p.from (p.acts ++ m ∷ []) → acts_left new.clerk < acts_left old.clerk → IsInCall V new (most + 1) (with_acts p (m ∷ [])) x
call_goes_on V old new most p w x m call same shows makes events clerk on fewer = record {
  at = at_after_one V old new most w x m call.at same shows makes events clerk;
  on = on;
  now = subst (λ (sh : Shape). after_all sh p.from (p.acts ++ m ∷ []) ≡ state_of V sh x.acts) (sym same) (state_after_one V (shape_of_player old) p.from p.acts w x m call.now makes.1);
  few = omega (arith, fewer, call.few);
}

-- the call was answered
pub call_is_over : (V : ℕ) (old new : Player V) (most : ℕ) (p : Pending V) (w : Trace V) → IsInCall V old most p w → new.world ≡ old.world
    → clerks.shape_of_clerk new.clerk ≡ clerks.shape_of_clerk old.clerk → Knows V new.clerk (after_all (clerks.shape_of_clerk old.clerk) p.from p.acts) → IsIdle V new most w
call_is_over V old new most p w call world clerk knows =
    let same : shape_of_player new ≡ shape_of_player old = ap (λ (y : WorldView V). y.shape) world in
    record {
      at = record {
        world = subst (λ (y : WorldView V). Shows {V = V} y w) (sym world) call.at.world;
        reached = subst (λ (y : Shape). IsReached V y w) (sym same) call.at.reached;
        shape = clerk ∙ call.at.shape ∙ sym same;
        readers = call.at.readers ∙ ap (λ (y : WorldView V). length y.readers) (sym world);
        events = call.at.events;
      };
      knows = subst (Knows V new.clerk) (ap (λ (y : Shape). after_all y p.from p.acts) call.at.shape ∙ call.now ∙ ap (λ (y : Shape). state_of V y w.acts) (sym same)) knows;
    }

-- ---- what a call needs of the world
-- the clerk's next act may be made
pub may_act : (V : ℕ) (player : Player V) (most : ℕ) (p : Pending V) (w : Trace V) (a : Act) → IsInCall V player most p w
    → IsAllowedByClock (clerks.shape_of_clerk player.clerk) (after_all (clerks.shape_of_clerk player.clerk) p.from p.acts) a → HasVersionSteps (clerks.shape_of_clerk player.clerk).limit (after_all (clerks.shape_of_clerk player.clerk) p.from p.acts).version_steps a
    → most < 2 ^ 64 - 1 → MayAct {V = V} player.world a
may_act V player most p w a call allowed changes room =
    let sh = shape_of_player player in
    let now : after_all sh p.from p.acts ≡ player.world.state = call.now ∙ sym call.at.world.state in
    let allowed_now = subst (λ (s : State V). IsAllowedByClock sh s a) now (subst (λ (y : Shape). IsAllowedByClock y (after_all y p.from p.acts) a) call.at.shape allowed) in
    let changes_now = subst (λ (s : State V). HasVersionSteps sh.limit s.version_steps a) now (subst (λ (y : Shape). HasVersionSteps y.limit (after_all y p.from p.acts).version_steps a) call.at.shape changes) in
    (allowed_now, changes_now, omega (arith, call.at.world.events, call.at.events, room))

-- the words after the act are those that the clerk counts on
pub words_after : (V : ℕ) (player : Player V) (most : ℕ) (p : Pending V) (w : Trace V) (a : Act) (word : ℕ) (new : WorldView V) → IsInCall V player most p w → word ≡ bit_of player.world.bits a → new.state ≡ state_after {V = V} player.world (event.Write a)
    → new.state.words ≡ (after_all (clerks.shape_of_clerk player.clerk) p.from (p.acts ++ record { act = a; bit = word } ∷ [])).words
words_after V player most p w a word new call is state =
    let sh = shape_of_player player in
    let m : Made = record { act = a; bit = word } in
    let now : after_all sh p.from p.acts ≡ player.world.state = call.now ∙ sym call.at.world.state in
    let read : after_act sh player.world.state a (bit_of player.world.bits a) ≡ after_act sh (after_all sh p.from p.acts) a word = ap (λ (b : ℕ). after_act sh player.world.state a b) (sym is) ∙ ap (λ (s : State V). after_act sh s a word) (sym now) in
    let there : new.state ≡ after_all sh p.from (p.acts ++ m ∷ []) = state ∙ read ∙ sym (after_all-append sh p.from p.acts (m ∷ [])) in
    ap (λ (s : State V). s.words) (there ∙ ap (λ (y : Shape). after_all y p.from (p.acts ++ m ∷ [])) (sym call.at.shape))

-- ---- a mark while no call runs
-- it may be made
pub may_mark : (V : ℕ) (player : Player V) (most i : ℕ) (w : Trace V) → IsIdle V player most w → HasRoom most → i < (shape_of_player player).items → MayAct {V = V} player.world (Mark i)
may_mark V player most i w idle room inside =
    let sh = shape_of_player player in
    let s : State V = state_of V sh w.acts in
    let quiet : s.phase ≡ Quiet = idle.knows.books.quiet.quiet in
    let allowed : IsAllowed sh s (Mark i) = subst (λ (p : Phase). MayFrom V sh s.words s.hand s.cleared p (Mark i)) (sym quiet) inside in
    ((subst (λ (y : State V). IsAllowed sh y (Mark i)) (sym idle.at.world.state) allowed, tt), tt, omega (arith, idle.at.world.events, idle.at.events, room))

-- and it changes nothing else
pub marked : (V : ℕ) (old new : Player V) (most i : ℕ) (w x : Trace V) → IsIdle V old most w → shape_of_player new ≡ shape_of_player old → new.clerk ≡ old.clerk → Shows {V = V} new.world x
    → WriterMakes V (shape_of_player old) w (record { act = Mark i; bit = 0 } ∷ []) x → x.events ≡ w.events + 1 → IsMarked V old new most i w
marked V old new most i w x idle same clerk shows makes events =
    let m : Made = record { act = Mark i; bit = 0 } in
    let acts : state_of V (shape_of_player old) w.acts ≡ state_of V (shape_of_player old) x.acts = sym (state_push V (shape_of_player old) w.acts m) ∙ ap (state_of V (shape_of_player old)) (sym makes.1) in
    let now : state_of V (shape_of_player old) w.acts ≡ state_of V (shape_of_player new) x.acts = acts ∙ ap (λ (y : Shape). state_of V y x.acts) (sym same) in
    record {
      after = x;
      makes = makes;
      shape = same;
      idle = record {
        at = at_after_one V old new most w x m idle.at same shows makes events (ap (λ (y : Clerk V). clerks.shape_of_clerk y) clerk);
        knows = subst (λ (y : Clerk V). Knows V y (state_of V (shape_of_player new) x.acts)) (sym clerk) (subst (Knows V old.clerk) now idle.knows);
      };
    }

-- ---- a clerk's answer
none_or_some : {A : Type 0} (o : Option A) → (o ≡ None) ⊎ IsSome o
none_or_some None = inl refl
none_or_some (Some x) = inr refl

-- if no answer is returned there is an act to make
acts_to_make : (V : ℕ) (clerk : Clerk V) (call : Call) (s : State V) (acts : List Made) → IsOn V clerk call s acts → (IsSome {T = Answer} None ↔ (clerks.HasCall {V = V} clerk × (next_act clerk ≡ None))) → IsSome (next_act clerk)
acts_to_make V clerk call s acts on ends = elim (none_or_some (next_act clerk)) [
  | inl none ↦ absurd (cc (ends.1 (on_runs V clerk call s acts on, none)))
  | inr some ↦ some
]

-- what the clerk's answer says
pub record TellsAs (V : ℕ) (mid new : Player V) (told : Option Answer) : Type 0 where
  pub world : new.world ≡ mid.world
  pub shape : clerks.shape_of_clerk new.clerk ≡ clerks.shape_of_clerk mid.clerk
  pub ends : IsSome told ↔ (clerks.HasCall {V = V} mid.clerk × (next_act mid.clerk ≡ None))
  pub some : IfSome told (λ a. (call : Call) (s : State V) (acts : List Made) → IsOn V mid.clerk call s acts → Answered V (clerks.shape_of_clerk mid.clerk) call s acts a × Knows V new.clerk (after_all (clerks.shape_of_clerk mid.clerk) s acts))
  pub none : IfNone told (new.clerk ≡ mid.clerk)

-- a player that is the same but for its clerk, which is the same too
same_call : (V : ℕ) (mid new : Player V) (most : ℕ) (p : Pending V) (w : Trace V) → new.world ≡ mid.world → new.clerk ≡ mid.clerk → IsInCall V mid most p w → IsInCall V new most p w
same_call V mid new most p w world clerk call =
    subst (λ (y : Player V). IsInCall V y most p w) (player_is mid new world clerk) call
  where
    of_parts : WorldView V → Clerk V → Player V
    of_parts world clerk = record { world = world; clerk = clerk }

    player_is : (mid new : Player V) → new.world ≡ mid.world → new.clerk ≡ mid.clerk → mid ≡ new
    player_is mid new world clerk = ap (λ (y : WorldView V). of_parts y mid.clerk) (sym world) ∙ ap (of_parts new.world) (sym clerk)

-- after an act the call continues, or is answered
pub goes_on_as : (V : ℕ) (old mid new : Player V) (most : ℕ) (p : Pending V) (w : Trace V) (told : Option Answer) → IsInCall V mid most p w → shape_of_player mid ≡ shape_of_player old → acts_left mid.clerk < acts_left old.clerk → TellsAs V mid new told → GoesOn V old new most p w told
goes_on_as V old mid new most p w None call same fewer tells =
    let on = call.on in
    let more = acts_to_make V mid.clerk p.call p.from p.acts on tells.ends in (
      (same_call V mid new most p w tells.world tells.none call, subst (λ (c : Clerk V). IsSome (next_act c)) (sym tells.none) more),
      subst (λ (c : Clerk V). acts_left c < acts_left old.clerk) (sym tells.none) fewer,
    )
goes_on_as V old mid new most p w (Some a) call same fewer tells =
    let said = tells.some p.call p.from p.acts call.on in
    (subst (λ (y : Shape). Answered V y p.call p.from p.acts a) (call.at.shape ∙ same) said.0, call_is_over V mid new most p w call tells.world tells.shape said.1)

-- a call begins, or is answered at once
pub begins_as : (V : ℕ) (old mid new : Player V) (most : ℕ) (call : Call) (w : Trace V) (told : Option Answer) → IsInCall V mid most (pending call (state_of V (shape_of_player old) w.acts)) w → shape_of_player mid ≡ shape_of_player old → TellsAs V mid new told → BeginsAs V (shape_of_player old) new most call w told
begins_as V old mid new most call w None in_call same tells =
    let p = pending call (state_of V (shape_of_player old) w.acts) in
    let more = acts_to_make V mid.clerk p.call p.from p.acts in_call.on tells.ends in
    (same_call V mid new most p w tells.world tells.none in_call, subst (λ (c : Clerk V). IsSome (next_act c)) (sym tells.none) more)
begins_as V old mid new most call w (Some a) in_call same tells =
    let p = pending call (state_of V (shape_of_player old) w.acts) in
    let said = tells.some p.call p.from p.acts in_call.on in
    (subst (λ (y : Shape). Answered V y p.call p.from p.acts a) (in_call.at.shape ∙ same) said.0, call_is_over V mid new most p w in_call tells.world tells.shape said.1)

-- ---- a whole call
-- a call that was begun has an answer to return, or acts to make
pub begun : (V : ℕ) (old mid : Player V) (most : ℕ) (call : Call) (w : Trace V) → IsIdle V old most w → mid.world ≡ old.world → clerks.shape_of_clerk mid.clerk ≡ clerks.shape_of_clerk old.clerk
    → IsOn V mid.clerk call (state_of V (shape_of_player old) w.acts) [] → acts_left mid.clerk ≤ 2 ^ 23 + 64 → IsInCall V mid most (pending call (state_of V (shape_of_player old) w.acts)) w
begun V old mid most call w idle world clerk on few =
    let same : shape_of_player mid ≡ shape_of_player old = ap (λ (y : WorldView V). y.shape) world in
    record {
      at = record {
        world = subst (λ (y : WorldView V). Shows {V = V} y w) (sym world) idle.at.world;
        reached = subst (λ (y : Shape). IsReached V y w) (sym same) idle.at.reached;
        shape = clerk ∙ idle.at.shape ∙ sym same;
        readers = idle.at.readers ∙ ap (λ (y : WorldView V). length y.readers) (sym world);
        events = idle.at.events;
      };
      on = on;
      now = ap (λ (y : Shape). state_of V y w.acts) (sym same);
      few = omega (arith, few);
    }

-- the acts that were made of a call that continues
pub record MakesSome (V : ℕ) (old now : Player V) (most : ℕ) (p : Pending V) (w : Trace V) : Type 0 where
  pub acts : List Made
  pub after : Trace V
  pub makes : WriterMakes V (shape_of_player old) w acts after
  pub call : IsMidCall V now (most + (acts_left old.clerk - acts_left now.clerk)) (with_acts p acts) after
  pub shape : shape_of_player now ≡ shape_of_player old
  pub fewer : acts_left now.clerk ≤ acts_left old.clerk

-- acts that are added in two parts are added at once
same_pending : (V : ℕ) (p : Pending V) (xs ys : List Made) → with_acts (with_acts p xs) ys ≡ with_acts p (xs ++ ys)
same_pending V p xs ys = ap (λ (l : List Made). of_acts l) (append_assoc p.acts xs ys)
  where
    of_acts : List Made → Pending V
    of_acts l = record { call = p.call; from = p.from; acts = l }

-- no act was made yet
pub makes_nothing : (V : ℕ) (player : Player V) (most : ℕ) (p : Pending V) (w : Trace V) → IsMidCall V player most p w → MakesSome V player player most p w
makes_nothing V player most p w runs =
    let none : most ≡ most + (acts_left player.clerk - acts_left player.clerk) = omega arith in
    record {
      acts = [];
      after = w;
      makes = makes_none V (shape_of_player player) w;
      call = subst (λ (m : ℕ). IsMidCall V player m (with_acts p []) w) none (subst (λ (q : Pending V). IsMidCall V player most q w) (sym (with_none p)) runs);
      shape = refl;
      fewer = omega arith;
    }
  where
    of_acts : Pending V → List Made → Pending V
    of_acts p l = record { call = p.call; from = p.from; acts = l }

    with_none : (p : Pending V) → with_acts p [] ≡ p
    with_none p = ap (of_acts p) (append-nil p.acts)

-- more events may be counted
in_call_more : (V : ℕ) (player : Player V) (most more : ℕ) (p : Pending V) (w : Trace V) → most ≤ more → IsInCall V player most p w → IsInCall V player more p w
in_call_more V player most more p w le call = record {
  at = record { world = call.at.world; reached = call.at.reached; shape = call.at.shape; readers = call.at.readers; events = omega (arith, call.at.events, le) };
  on = call.on;
  now = call.now;
  few = call.few;
}

-- an idle player is so under a higher bound
pub idle_more : (V : ℕ) (player : Player V) (most more : ℕ) (w : Trace V) → most ≤ more → IsIdle V player most w → IsIdle V player more w
idle_more V player most more w le idle = record {
  at = record { world = idle.at.world; reached = idle.at.reached; shape = idle.at.shape; readers = idle.at.readers; events = omega (arith, idle.at.events, le) };
  knows = idle.knows;
}

-- one act more was made
pub makes_more : (V : ℕ) (old now new : Player V) (most : ℕ) (p : Pending V) (w : Trace V) (some : MakesSome V old now most p w) → MakesAct V now new (most + (acts_left old.clerk - acts_left now.clerk)) (with_acts p some.acts) some.after None → MakesSome V old new most p w
makes_more V old now new most p w some act =
    let less = act.goes_on.1 in
    let le : most + (acts_left old.clerk - acts_left now.clerk) + 1 ≤ most + (acts_left old.clerk - acts_left new.clerk) = omega (arith, less, some.fewer) in
    record {
      acts = some.acts ++ act.made ∷ [];
      after = act.after;
      makes = makes_append V (shape_of_player old) w some.after act.after some.acts (act.made ∷ []) some.makes (subst (λ (y : Shape). WriterMakes V y some.after (act.made ∷ []) act.after) some.shape act.makes);
      call = (subst (λ (q : Pending V). IsInCall V new (most + (acts_left old.clerk - acts_left new.clerk)) q act.after) (same_pending V p some.acts (act.made ∷ [])) (in_call_more V new _ _ _ act.after le act.goes_on.0.0), act.goes_on.0.1);
      shape = act.shape ∙ some.shape;
      fewer = omega (arith, less, some.fewer);
    }

-- the last act was made
pub makes_last : (V : ℕ) (old now new : Player V) (most : ℕ) (p : Pending V) (w : Trace V) (a : Answer) (some : MakesSome V old now most p w) → 0 < acts_left now.clerk
    → MakesAct V now new (most + (acts_left old.clerk - acts_left now.clerk)) (with_acts p some.acts) some.after (Some a) → Completes V old new most p w a
makes_last V old now new most p w a some more act =
    let le : most + (acts_left old.clerk - acts_left now.clerk) + 1 ≤ most + acts_left old.clerk = omega (arith, more, some.fewer) in
    record {
      acts = some.acts ++ act.made ∷ [];
      after = act.after;
      makes = makes_append V (shape_of_player old) w some.after act.after some.acts (act.made ∷ []) some.makes (subst (λ (y : Shape). WriterMakes V y some.after (act.made ∷ []) act.after) some.shape act.makes);
      shape = act.shape ∙ some.shape;
      answered = subst (λ (y : Shape). Answered V y p.call p.from (p.acts ++ (some.acts ++ act.made ∷ [])) a) some.shape (subst (λ (l : List Made). Answered V (shape_of_player now) p.call p.from l a) (append_assoc p.acts some.acts (act.made ∷ [])) act.goes_on.0);
      idle = idle_more V new _ _ act.after le act.goes_on.1;
    }

-- a call that was answered at once is whole
pub whole_at_once : (V : ℕ) (old new : Player V) (most : ℕ) (call : Call) (w : Trace V) (a : Answer) → shape_of_player new ≡ shape_of_player old → BeginsAs V (shape_of_player old) new most call w (Some a) → CallIsWhole V old new most call w a
whole_at_once V old new most call w a same begins = record {
  acts = [];
  after = w;
  makes = makes_none V (shape_of_player old) w;
  shape = same;
  answered = begins.0;
  idle = idle_more V new most (most + most_steps) w (omega arith) begins.1;
}

-- a call that was begun and completed is whole
pub whole_in_time : (V : ℕ) (old mid new : Player V) (most : ℕ) (call : Call) (w : Trace V) (a : Answer) → shape_of_player mid ≡ shape_of_player old → acts_left mid.clerk ≤ most_steps
    → Completes V mid new most (pending call (state_of V (shape_of_player old) w.acts)) w a → CallIsWhole V old new most call w a
whole_in_time V old mid new most call w a same few done = record {
  acts = done.acts;
  after = done.after;
  makes = subst (λ (y : Shape). WriterMakes V y w done.acts done.after) same done.makes;
  shape = done.shape ∙ same;
  answered = subst (λ (y : Shape). Answered V y call (state_of V (shape_of_player old) w.acts) done.acts a) same done.answered;
  idle = idle_more V new _ _ done.after (omega (arith, few)) done.idle;
}

-- a clerk with an act to make has acts left
some_left_in : (V : ℕ) (st : Stage V) (plan : List Act) (many : ℕ) → IsSome (clerks.next_in st plan many) → 0 < clerks.left_in st plan many
some_left_in V Idle plan many some = absurd (cc some)
some_left_in V (Sweeping waiting) plan many some = omega arith
some_left_in V (Planned told) plan many some = at (slice_get plan many) refl some
  where
    at : (o : Option Act) → slice_get plan many ≡ o → IsSome o → 0 < length plan - many
    at None is some = absurd (cc some)
    at (Some a) is some = let lt = slice_get_within plan many a is in omega (arith, lt)

-- a clerk with a next act has acts left
pub acts_are_left : (V : ℕ) (clerk : Clerk V) → IsSome (next_act clerk) → 0 < acts_left clerk
unfolding next_act acts_left
acts_are_left V clerk some = some_left_in V clerk.stage clerk.plan.items clerk.made some

-- there is room for the acts that are left
pub room_left : (V : ℕ) (old now : Player V) (most : ℕ) (p : Pending V) (w : Trace V) → MakesSome V old now most p w → most + acts_left old.clerk < 2 ^ 64 - 1 → most + (acts_left old.clerk - acts_left now.clerk) + acts_left now.clerk < 2 ^ 64 - 1
room_left V old now most p w some room = omega (arith, room, some.fewer)

-- if there is an answer the call was still running
some_left : (V : ℕ) (player : Player V) (most : ℕ) (p : Pending V) (w : Trace V) → IsMidCall V player most p w → 0 < acts_left player.clerk
some_left V player most p w runs = acts_are_left V player.clerk runs.1

-- some acts and the last one complete a call
pub makes_last_of : (V : ℕ) (old now new : Player V) (most : ℕ) (p : Pending V) (w : Trace V) (a : Answer) (some : MakesSome V old now most p w) → MakesAct V now new (most + (acts_left old.clerk - acts_left now.clerk)) (with_acts p some.acts) some.after (Some a) → Completes V old new most p w a
makes_last_of V old now new most p w a some act = makes_last V old now new most p w a some (some_left V now _ _ some.after some.call) act

-- ---- between two calls
-- the words agree with the history
pub agrees_now : (V : ℕ) (player : Player V) (most : ℕ) (w : Trace V) (sh : Shape) → IsIdle V player most w → sh ≡ shape_of_player player → Agrees V sh player.world.state.words None (state_of V (shape_of_player player) w.acts).history
agrees_now V player most w sh idle same =
    let s : State V = state_of V (shape_of_player player) w.acts in
    let quiet = idle.knows.books.quiet in
    let none : Agrees V (clerks.shape_of_clerk player.clerk) s.words None s.history = subst (λ (p : Phase). Agrees V (clerks.shape_of_clerk player.clerk) s.words (deed_key p) s.history) quiet.quiet quiet.holds.agrees in
    let here : Agrees V sh s.words None s.history = subst (λ (y : Shape). Agrees V y s.words None s.history) (idle.at.shape ∙ sym same) none in
    subst (λ (x : State V). Agrees V sh x.words None s.history) (sym idle.at.world.state) here

-- the writer's lookup found the key
pub looks_found : (V : ℕ) (player : Player V) (most k i at since q : ℕ) (v : List ℕ) (w : Trace V) (sh : Shape) → IsIdle V player most w → sh ≡ shape_of_player player → map_value (state_of V (shape_of_player player) w.acts).history k ≡ Some (v ++ since ∷ []) → at ≡ moment player.world.state.words → Stands V sh player.world.state.words k q i
    → LooksUp {V = V} (shape_of_player player) (state_of V (shape_of_player player) w.acts) k (Found v at since) (record { act = Mark i; bit = 0 } ∷ [])
looks_found V player most k i at since q v w sh idle same value is stands =
    let agrees = agrees_now V player most w sh idle same in
    let there : Stands V (shape_of_player player) (state_of V (shape_of_player player) w.acts).words k q i =
    subst (λ (x : State V). Stands V (shape_of_player player) x.words k q i) idle.at.world.state (subst (λ (y : Shape). Stands V y player.world.state.words k q i) same stands) in
    (record { value = value; unchanged = refl; moment = is ∙ agrees.at_moment }, (q, i, there, refl))

-- a key that the history does not hold is reported absent, and no act is made
pub looks_missed : (V : ℕ) (player : Player V) (most k at : ℕ) (w : Trace V) (sh : Shape) → IsIdle V player most w → sh ≡ shape_of_player player → map_value (state_of V (shape_of_player player) w.acts).history k ≡ None → at ≡ moment player.world.state.words
    → LooksUp {V = V} (shape_of_player player) (state_of V (shape_of_player player) w.acts) k (Absent at) []
looks_missed V player most k at w sh idle same absent is =
    (record { absent = absent; unchanged = refl; moment = is ∙ (agrees_now V player most w sh idle same).at_moment }, refl)
