-- What a player of a replay shows of the replay that it is.
use Rattle.std.specs.Prelude.{ℕ, ◌≡◌, ◌+◌, ◌-◌, ◌*◌, ◌^◌, ◌<◌, ◌≤◌, List, [], ◌∷◌, ◌++◌, length, slice_get, Option, Some, None, IsSome, Result, Ok, Err, OnOk}
use Rattle.mc_words.specs.Places.{most_payload}
use Rattle.mc_words.specs.declared.history.Reply.{Reply}
use Rattle.mc_words.specs.declared.shape.Shape.{Shape}
use Rattle.mc_theory.specs.Lists.{Made, after_all, state_of}
use Rattle.mc_core.specs.Seen.{Shows}
use Rattle.mc_theory.specs.Traces.{Trace, OpenLookup, IsReached}
use Rattle.mc_theory.specs.declared.act.Act.TheVariants.{Mark}
use Rattle.mc_theory.specs.declared.event.Stepped.{Stepped}
use Rattle.mc_theory.specs.declared.event.Stepped.TheVariants as stepped
use Rattle.mc_plan.specs.Clerks as clerks
use Rattle.mc_plan.specs.WholeCalls as whole
use Rattle.mc_plan.specs.WholeCalls.{Call, Answered}
use Rattle.mc_plan.specs.Clerks.{Knows, IsOn, next_act, acts_left}
use Rattle.mc_plan.specs.declared.answer.Answer.{Answer}
use Rattle.mc_replay.specs.declared.fault.Fault.{Fault}
use Rattle.mc_replay.specs.declared.fault.Fault.TheVariants.{ReadFailed, NoMemory, NoSuchReader, WriteFailed}
use Rattle.mc_replay.specs.declared.player.Call as asked
use Rattle.mc_replay.specs.declared.player.Call.TheVariants as asked_as
use Rattle.mc_replay.specs.declared.player.Player.{Player}
use Rattle.mc_replay.specs.Replay.{Replay, Scene, Pending, pending, WriterMakes, LooksUp, ActDoes}
use Rattle.mc_words.specs.Readers.{HasReaders}

abbrev pub shape_of_player : {V : ℕ} → Player V → Shape
shape_of_player player = player.world.shape

-- how many events one line has at most
abbrev pub most_steps : ℕ
most_steps = 2 ^ 23 + 64

-- how many entries a table has at most
abbrev pub most_entries : ℕ
most_entries = 2 ^ 22

-- how many events there are at most when they are put into another world
abbrev pub most_loading : ℕ
most_loading = most_entries * most_steps

-- the most events that there are in a world before this many lines are done
abbrev pub most_before : ℕ → ℕ
most_before lines = most_loading + lines * most_steps

-- how many accesses one lookup makes at most, in as many tries as there can be, of as many words as an item can have
abbrev pub most_accesses : ℕ
most_accesses = 64 * (19 + most_payload) + 1

-- the lookup that the reader runs, if it runs one, has made at least n accesses
abbrev pub HasAccessed : {V : ℕ} → Trace V → ℕ → ℕ → Type 0
HasAccessed w r n = (run : OpenLookup) → slice_get w.readers r ≡ Some (Some run) → n ≤ length run.sofar

-- there is room for the events of one line more
abbrev pub HasRoom : ℕ → Type 0
HasRoom most = most + most_steps < 2 ^ 64 - 1

-- the player shows this world, to which at most `most` events led from a new one
pub record IsAt (V : ℕ) (player : Player V) (most : ℕ) (w : Trace V) : Type 0 where
  pub world : Shows {V = V} player.world w
  pub reached : IsReached V (shape_of_player player) w
  pub shape : clerks.shape_of_clerk player.clerk ≡ shape_of_player player
  pub readers : length w.readers ≡ length player.world.readers
  pub events : w.events ≤ most

-- no call of the writer runs
pub record IsIdle (V : ℕ) (player : Player V) (most : ℕ) (w : Trace V) : Type 0 where
  pub at : IsAt V player most w
  pub knows : Knows V player.clerk (state_of V (shape_of_player player) w.acts)

-- the writer's call runs, or its answer is still to be returned
pub record IsInCall (V : ℕ) (player : Player V) (most : ℕ) (p : Pending V) (w : Trace V) : Type 0 where
  pub at : IsAt V player most w
  pub on : IsOn V player.clerk p.call p.from p.acts
  pub now : after_all (shape_of_player player) p.from p.acts ≡ state_of V (shape_of_player player) w.acts
  pub few : acts_left player.clerk ≤ most_steps

-- the writer's call runs, and has an act to make
abbrev pub IsMidCall : (V : ℕ) → Player V → ℕ → Pending V → Trace V → Type 0
IsMidCall V player most p w = IsInCall V player most p w × IsSome (next_act player.clerk)

abbrev pub FitsCall : (V : ℕ) → Player V → ℕ → Option (Pending V) → Trace V → Type 0
FitsCall V player most None w = IsIdle V player most w
FitsCall V player most (Some p) w = IsMidCall V player most p w

-- the player is this replay, in which there were at most `most` events
abbrev pub Fits : (V : ℕ) → Player V → ℕ → Replay V → Type 0
Fits V player most s = FitsCall V player most s.running s.world

-- some acts more of the call
abbrev pub with_acts : {V : ℕ} → Pending V → List Made → Pending V
with_acts p acts = record { call = p.call; from = p.from; acts = p.acts ++ acts }

-- the requested call, as a clerk's definitions name it
abbrev pub call_of : {V : ℕ} → asked.Call V → Call
call_of (asked_as.Put k v) = whole.PutCall k v
call_of (asked_as.PutIf k since v) = whole.PutIfCall k since v
call_of (asked_as.Remove k) = whole.RemoveCall k
call_of (asked_as.PutKept k v) = whole.KeptCall k v

-- a call began, or is answered if it needs no act
abbrev pub BeginsAs : (V : ℕ) → Shape → Player V → ℕ → Call → Trace V → Option Answer → Type 0
BeginsAs V sh new most call w (Some a) = Answered V sh call (state_of V sh w.acts) [] a × IsIdle V new most w
BeginsAs V sh new most call w None = IsMidCall V new most (pending call (state_of V sh w.acts)) w

abbrev pub Begins : (V : ℕ) → Player V → Player V → ℕ → Call → Trace V → Option Answer → Type 0
Begins V old new most call w told = (shape_of_player new ≡ shape_of_player old) × BeginsAs V (shape_of_player old) new most call w told

-- after an act the call continues, or is answered
abbrev pub GoesOn : (V : ℕ) → Player V → Player V → ℕ → Pending V → Trace V → Option Answer → Type 0
GoesOn V old new most p x (Some a) = Answered V (shape_of_player old) p.call p.from p.acts a × IsIdle V new most x
GoesOn V old new most p x None = IsMidCall V new most p x × (acts_left new.clerk < acts_left old.clerk)

-- the writer made one act of the call that runs
pub record MakesAct (V : ℕ) (old new : Player V) (most : ℕ) (p : Pending V) (w : Trace V) (told : Option Answer) : Type 0 where
  pub made : Made
  pub after : Trace V
  pub makes : WriterMakes V (shape_of_player old) w (made ∷ []) after
  pub shape : shape_of_player new ≡ shape_of_player old
  pub goes_on : GoesOn V old new (most + 1) (with_acts p (made ∷ [])) after told

-- the writer made the other acts of the call, which is answered
pub record Completes (V : ℕ) (old new : Player V) (most : ℕ) (p : Pending V) (w : Trace V) (a : Answer) : Type 0 where
  pub acts : List Made
  pub after : Trace V
  pub makes : WriterMakes V (shape_of_player old) w acts after
  pub shape : shape_of_player new ≡ shape_of_player old
  pub answered : Answered V (shape_of_player old) p.call p.from (p.acts ++ acts) a
  pub idle : IsIdle V new (most + acts_left old.clerk) after

-- a whole call
pub record CallIsWhole (V : ℕ) (old new : Player V) (most : ℕ) (call : Call) (w : Trace V) (a : Answer) : Type 0 where
  pub acts : List Made
  pub after : Trace V
  pub makes : WriterMakes V (shape_of_player old) w acts after
  pub shape : shape_of_player new ≡ shape_of_player old
  pub answered : Answered V (shape_of_player old) call (state_of V (shape_of_player old) w.acts) acts a
  pub idle : IsIdle V new (most + most_steps) after

-- the writer marked an item
pub record IsMarked (V : ℕ) (old new : Player V) (most i : ℕ) (w : Trace V) : Type 0 where
  pub after : Trace V
  pub makes : WriterMakes V (shape_of_player old) w (record { act = Mark i; bit = 0 } ∷ []) after
  pub shape : shape_of_player new ≡ shape_of_player old
  pub idle : IsIdle V new (most + 1) after

-- a whole lookup by the writer
pub record Looks (V : ℕ) (old new : Player V) (most k : ℕ) (w : Trace V) (reply : Reply V) : Type 0 where
  pub acts : List Made
  pub after : Trace V
  pub looks : LooksUp (shape_of_player old) (state_of V (shape_of_player old) w.acts) k reply acts
  pub makes : WriterMakes V (shape_of_player old) w acts after
  pub shape : shape_of_player new ≡ shape_of_player old
  pub idle : IsIdle V new (most + most_steps) after

-- after n accesses of a reader's lookup
pub record ReadsSoFar (V : ℕ) (player : Player V) (most r n : ℕ) (m : Replay V) : Type 0 where
  pub fits : FitsCall V player (most + n) m.running m.world
  pub made : HasAccessed m.world r n
  pub few : n ≤ most_accesses

-- why nothing was opened
abbrev pub IsRefusedAs : ℕ → Fault → Type 0
IsRefusedAs readers NoSuchReader = HasReaders readers → ⊥
IsRefusedAs readers NoMemory = HasReaders readers
IsRefusedAs readers fault = ⊥

-- the bit that an event gave; most give none
abbrev pub bit_given : {V : ℕ} → Stepped V → ℕ
bit_given (stepped.Word bit) = bit
bit_given given = 0

-- what was done and written, or the fault; if memory ran out nothing is said
abbrev pub DoneAs : {A : Type 0} → (List ℕ → Option Fault → A → Type 0) → List ℕ → A → Result (Unit {0}) Fault → Type 0
DoneAs P text t (Ok u) = P text None t
DoneAs P text t (Err NoMemory) = Unit {0}
DoneAs P text t (Err ReadFailed) = ⊥
DoneAs P text t (Err WriteFailed) = ⊥
DoneAs P text t (Err fault) = P text (Some fault) t

-- the player is this replay, over a table of the same shape
abbrev pub FitsStill : (V : ℕ) → Player V → Player V → ℕ → Replay V → Type 0
FitsStill V old new most t = (shape_of_player new ≡ shape_of_player old) × Fits V new most t

-- the player is this replay, over a table of this shape
abbrev pub FitsScene : (V : ℕ) → Player V → ℕ → Scene V → Type 0
FitsScene V player most s = (shape_of_player player ≡ s.shape) × Fits V player most s.now

-- whatever replay the player was, it leads on as P says
abbrev pub DoesBy : (V : ℕ) → Player V → Player V → List ℕ → Result (Unit {0}) Fault → (Shape → Replay V → List ℕ → Option Fault → Replay V → Type 0) → Type 0
DoesBy V old new text result P =
    (most : ℕ) (s : Replay V) → HasRoom most → Fits V old most s →
    (t : Replay V) × DoneAs (P (shape_of_player old) s) text t result × OnOk result (FitsStill V old new (most + most_steps) t)

-- a command can be done: there is room for its events, and nothing was written yet
abbrev pub CanDo : (V : ℕ) → Player V → List ℕ → Type 0
CanDo V player text = (text ≡ []) × ((most : ℕ) × (s : Replay V) × HasRoom most × Fits V player most s)

-- a call runs, and there is room for its acts
abbrev pub CanAct : (V : ℕ) → Player V → Type 0
CanAct V player = (most : ℕ) × (p : Pending V) × (w : Trace V) × IsMidCall V player most p w × (most + acts_left player.clerk < 2 ^ 64 - 1)

-- after n acts of calls, when there were at most `most` events before
pub record ActsSoFar (V : ℕ) (player : Player V) (most n : ℕ) (m : Replay V) : Type 0 where
  pub fits : FitsCall V player (most + n) m.running m.world
  pub few : IsSome m.running → n + acts_left player.clerk ≤ most_steps
  pub past : n ≤ most_steps

-- one act of the call, and the line of its answer if it was the last
abbrev pub ActsOnce : (V : ℕ) → Player V → Player V → List ℕ → List ℕ → Type 0
ActsOnce V old new before after =
    (most n : ℕ) (m : Replay V) (p : Pending V) → HasRoom most → ActsSoFar V old most n m → m.running ≡ Some p →
    (t : Replay V) × (own : List ℕ) × ActDoes (shape_of_player old) m p own t × (after ≡ before ++ own) × ActsSoFar V new most (n + 1) t × (shape_of_player new ≡ shape_of_player old)
