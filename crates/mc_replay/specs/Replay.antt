-- What each command of a script does, and what is written for it.
use Rattle.std.specs.Prelude.{◌≡◌, ℕ, zero, suc, ◌<◌, ◌≤◌, ◌⊎◌, List, [], ◌∷◌, ◌++◌, length, map, slice_get, Option, Some, None, IsSome}
use Rattle.mc_words.specs.declared.history.Reply.{Reply}
use Rattle.mc_words.specs.declared.history.Reply.TheVariants.{Found, Absent, Busy}
use Rattle.mc_words.specs.declared.shape.Shape.{Shape}
use Rattle.mc_words.specs.Answers.{Finds, Misses}
use Rattle.mc_words.specs.Shapes.{IsShape}
use Rattle.mc_words.specs.declared.history.Change.{Change}
use Rattle.mc_words.specs.Standing.{Stands}
use Rattle.mc_theory.specs.Lists.{Made, state_of}
use Rattle.mc_theory.specs.States.{State, opening}
use Rattle.mc_search.specs.Entries.{AreEntriesOf, AreInOrder}
use Rattle.mc_plan.specs.Loads.{Loads}
use Rattle.mc_plan.specs.declared.answer.Why.{Why}
use Rattle.mc_theory.specs.Traces.{Trace, OpenLookup, Ended, IsTrueEnd, first_trace, StepsByClock, StepsAllByClock}
use Rattle.mc_theory.specs.declared.act.Act.TheVariants.{Mark}
use Rattle.mc_theory.specs.declared.event.Event.TheVariants as event
use Rattle.mc_plan.specs.WholeCalls.{Call, PutCall, PutIfCall, RemoveCall, Answered, quiet_of}
use Rattle.mc_plan.specs.declared.answer.Answer.{Answer}
use Rattle.mc_script.specs.declared.command.Command.{Command}
use Rattle.mc_script.specs.declared.command.Command.TheVariants as command
use Rattle.mc_replay.specs.declared.fault.Fault.{Fault}
use Rattle.mc_replay.specs.declared.fault.Fault.TheVariants.{BadShape, NoSuchReader, StillRunning, NothingToStep}
use Rattle.mc_replay.specs.Texts.{answer_line, reply_line, stamp_line, done_line, reopened_lines}

-- a call of the writer that is made act by act: the state in which it began, and the acts made since
pub record Pending (V : ℕ) : Type 0 where
  pub call : Call
  pub from : State V
  pub acts : List Made

-- the world in which a script plays, and the writer's call that runs
pub record Replay (V : ℕ) : Type 0 where
  pub world : Trace V
  pub running : Option (Pending V)

-- a new world, in which no call runs
abbrev pub first_replay : (V : ℕ) → Shape → ℕ → Replay V
first_replay V sh readers = record { world = first_trace V sh readers; running = None }

-- the state of the table and its writer
abbrev pub state_now : {V : ℕ} → Shape → Replay V → State V
state_now {V} sh s = state_of V sh s.world.acts

-- the writer makes these acts, with the bits that they read, and nothing else happens
abbrev pub WriterMakes : (V : ℕ) → Shape → Trace V → List Made → Trace V → Type 0
WriterMakes V sh w acts x = StepsAllByClock V sh w (map (λ (m : Made). event.Write m.act) acts) x × (x.acts ≡ w.acts ++ acts)

-- the line does what P says, unless a call of the writer runs
abbrev pub WhereIdle : {V : ℕ} → Replay V → List ℕ → Option Fault → Replay V → Type 0 → Type 0
WhereIdle s text fault t P =
    ((s.running ≡ None) × (fault ≡ None) × P) ⊎ (IsSome s.running × (fault ≡ Some StillRunning) × (text ≡ []) × (t ≡ s))

-- the writer makes the acts of a whole call, and the answer is the one that the call has
pub record IsAnswered (V : ℕ) (sh : Shape) (s t : Replay V) (call : Call) (acts : List Made) (a : Answer) : Type 0 where
  pub makes : WriterMakes V sh s.world acts t.world
  pub answered : Answered V sh call (state_now sh s) acts a
  pub idle : t.running ≡ None

-- a whole call of the writer
abbrev pub CallDoes : {V : ℕ} → Shape → Replay V → Call → List ℕ → Option Fault → Replay V → Type 0
CallDoes {V} sh s call text fault t =
    WhereIdle s text fault t ((a : Answer) × (acts : List Made) × IsAnswered V sh s t call acts a × (text ≡ answer_line a))

-- the call can still come to an answer, after one act more or several
pub record IsUnanswered (V : ℕ) (sh : Shape) (p : Pending V) : Type 0 where
  pub more : List Made
  pub told : Answer
  pub some : 0 < length more
  pub answered : Answered V sh p.call p.from (p.acts ++ more) told

-- the call that begins here
abbrev pub pending : {V : ℕ} → Call → State V → Pending V
pending call s = record { call = call; from = s; acts = [] }

-- a call that is to be made act by act: it runs now, or is answered if it needs no act
abbrev pub BeginDoes : {V : ℕ} → Shape → Replay V → Call → List ℕ → Option Fault → Replay V → Type 0
BeginDoes {V} sh s call text fault t =
    WhereIdle s text fault t (
    ((a : Answer) × IsAnswered V sh s t call [] a × (text ≡ answer_line a)) ⊎
    ((text ≡ []) × (t ≡ record { world = s.world; running = Some (pending call (state_now sh s)) }) × IsUnanswered V sh (pending call (state_now sh s)))
    )

-- what the writer's lookup replies, and the mark that it makes of the key's item
abbrev pub LooksUp : {V : ℕ} → Shape → State V → ℕ → Reply V → List Made → Type 0
LooksUp {V} sh s k (Found v at since) acts =
    Finds V (quiet_of s) (quiet_of s) k v at since × ((q : ℕ) × (i : ℕ) × Stands V sh s.words k q i × (acts ≡ record { act = Mark i; bit = 0 } ∷ []))
LooksUp {V} sh s k (Absent at) acts = Misses V (quiet_of s) (quiet_of s) k at × (acts ≡ [])
LooksUp sh s k Busy acts = ⊥

-- a whole lookup by the writer, whose reply has this line
abbrev pub GetDoes : {V : ℕ} → Shape → Replay V → ℕ → (Reply V → List ℕ) → List ℕ → Option Fault → Replay V → Type 0
GetDoes {V} sh s k line_of text fault t =
    WhereIdle s text fault t (
    (reply : Reply V) × (acts : List Made) × LooksUp sh (state_now sh s) k reply acts × WriterMakes V sh s.world acts t.world × (t.running ≡ None) × (text ≡ line_of reply)
    )

-- the call with one act more
abbrev pub with_act : {V : ℕ} → Pending V → Made → Pending V
with_act p m = record { call = p.call; from = p.from; acts = p.acts ++ m ∷ [] }

-- one act of the call that runs; after its last act the call is answered
abbrev pub ActDoes : {V : ℕ} → Shape → Replay V → Pending V → List ℕ → Replay V → Type 0
ActDoes {V} sh s p text t =
    (m : Made) × WriterMakes V sh s.world (m ∷ []) t.world × (
    ((text ≡ []) × (t.running ≡ Some (with_act p m)) × IsUnanswered V sh (with_act p m)) ⊎
    ((a : Answer) × Answered V sh p.call p.from (p.acts ++ m ∷ []) a × (text ≡ answer_line a) × (t.running ≡ None))
    )

-- this many acts, or those up to the first that cannot be made
abbrev pub ActsDo : {V : ℕ} → Shape → ℕ → Replay V → List ℕ → Option Fault → Replay V → Type 0
ActsDo sh zero s text fault t = (text ≡ []) × (fault ≡ None) × (t ≡ s)
ActsDo {V} sh (suc n) s text fault t =
    ((s.running ≡ None) × (text ≡ []) × (fault ≡ Some NothingToStep) × (t ≡ s)) ⊎
    ((p : Pending V) × (m : Replay V) × (first : List ℕ) × (rest : List ℕ) × (s.running ≡ Some p) × ActDoes sh s p first m × ActsDo sh n m rest fault t × (text ≡ first ++ rest))

-- what is written after an access: nothing, or the line of the lookup that it ended, whose reply is true of the history at a moment of its span
abbrev pub IsTold : {V : ℕ} → Shape → Trace V → Trace V → List ℕ → Type 0
IsTold {V} sh w x text = ((x.ended ≡ w.ended) × (text ≡ [])) ⊎ ((e : Ended V) × (x.ended ≡ w.ended ++ e ∷ []) × IsTrueEnd V sh x e × (text ≡ done_line e.told))

-- one access of a reader's lookup; after its last access the lookup's reply is written
pub record AccessDoes (V : ℕ) (sh : Shape) (s : Replay V) (r : ℕ) (text : List ℕ) (t : Replay V) : Type 0 where
  pub steps : StepsByClock V sh s.world (event.Read r) t.world
  pub told : IsTold sh s.world t.world text
  pub writer : t.running ≡ s.running

-- this many accesses, or those up to the first that cannot be made
abbrev pub AccessesDo : {V : ℕ} → Shape → ℕ → Replay V → ℕ → List ℕ → Option Fault → Replay V → Type 0
AccessesDo sh zero s r text fault t = (text ≡ []) × (fault ≡ None) × (t ≡ s)
AccessesDo {V} sh (suc n) s r text fault t =
    ((slice_get s.world.readers r ≡ Some None) × (text ≡ []) × (fault ≡ Some NothingToStep) × (t ≡ s)) ⊎
    ((m : Replay V) × (first : List ℕ) × (rest : List ℕ) × AccessDoes V sh s r first m × AccessesDo sh n m r rest fault t × (text ≡ first ++ rest))

-- the line does what P says, if there is such a reader
abbrev pub OfReader : {V : ℕ} → Replay V → ℕ → List ℕ → Option Fault → Replay V → Type 0 → Type 0
OfReader s r text fault t P =
    ((r < length s.world.readers) × P) ⊎ ((length s.world.readers ≤ r) × (fault ≡ Some NoSuchReader) × (text ≡ []) × (t ≡ s))

-- a reader begins a lookup, unless it runs one
abbrev pub LookUpDoes : {V : ℕ} → Shape → Replay V → ℕ → ℕ → List ℕ → Option Fault → Replay V → Type 0
LookUpDoes {V} sh s r k text fault t =
    OfReader s r text fault t ((text ≡ []) × (
    ((fault ≡ None) × StepsByClock V sh s.world (event.Begin r k) t.world × (t.running ≡ s.running)) ⊎
    ((fault ≡ Some StillRunning) × ((run : OpenLookup) × (slice_get s.world.readers r ≡ Some (Some run))) × (t ≡ s))
    ))

-- some accesses of a reader
abbrev pub ReadsDo : {V : ℕ} → Shape → Replay V → ℕ → ℕ → List ℕ → Option Fault → Replay V → Type 0
ReadsDo sh s r n text fault t = OfReader s r text fault t (AccessesDo sh n s r text fault t)

-- what a command does in its world
abbrev pub Does : {V : ℕ} → Shape → Replay V → Command V → List ℕ → Option Fault → Replay V → Type 0
Does sh s (command.Put k v) text fault t = CallDoes sh s (PutCall k v) text fault t
Does sh s (command.PutIf k since v) text fault t = CallDoes sh s (PutIfCall k since v) text fault t
Does sh s (command.Remove k) text fault t = CallDoes sh s (RemoveCall k) text fault t
Does {V} sh s (command.Get k) text fault t = GetDoes sh s k (reply_line {V = V}) text fault t
Does {V} sh s (command.Stamp k) text fault t = GetDoes sh s k (stamp_line {V = V}) text fault t
Does sh s (command.BeginPut k v) text fault t = BeginDoes sh s (PutCall k v) text fault t
Does sh s (command.BeginPutIf k since v) text fault t = BeginDoes sh s (PutIfCall k since v) text fault t
Does sh s (command.BeginRemove k) text fault t = BeginDoes sh s (RemoveCall k) text fault t
Does sh s (command.Write n) text fault t = ActsDo sh n s text fault t
Does sh s (command.BeginGet r k) text fault t = LookUpDoes sh s r k text fault t
Does sh s (command.Read r n) text fault t = ReadsDo sh s r n text fault t
-- this one leads to another world
Does sh s (command.Reopen b c) text fault t = ⊥

-- a world in which a script plays, with the shape of its table
pub record Scene (V : ℕ) : Type 0 where
  pub shape : Shape
  pub now : Replay V

-- a new one
abbrev pub first_scene : (V : ℕ) → Shape → ℕ → Scene V
first_scene V sh readers = record { shape = sh; now = first_replay V sh readers }

-- the writer's call runs by single steps, or a reader's lookup
abbrev pub IsBusy : {V : ℕ} → Replay V → Type 0
IsBusy s = IsSome s.running ⊎ ((r : ℕ) × (run : OpenLookup) × (slice_get s.world.readers r ≡ Some (Some run)))

-- the shape with b buckets and c items, and otherwise unchanged
abbrev pub with_sizes : Shape → ℕ → ℕ → Shape
with_sizes sh b c = record { buckets = b; items = c; stripes = sh.stripes; depth = sh.depth; tries = sh.tries; limit = sh.limit; mix = sh.mix }

-- Another world replaces the first, with these sizes and as many readers. All that was done in it is that the entries of the first were put
-- one after the other, in the order of their items. Those that were left are reported.
pub record Reopens (V : ℕ) (s : Scene V) (b c : ℕ) (text : List ℕ) (t : Scene V) : Type 0 where
  pub entries : List (ℕ × List ℕ)
  pub listed : AreInOrder V s.shape (state_now s.shape s.now).words 0 s.shape.items entries
  pub held : AreEntriesOf V (state_now s.shape s.now).history entries
  pub sizes : t.shape ≡ with_sizes s.shape b c
  pub acts : List Made
  pub changes : List (Change V)
  pub left : List (ℕ × Why)
  pub loads : Loads V t.shape (opening V t.shape) 0 entries acts changes left
  pub makes : WriterMakes V t.shape (first_trace V t.shape (length s.now.world.readers)) acts t.now.world
  pub idle : t.now.running ≡ None
  pub told : text ≡ reopened_lines (length (state_now t.shape t.now).history) entries left

-- a line `reopen`: it is refused while a call or a lookup runs, and if there is no such shape
abbrev pub ReopenDoes : {V : ℕ} → Scene V → ℕ → ℕ → List ℕ → Option Fault → Scene V → Type 0
ReopenDoes {V} s b c text fault t =
    (IsBusy s.now × (fault ≡ Some StillRunning) × (text ≡ []) × (t ≡ s)) ⊎
    ((IsBusy s.now → ⊥) × (IsShape (with_sizes s.shape b c) → ⊥) × (fault ≡ Some BadShape) × (text ≡ []) × (t ≡ s)) ⊎
    ((IsBusy s.now → ⊥) × IsShape (with_sizes s.shape b c) × (fault ≡ None) × Reopens V s b c text t)

-- what a command does when a script plays
abbrev pub CommandDoes : {V : ℕ} → Scene V → Command V → List ℕ → Option Fault → Scene V → Type 0
CommandDoes s (command.Reopen b c) text fault t = ReopenDoes s b c text fault t
CommandDoes s c text fault t = (t.shape ≡ s.shape) × Does s.shape s.now c text fault t.now
