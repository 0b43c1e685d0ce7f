-- What a command leaves, from what the player's calls leave.
use Rattle.std.proofs.Common.{◌≡◌, ℕ, ◌+◌, ◌-◌, ◌<◌, true, false, List, [], ◌∷◌, ◌++◌, Option, Some, None, Result, Ok, Err, refl, sym, ap, ◌∙◌, subst, inl, inr, arith, append-nil}
use Rattle.std.proofs.lemmas.Bool.{false≢true}
use Rattle.std.specs.Prelude.{OnOk, OnErr, is_some, ◌^◌}
use Rattle.mc_words.specs.declared.history.Reply.{Reply}
use Rattle.mc_words.specs.declared.shape.Shape.{Shape}
use Rattle.mc_theory.specs.Lists.{state_of}
use Rattle.mc_theory.specs.States.{State}
use Rattle.mc_theory.specs.Traces.{Trace}
use Rattle.mc_plan.specs.Clerks as clerks
use Rattle.mc_plan.specs.WholeCalls.{Answered, Call}
use Rattle.mc_plan.specs.Clerks.{Knows, next_act, acts_left}
use Rattle.mc_plan.specs.declared.answer.Answer.{Answer}
use Rattle.mc_plan.specs.declared.clerk.Clerk.{Clerk}
use Rattle.mc_replay.specs.declared.fault.Fault.{Fault}
use Rattle.mc_replay.specs.declared.fault.Fault.TheVariants.{ReadFailed, NoMemory, TooLong, NotACommand, BadNumber, NoSuchReader, StillRunning, NothingToStep, WriteFailed, BadShape}
use Rattle.mc_replay.specs.declared.player.Player.{Player}
use Rattle.mc_replay.specs.Replay.{Replay, Pending, IsUnanswered, WriterMakes, WhereIdle, CallDoes, BeginDoes, GetDoes, ActDoes}
use Rattle.mc_replay.specs.Inside.Players.{shape_of_player, most_steps, HasRoom, IsIdle, IsMidCall, FitsCall, Fits, FitsStill, with_acts, Begins, MakesAct, CallIsWhole, Looks, DoneAs, CanDo, ActsSoFar}
use Rattle.mc_replay.specs.Replay.{pending}
use Rattle.mc_replay.specs.Texts.{answer_line}
use Rattle.mc_plan.proofs.Calls.CanEnd.{can_end}
use Rattle.mc_replay.proofs.WriterCalls.{acts_are_left, idle_more}
use Rattle.mc_replay.proofs.ReaderLines.{fits_more}

-- ---- whether a call runs
knows_no_act : (V : ℕ) (clerk : Clerk V) (s : State V) → Knows V clerk s → is_some (next_act clerk) ≡ false
unfolding next_act
knows_no_act V clerk s knows = ap (λ y. is_some (clerks.next_in y clerk.plan.items clerk.made)) knows.idle

-- the clerk has no act to make: no call runs
pub idle_of : (V : ℕ) (player : Player V) (most : ℕ) (running : Option (Pending V)) (w : Trace V) → FitsCall V player most running w → is_some (next_act player.clerk) ≡ false → (running ≡ None) × IsIdle V player most w
idle_of V player most None w fits none = (refl, fits)
idle_of V player most (Some p) w fits none = absurd (false≢true (sym none ∙ fits.1))

-- the clerk has one: a call runs
pub runs_of : (V : ℕ) (player : Player V) (most : ℕ) (running : Option (Pending V)) (w : Trace V) → FitsCall V player most running w → is_some (next_act player.clerk) ≡ true → (p : Pending V) × (running ≡ Some p) × IsMidCall V player most p w
runs_of V player most None w fits some = absurd (false≢true (sym (knows_no_act V player.clerk _ fits.knows) ∙ some))
runs_of V player most (Some p) w fits some = (p, refl, fits)

-- no call runs, and there is room for the events of one
pub idle_can : (V : ℕ) (player : Player V) (text : List ℕ) → CanDo V player text → is_some (next_act player.clerk) ≡ false → (most : ℕ) × (w : Trace V) × IsIdle V player most w × HasRoom most
idle_can V player text can none =
    let idle = idle_of V player can.1.0 can.1.1.running can.1.1.world can.1.3 none in
    (can.1.0, can.1.1.world, idle.1, can.1.2)

-- a line that is refused while a call runs
pub still_running : (V : ℕ) (player : Player V) (most : ℕ) (s : Replay V) (text : List ℕ) (P : Type 0) → Fits V player most s → is_some (next_act player.clerk) ≡ true → text ≡ [] → WhereIdle s text (Some StillRunning) s P
still_running V player most s text P fits some none =
    let runs = runs_of V player most s.running s.world fits some in
    inr (ap is_some runs.1, refl, none, refl)

-- ---- a line that was written, or not
pub told_as : {V : ℕ} (P : List ℕ → Option Fault → Replay V → Type 0) (text : List ℕ) (t : Replay V) (r : Result (Unit {0}) Fault) (is : Type 0) (F : Type 0) → OnErr r (r ≡ Err NoMemory) → OnOk r is → (is → P text None t × F) → DoneAs P text t r × OnOk r F
told_as P text t (Ok u) is F err ok then = then ok
told_as P text t (Err NoMemory) is F err ok then = (tt, tt)
told_as P text t (Err ReadFailed) is F err ok then = absurd (cc (err))
told_as P text t (Err TooLong) is F err ok then = absurd (cc (err))
told_as P text t (Err NotACommand) is F err ok then = absurd (cc (err))
told_as P text t (Err BadNumber) is F err ok then = absurd (cc (err))
told_as P text t (Err NoSuchReader) is F err ok then = absurd (cc (err))
told_as P text t (Err StillRunning) is F err ok then = absurd (cc (err))
told_as P text t (Err NothingToStep) is F err ok then = absurd (cc (err))
told_as P text t (Err WriteFailed) is F err ok then = absurd (cc (err))
told_as P text t (Err BadShape) is F err ok then = absurd (cc (err))

-- ---- whole calls
pub idle_in : {V : ℕ} → Trace V → Replay V
idle_in w = record { world = w; running = None }

-- a call on an idle player is made as a whole and answered
pub call_done : (V : ℕ) (old new : Player V) (most : ℕ) (call : Call) (s : Replay V) (a : Answer) (text : List ℕ) → s.running ≡ None → (whole : CallIsWhole V old new most call s.world a) → text ≡ answer_line a
    → CallDoes (shape_of_player old) s call text None (idle_in whole.after) × FitsStill V old new (most + most_steps) (idle_in whole.after)
unfolding idle_in
call_done V old new most call s a text none whole is =
    (inl (none, refl, (a, whole.acts, record { makes = whole.makes; answered = whole.answered; idle = refl }, is)), (whole.shape, whole.idle))

-- a lookup of an idle player is made as a whole and answered
pub get_done : (V : ℕ) (old new : Player V) (most k : ℕ) (s : Replay V) (reply : Reply V) (line_of : Reply V → List ℕ) (text : List ℕ) → s.running ≡ None → (looks : Looks V old new most k s.world reply) → text ≡ line_of reply
    → GetDoes (shape_of_player old) s k line_of text None (idle_in looks.after) × FitsStill V old new (most + most_steps) (idle_in looks.after)
unfolding idle_in
get_done V old new most k s reply line_of text none looks is =
    (inl (none, refl, (reply, looks.acts, looks.looks, looks.makes, refl, is)), (looks.shape, looks.idle))

-- a call with acts to make comes to an answer
unanswered : (V : ℕ) (player : Player V) (most : ℕ) (p : Pending V) (w : Trace V) (sh : Shape) → IsMidCall V player most p w → shape_of_player player ≡ sh → IsUnanswered V sh p
unanswered V player most p w sh runs same =
    let ends = can_end V player.clerk p.call p.from p.acts runs.0.on in
    record {
      more = ends.0;
      told = ends.1;
      some = ends.3 runs.1;
      answered = subst (λ (y : Shape). Answered V y p.call p.from (p.acts ++ ends.0) ends.1) (runs.0.at.shape ∙ same) ends.2;
    }

-- ---- calls that begin
makes_none_to : (V : ℕ) (sh : Shape) (w : Trace V) → WriterMakes V sh w [] w
makes_none_to V sh w = (refl, sym (append-nil w.acts))

-- a call that is answered at its beginning
pub begin_answered : (V : ℕ) (old new : Player V) (most : ℕ) (call : Call) (s : Replay V) (a : Answer) (text : List ℕ) → s.running ≡ None → Begins V old new most call s.world (Some a) → text ≡ answer_line a
    → BeginDoes (shape_of_player old) s call text None (idle_in s.world) × FitsStill V old new (most + most_steps) (idle_in s.world)
unfolding idle_in
begin_answered V old new most call s a text none begins is = (
  inl (none, refl, inl (a, record { makes = makes_none_to V (shape_of_player old) s.world; answered = begins.1.0; idle = refl }, is)),
  (begins.0, idle_more V new most (most + most_steps) s.world (omega arith) begins.1.1),
)

-- a call that runs now
pub running_in : {V : ℕ} → Shape → Replay V → Call → Replay V
running_in {V} sh s call = record { world = s.world; running = Some (pending call (state_of V sh s.world.acts)) }

-- a call that is begun runs then, and writes nothing
pub begin_begun : (V : ℕ) (old new : Player V) (most : ℕ) (call : Call) (s : Replay V) (text : List ℕ) → s.running ≡ None → Begins V old new most call s.world None → text ≡ []
    → BeginDoes (shape_of_player old) s call text None (running_in (shape_of_player old) s call) × FitsStill V old new (most + most_steps) (running_in (shape_of_player old) s call)
unfolding running_in
begin_begun V old new most call s text none begins is =
    (inl (none, refl, inr (is, refl, unanswered V new most (pending call (state_of V (shape_of_player old) s.world.acts)) s.world (shape_of_player old) begins.1 begins.0)), (begins.0, fits_more V new most (most + most_steps) (Some (pending call (state_of V (shape_of_player old) s.world.acts))) s.world (omega arith) begins.1))

-- ---- one act of a call after the other
-- the call that runs, if the clerk has an act to make
pub runs_in : (V : ℕ) (player : Player V) (most n : ℕ) (m : Replay V) (p : Pending V) → HasRoom most → ActsSoFar V player most n m → m.running ≡ Some p → IsMidCall V player (most + n) p m.world × (most + n + acts_left player.clerk < 2 ^ 64 - 1)
runs_in V player most n m p room so_far runs =
    let few = so_far.few (ap is_some runs) in
    (subst (λ (r : Option (Pending V)). FitsCall V player (most + n) r m.world) runs so_far.fits, omega (arith, few, room))

-- an act after which the call continues
pub act_goes_on : (V : ℕ) (old new : Player V) (most n : ℕ) (m : Replay V) (p : Pending V) (before : List ℕ) → ActsSoFar V old most n m → m.running ≡ Some p → (act : MakesAct V old new (most + n) p m.world None)
    → (t : Replay V) × (own : List ℕ) × ActDoes (shape_of_player old) m p own t × (before ≡ before ++ own) × ActsSoFar V new most (n + 1) t × (shape_of_player new ≡ shape_of_player old)
act_goes_on V old new most n m p before so_far runs act =
    let few = so_far.few (ap is_some runs) in
    let less = act.goes_on.1 in
    let count : most + n + 1 ≡ most + (n + 1) = omega arith in (
      record { world = act.after; running = Some (with_acts p (act.made ∷ [])) },
      [],
      (act.made, act.makes, inl (refl, refl, unanswered V new (most + n + 1) (with_acts p (act.made ∷ [])) act.after (shape_of_player old) act.goes_on.0 act.shape)),
      sym (append-nil before),
      record {
        fits = subst (λ (k : ℕ). IsMidCall V new k (with_acts p (act.made ∷ [])) act.after) count act.goes_on.0;
        few = λ some. omega (arith, few, less);
        past = omega (arith, few, less);
      },
      act.shape,
    )

-- the last act of a call
pub act_ends : (V : ℕ) (old new : Player V) (most n : ℕ) (m : Replay V) (p : Pending V) (a : Answer) (before after : List ℕ) → HasRoom most → ActsSoFar V old most n m → m.running ≡ Some p → (act : MakesAct V old new (most + n) p m.world (Some a)) → after ≡ before ++ answer_line a
    → (t : Replay V) × (own : List ℕ) × ActDoes (shape_of_player old) m p own t × (after ≡ before ++ own) × ActsSoFar V new most (n + 1) t × (shape_of_player new ≡ shape_of_player old)
act_ends V old new most n m p a before after room so_far runs act is =
    let few = so_far.few (ap is_some runs) in
    let call = runs_in V old most n m p room so_far runs in
    let some = acts_are_left V old.clerk call.0.1 in
    let count : most + n + 1 ≡ most + (n + 1) = omega arith in (
      record { world = act.after; running = None },
      answer_line a,
      (act.made, act.makes, inr (a, act.goes_on.0, refl, refl)),
      is,
      record {
        fits = subst (λ (k : ℕ). IsIdle V new k act.after) count act.goes_on.1;
        few = λ none. absurd (false≢true none);
        past = omega (arith, few, some);
      },
      act.shape,
    )

-- what holds if a result is fine, from what follows
pub on_ok : {E : Type 0} (r : Result (Unit {0}) E) (A B : Type 0) → OnOk r A → (A → B) → OnOk r B
on_ok (Ok u) A B ok then = then ok
on_ok (Err e) A B ok then = tt
