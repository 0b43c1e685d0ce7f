-- The events of readers, in the world and for a player.
use Rattle.mc_theory.specs.declared.event.Unlawful.{Unlawful}
use Rattle.std.proofs.Common.{◌≡◌, ℕ, zero, suc, ◌+◌, ◌<◌, ◌≤◌, List, [], ◌∷◌, ◌++◌, All, Option, Some, None, refl, sym, ap, ◌∙◌, subst, inl, inr, arith, length}
use Rattle.std.specs.Prelude.{◌^◌, IsSome, slice_get}
use prog.Memory.{up}
use Rattle.std.proofs.lemmas.List.{length-set}
use Rattle.std.proofs.lemmas.List.Elements.{All-drop, All-head}
use Rattle.std.proofs.Math.Seq.{drop-append_seam}
use Rattle.mc_words.specs.Places.{IsWidth}
use Rattle.mc_words.specs.Shapes.{IsShape}
use Rattle.mc_words.specs.declared.shape.Shape.{Shape}
use Rattle.mc_core.proofs.PairedLists.{set_there}
use Rattle.mc_core.proofs.WorldSteps.{reached_push}
use Rattle.mc_theory.specs.Lists.{after_all, state_of}
use Rattle.mc_core.specs.Seen.{WorldView, Shows, Both, IsOpenLookup}
use Rattle.mc_theory.specs.Traces.{Trace, OpenLookup, Ended, IsReached, IsTrueEnd, StepsByClock, EventGives, RefusesEvent}
use Rattle.mc_theory.specs.declared.event.Done.{Done}
use Rattle.mc_theory.specs.declared.event.Event.TheVariants as event
use Rattle.mc_theory.specs.declared.event.Stepped.{Stepped}
use Rattle.mc_theory.specs.declared.event.Stepped.TheVariants as stepped
use Rattle.mc_theory.specs.declared.event.Unlawful.TheVariants as unlawful
use Rattle.mc_plan.specs.Clerks as clerks
use Rattle.mc_plan.specs.Clerks.{Knows, IsOn, next_act, acts_left}
use Rattle.mc_plan.proofs.Calls.MidCall.{on_width}
use Rattle.mc_plan.specs.declared.clerk.Clerk.{Clerk}
use Rattle.mc_replay.specs.declared.fault.Fault.TheVariants.{StillRunning}
use Rattle.mc_replay.specs.declared.player.Player.{Player}
use Rattle.mc_replay.specs.Replay.{Replay, Pending, AccessDoes, LookUpDoes}
use Rattle.mc_replay.specs.Inside.Players.{shape_of_player, most_steps, IsAt, FitsCall, Fits, CanDo, ReadsSoFar, HasRoom}
use Rattle.mc_replay.specs.Texts.{done_line}
use Rattle.mc_replay.specs.Inside.Texts.{end_text}
use Rattle.mc_replay.proofs.FewAccesses.{made_more}

-- ---- what an event of a reader leaves as it was
pub record KeepsWriter (V : ℕ) (w x : Trace V) : Type 0 where
  pub acts : x.acts ≡ w.acts
  pub readers : length x.readers ≡ length w.readers
  pub events : x.events ≡ w.events + 1

-- beginning a lookup leaves the writer
begin_keeps : (V : ℕ) (sh : Shape) (w x : Trace V) (r k : ℕ) → StepsByClock V sh w (event.Begin r k) x → KeepsWriter V w x
begin_keeps V sh w x r k steps = record {
  acts = ap (λ (y : Trace V). y.acts) steps.3;
  readers = ap (λ (y : Trace V). length y.readers) steps.3 ∙ length-set w.readers r _;
  events = ap (λ (y : Trace V). y.events) steps.3;
}

-- and so does a reading
read_keeps : (V : ℕ) (sh : Shape) (w x : Trace V) (r : ℕ) → StepsByClock V sh w (event.Read r) x → KeepsWriter V w x
read_keeps V sh w x r steps = elim steps.5 [
  | inl ends ↦ record {
    acts = ap (λ (y : Trace V). y.acts) ends.2;
    readers = ap (λ (y : Trace V). length y.readers) ends.2 ∙ length-set w.readers r _;
    events = ap (λ (y : Trace V). y.events) ends.2;
  }
  | inr on ↦ record {
    acts = ap (λ (y : Trace V). y.acts) on.1;
    readers = ap (λ (y : Trace V). length y.readers) on.1 ∙ length-set w.readers r _;
    events = ap (λ (y : Trace V). y.events) on.1;
  }
]

-- what of a player no reader changes
pub record SameWriter (V : ℕ) (old new : Player V) : Type 0 where
  pub shape : shape_of_player new ≡ shape_of_player old
  pub clerk : new.clerk ≡ old.clerk

-- a player that fits its call is at its trace
pub at_of : (V : ℕ) (player : Player V) (most : ℕ) (running : Option (Pending V)) (w : Trace V) → FitsCall V player most running w → IsAt V player most w
at_of V player most None w fits = fits.at
at_of V player most (Some p) w fits = fits.0.at

-- a world has as many readers as the trace that it shows
pub readers_of : (V : ℕ) (world : WorldView V) (w : Trace V) → Shows {V = V} world w → length w.readers ≡ length world.readers
readers_of V world w shows = both_length (Both (IsOpenLookup V world.shape)) world.readers w.readers shows.readers
  where
    both_length : {A B : Type 0} (R : A → B → Type 0) (xs : List A) (ys : List B) → ((r : ℕ) → Both R (slice_get xs r) (slice_get ys r)) → length ys ≡ length xs
    both_length R [] [] all = refl
    both_length R (x ∷ xs) (y ∷ ys) all = ap suc (both_length R xs ys (λ r. all (suc r)))
    both_length R [] (y ∷ ys) all = absurd (all zero)
    both_length R (x ∷ xs) [] all = absurd (all zero)

-- a player is at the next trace when its writer stays
at_after : (V : ℕ) (old new : Player V) (most more : ℕ) (w x : Trace V) → IsAt V old most w → SameWriter V old new → Shows {V = V} new.world x → IsReached V (shape_of_player old) x → KeepsWriter V w x → most + 1 ≤ more → IsAt V new more x
at_after V old new most more w x at same shows reached keeps le = record {
  world = shows;
  reached = subst (λ (y : Shape). IsReached V y x) (sym same.shape) reached;
  shape = ap (λ (y : Clerk V). clerks.shape_of_clerk y) same.clerk ∙ at.shape ∙ sym same.shape;
  readers = readers_of V new.world x shows;
  events = omega (arith, keeps.events, at.events, le);
}

-- the same acts leave the same state
same_state : (V : ℕ) (old new : Player V) (w x : Trace V) → SameWriter V old new → KeepsWriter V w x → state_of V (shape_of_player old) w.acts ≡ state_of V (shape_of_player new) x.acts
same_state V old new w x same keeps = ap (λ (y : Shape). state_of V y w.acts) (sym same.shape) ∙ ap (state_of V (shape_of_player new)) (sym keeps.acts)

-- the player fits after an event of a reader
pub fits_after : (V : ℕ) (old new : Player V) (most more : ℕ) (running : Option (Pending V)) (w x : Trace V) → FitsCall V old most running w → SameWriter V old new → Shows {V = V} new.world x → IsReached V (shape_of_player old) x → KeepsWriter V w x → most + 1 ≤ more → FitsCall V new more running x
fits_after V old new most more None w x fits same shows reached keeps le = record {
  at = at_after V old new most more w x fits.at same shows reached keeps le;
  knows = subst (λ (c : Clerk V). Knows V c (state_of V (shape_of_player new) x.acts)) (sym same.clerk) (subst (Knows V old.clerk) (same_state V old new w x same keeps) fits.knows);
}
fits_after V old new most more (Some p) w x fits same shows reached keeps le = (
  record {
    at = at_after V old new most more w x fits.0.at same shows reached keeps le;
    on = subst (λ (c : Clerk V). IsOn V c p.call p.from p.acts) (sym same.clerk) fits.0.on;
    now = ap (λ (y : Shape). after_all y p.from p.acts) same.shape ∙ fits.0.now ∙ same_state V old new w x same keeps;
    few = subst (λ (c : Clerk V). acts_left c ≤ most_steps) (sym same.clerk) fits.0.few;
  },
  subst (λ (c : Clerk V). IsSome (next_act c)) (sym same.clerk) fits.1,
)

-- with more events allowed it fits too
pub fits_more : (V : ℕ) (player : Player V) (most more : ℕ) (running : Option (Pending V)) (w : Trace V) → most ≤ more → FitsCall V player most running w → FitsCall V player more running w
fits_more V player most more running w le fits = go running fits
  where
    wider : IsAt V player most w → IsAt V player more w
    wider at = record { world = at.world; reached = at.reached; shape = at.shape; readers = at.readers; events = omega (arith, at.events, le) }

    go : (running : Option (Pending V)) → FitsCall V player most running w → FitsCall V player more running w
    go None fits = record { at = wider fits.at; knows = fits.knows }
    go (Some p) fits = (record { at = wider fits.0.at; on = fits.0.on; now = fits.0.now; few = fits.0.few }, fits.1)

-- ---- a lookup begins
pub look_up_begins : (V : ℕ) (old new : Player V) (most r k : ℕ) (s : Replay V) (x : Trace V) → Fits V old most s → r < length old.world.readers → SameWriter V old new → Shows {V = V} new.world x → StepsByClock V (shape_of_player old) s.world (event.Begin r k) x
    → (t : Replay V) × LookUpDoes (shape_of_player old) s r k [] None t × Fits V new (most + most_steps) t
look_up_begins V old new most r k s x fits there same shows steps =
    let at = at_of V old most s.running s.world fits in (
      record { world = x; running = s.running },
      inl (omega (arith, there, at.readers), (refl, inl (refl, steps, refl))),
      fits_after V old new most (most + most_steps) s.running s.world x fits same shows (reached_push V (shape_of_player old) s.world x (event.Begin r k) at.reached steps) (begin_keeps V (shape_of_player old) s.world x r k steps) (omega arith),
    )

-- a reader whose lookup still runs begins no other
pub look_up_runs : (V : ℕ) (old : Player V) (most r k : ℕ) (s : Replay V) → Fits V old most s → r < length old.world.readers → RefusesEvent (shape_of_player old) s.world (event.Begin r k) unlawful.StillRunning → LookUpDoes (shape_of_player old) s r k [] (Some StillRunning) s
look_up_runs V old most r k s fits there refused =
    let at = at_of V old most s.running s.world fits in
    inl (omega (arith, there, at.readers), (refl, inr (refl, refused, refl)))

-- a reader that the player has not is none of the trace's
pub no_reader : (V : ℕ) (old : Player V) (most r : ℕ) (s : Replay V) → Fits V old most s → length old.world.readers ≤ r → length s.world.readers ≤ r
no_reader V old most r s fits past =
    let at = at_of V old most s.running s.world fits in omega (arith, past, at.readers)

-- ---- an access
-- it leaves as many readers as there were
pub readers_after : (V : ℕ) (sh : Shape) (old new : WorldView V) (w x : Trace V) (r : ℕ) → Shows {V = V} old w → Shows {V = V} new x → StepsByClock V sh w (event.Read r) x → length new.readers ≡ length old.readers
readers_after V sh old new w x r before after steps = sym (readers_of V new x after) ∙ (read_keeps V sh w x r steps).readers ∙ readers_of V old w before

-- the world after an access, in the replay
pub after_access : {V : ℕ} → Replay V → Trace V → Replay V
after_access s x = record { world = x; running = s.running }

-- a reader without a lookup has none
ended_none : (run other : OpenLookup) → Some None ≡ Some (Some run) → ⊥
ended_none run other e = absurd (cc (e))

-- an access that gave a word ended no lookup
told_nothing : (V : ℕ) (sh : Shape) (w x : Trace V) (r n : ℕ) → StepsByClock V sh w (event.Read r) x → EventGives {V = V} w (event.Read r) x (stepped.Word n) → x.ended ≡ w.ended
told_nothing V sh w x r n steps gives = elim steps.5 [
  | inl ends ↦ absurd (ended_none gives.0 gives.0 (sym (ap (λ (y : Trace V). slice_get y.readers r) ends.2 ∙ set_there w.readers r None (Some steps.0) steps.2) ∙ gives.3))
  | inr on ↦ ap (λ (y : Trace V). y.ended) on.1
]

-- the lookup that ended last is among those that have ended
last_ended : (V : ℕ) (sh : Shape) (w x : Trace V) (e : Ended V) → x.ended ≡ w.ended ++ e ∷ [] → All (IsTrueEnd V sh x) x.ended → IsTrueEnd V sh x e
last_ended V sh w x e is true = All-head (IsTrueEnd V sh x) e [] (subst (All (IsTrueEnd V sh x)) (drop-append_seam w.ended (e ∷ [])) (All-drop (IsTrueEnd V sh x) (length w.ended) (w.ended ++ e ∷ []) (subst (All (IsTrueEnd V sh x)) is true)))

-- one access more
pub access_done : (V : ℕ) (sh : Shape) (s : Replay V) (x : Trace V) (r : ℕ) (given : Stepped V) → StepsByClock V sh s.world (event.Read r) x → EventGives {V = V} s.world (event.Read r) x given → All (IsTrueEnd V sh x) x.ended → AccessDoes V sh s r (end_text given) (after_access s x)
unfolding after_access
access_done V sh s x r (stepped.Word n) steps gives true = record { steps = steps; told = inl (told_nothing V sh s.world x r n steps gives, refl); writer = refl }
access_done V sh s x r (stepped.Done done) steps gives true =
    record { steps = steps; told = inr (gives.0, gives.1, last_ended V sh s.world x gives.0 gives.1 true, ap (λ (d : Done V). done_line d) (sym gives.2)); writer = refl }
access_done V sh s x r stepped.Nothing steps gives true = absurd gives

-- accesses so far, and one more
pub reads_more : (V : ℕ) (old new : Player V) (most r n : ℕ) (m : Replay V) (x : Trace V) → IsShape (shape_of_player old) → IsWidth V → ReadsSoFar V old most r n m → SameWriter V old new → Shows {V = V} new.world x → StepsByClock V (shape_of_player old) m.world (event.Read r) x
    → ReadsSoFar V new most r (n + 1) (after_access m x)
unfolding after_access
reads_more V old new most r n m x sound width so_far same shows steps =
    let more = made_more V (shape_of_player old) m.world x r n sound width steps so_far.made in
    let at = at_of V old (most + n) m.running m.world so_far.fits in
    record {
      fits = fits_after V old new (most + n) (most + (n + 1)) m.running m.world x so_far.fits same shows (reached_push V (shape_of_player old) m.world x (event.Read r) at.reached steps) (read_keeps V (shape_of_player old) m.world x r steps) (omega arith);
      made = more.0;
      few = omega (arith, more.1);
    }

-- ---- what every player has
pub sound_of : (V : ℕ) (player : Player V) (most : ℕ) (w : Trace V) → IsAt V player most w → IsShape (shape_of_player player)
sound_of V player most w at = subst IsShape at.shape player.clerk.books.checked.sound

-- a player that fits its call has a width
pub width_of : (V : ℕ) (player : Player V) (most : ℕ) (running : Option (Pending V)) (w : Trace V) → FitsCall V player most running w → IsWidth V
width_of V player most None w fits = fits.knows.books.width
width_of V player most (Some p) w fits = on_width V player.clerk p.call p.from p.acts fits.0.on

-- and so has one that can do something
pub width_can : (V : ℕ) (player : Player V) (text : List ℕ) → CanDo V player text → IsWidth V
width_can V player text can = width_of V player can.1.0 can.1.1.running can.1.1.world can.1.3

-- a player has room in memory where its world and its clerk have: they are side by side
pub player_room : (world clerk : ℕ) → world < 2 ^ 32 → clerk < 2 ^ 32 → up 8 (up 8 (0 + world) + clerk) < 2 ^ 63
player_room world clerk some few = omega arith

-- ---- an event of a reader that is there is refused for one reason alone
pub begin_refused : (V : ℕ) (old : Player V) (most r k : ℕ) (s : Replay V) (why : Unlawful) → HasRoom most → Fits V old most s → r < length old.world.readers → RefusesEvent (shape_of_player old) s.world (event.Begin r k) why → why ≡ unlawful.StillRunning
begin_refused V old most r k s unlawful.NotLawful room fits there refused = absurd refused
begin_refused V old most r k s unlawful.NoReader room fits there refused = absurd (let at = at_of V old most s.running s.world fits in omega (arith, there, refused, at.readers))
begin_refused V old most r k s unlawful.StillRunning room fits there refused = refl
begin_refused V old most r k s unlawful.Limit room fits there refused = absurd (refused.1 (let at = at_of V old most s.running s.world fits in omega (arith, at.events, room)))
begin_refused V old most r k s unlawful.NoMemory room fits there refused = absurd refused

pub read_refused : (V : ℕ) (old : Player V) (most n r : ℕ) (s : Replay V) (why : Unlawful) → HasRoom most → n ≤ most_steps → FitsCall V old (most + n) s.running s.world → r < length old.world.readers → RefusesEvent (shape_of_player old) s.world (event.Read r) why → why ≡ unlawful.NotLawful
read_refused V old most n r s unlawful.NotLawful room few fits there refused = refl
read_refused V old most n r s unlawful.NoReader room few fits there refused = absurd (let at = at_of V old (most + n) s.running s.world fits in omega (arith, there, refused, at.readers))
read_refused V old most n r s unlawful.StillRunning room few fits there refused = absurd refused
read_refused V old most n r s unlawful.Limit room few fits there refused = absurd (refused.1 (let at = at_of V old (most + n) s.running s.world fits in omega (arith, at.events, few, room)))
read_refused V old most n r s unlawful.NoMemory room few fits there refused = absurd refused
