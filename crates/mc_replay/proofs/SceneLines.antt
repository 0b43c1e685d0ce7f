-- Commands of a world, as scenes see them, and the one that leads to another world.
use Rattle.std.proofs.Common.{◌≡◌, ℕ, ◌+◌, ◌≤◌, List, Option, Some, None, Result, Ok, Err, OnOk, refl, ap, ◌∙◌, arith}
use Rattle.mc_replay.specs.declared.fault.Fault.{Fault}
use Rattle.mc_replay.specs.declared.fault.Fault.TheVariants.{ReadFailed, NoMemory, TooLong, NotACommand, BadNumber, NoSuchReader, StillRunning, NothingToStep, WriteFailed, BadShape}
use Rattle.mc_replay.specs.declared.player.Player.{Player}
use Rattle.mc_script.specs.declared.command.Command.{Command}
use Rattle.mc_script.specs.declared.command.Command.TheVariants.{Put, PutIf, Remove, Get, Stamp, BeginPut, BeginPutIf, BeginRemove, Write, BeginGet, Read, Reopen}
use Rattle.mc_replay.specs.Replay.{Replay, Scene, Does, CommandDoes}
use Rattle.mc_replay.specs.Inside.Players.{DoneAs, FitsScene, FitsStill, most_loading, most_steps, shape_of_player}
use Rattle.mc_replay.specs.Inside.Reopenings.{sizes_of}
use Rattle.mc_replay.proofs.ReaderLines.{fits_more}

-- the scene of the same shape
abbrev pub staying : {V : ℕ} → Scene V → Replay V → Scene V
staying s t = record { shape = s.shape; now = t }

-- a command that leads to no other world does what it does in its own
stays : {V : ℕ} (s : Scene V) (c : Command V) (text : List ℕ) (fault : Option Fault) (t : Replay V) → sizes_of c ≡ None → Does s.shape s.now c text fault t → CommandDoes s c text fault (staying s t)
stays s (Put k v) text fault t none does = (refl, does)
stays s (PutIf k since v) text fault t none does = (refl, does)
stays s (Remove k) text fault t none does = (refl, does)
stays s (Get k) text fault t none does = (refl, does)
stays s (Stamp k) text fault t none does = (refl, does)
stays s (BeginPut k v) text fault t none does = (refl, does)
stays s (BeginPutIf k since v) text fault t none does = (refl, does)
stays s (BeginRemove k) text fault t none does = (refl, does)
stays s (Write n) text fault t none does = (refl, does)
stays s (BeginGet r k) text fault t none does = (refl, does)
stays s (Read r n) text fault t none does = (refl, does)
stays s (Reopen b c) text fault t none does = absurd does

-- the same of a result
pub stays_done : {V : ℕ} (s : Scene V) (c : Command V) (text : List ℕ) (t : Replay V) (r : Result (Unit {0}) Fault) → sizes_of c ≡ None → DoneAs (Does s.shape s.now c) text t r → DoneAs (CommandDoes s c) text (staying s t) r
stays_done s c text t (Ok u) none does = stays s c text None t none does
stays_done s c text t (Err NoMemory) none does = tt
stays_done s c text t (Err ReadFailed) none does = does
stays_done s c text t (Err WriteFailed) none does = does
stays_done s c text t (Err TooLong) none does = stays s c text (Some TooLong) t none does
stays_done s c text t (Err NotACommand) none does = stays s c text (Some NotACommand) t none does
stays_done s c text t (Err BadNumber) none does = stays s c text (Some BadNumber) t none does
stays_done s c text t (Err NoSuchReader) none does = stays s c text (Some NoSuchReader) t none does
stays_done s c text t (Err StillRunning) none does = stays s c text (Some StillRunning) t none does
stays_done s c text t (Err NothingToStep) none does = stays s c text (Some NothingToStep) t none does
stays_done s c text t (Err BadShape) none does = stays s c text (Some BadShape) t none does

-- a command of the world leaves the shape
pub still_fits : (V : ℕ) (old new : Player V) (s : Scene V) (most : ℕ) (t : Replay V) (r : Result (Unit {0}) Fault) → shape_of_player old ≡ s.shape → OnOk r (FitsStill V old new most t) → OnOk r (FitsScene V new most (staying s t))
still_fits V old new s most t (Ok u) same fits = (fits.0 ∙ same, fits.1)
still_fits V old new s most t (Err fault) same fits = tt

-- the command of these sizes
abbrev of_sizes : {V : ℕ} → ℕ × ℕ → Command V
of_sizes sizes = Reopen sizes.0 sizes.1

-- the command that has sizes is this one
pub is_reopen : {V : ℕ} (c : Command V) (b n : ℕ) → sizes_of c ≡ Some (b, n) → c ≡ Reopen b n
is_reopen (Put k v) b n e = absurd (cc (e))
is_reopen (PutIf k since v) b n e = absurd (cc (e))
is_reopen (Remove k) b n e = absurd (cc (e))
is_reopen (Get k) b n e = absurd (cc (e))
is_reopen (Stamp k) b n e = absurd (cc (e))
is_reopen (BeginPut k v) b n e = absurd (cc (e))
is_reopen (BeginPutIf k since v) b n e = absurd (cc (e))
is_reopen (BeginRemove k) b n e = absurd (cc (e))
is_reopen (Write many) b n e = absurd (cc (e))
is_reopen (BeginGet r k) b n e = absurd (cc (e))
is_reopen (Read r many) b n e = absurd (cc (e))
is_reopen {V} (Reopen a m) b n e =
    let same : ◌≡◌ {A = ℕ × ℕ} (a, m) (b, n) = cc (e) in ap (λ (sizes : ℕ × ℕ). of_sizes {V = V} sizes) same

-- a new world has few events
pub fits_wider : (V : ℕ) (new : Player V) (most : ℕ) (t : Scene V) (r : Result (Unit {0}) Fault) → most_loading ≤ most → OnOk r (FitsScene V new most_loading t) → OnOk r (FitsScene V new (most + most_steps) t)
fits_wider V new most t (Ok u) le fits = (fits.0, fits_more V new most_loading (most + most_steps) t.now.running t.now.world (omega (arith, le)) fits.1)
fits_wider V new most t (Err fault) le fits = tt
