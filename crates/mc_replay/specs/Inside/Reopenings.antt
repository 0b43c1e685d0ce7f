-- What the parts of a line `reopen` hand on.
use Rattle.std.specs.Prelude.{ℕ, ◌≡◌, ◌+◌, ◌*◌, ◌≤◌, List, [], Option, Some, None, Result, length, OnOk}
use Rattle.mc_words.specs.declared.history.Change.{Change}
use Rattle.mc_words.specs.declared.shape.Shape.{Shape}
use Rattle.mc_search.specs.Entries.{AreEntriesOf, AreInOrder}
use Rattle.mc_theory.specs.States.{State}
use Rattle.mc_theory.specs.Lists.{Made, state_of}
use Rattle.mc_theory.specs.Traces.{Trace}
use Rattle.mc_plan.specs.Loads.{Loads}
use Rattle.mc_plan.specs.declared.answer.Why.{Why}
use Rattle.mc_script.specs.declared.command.Command.{Command}
use Rattle.mc_script.specs.declared.command.Command.TheVariants as command
use Rattle.mc_replay.specs.declared.fault.Fault.{Fault}
use Rattle.mc_replay.specs.declared.player.Player.{Player}
use Rattle.mc_replay.specs.Replay.{Scene, CommandDoes, WriterMakes, Reopens}
use Rattle.mc_replay.specs.Inside.Players.{DoneAs, FitsScene, HasRoom, IsIdle, most_loading, most_steps, shape_of_player}

-- the buckets and items of a line that opens another world
abbrev pub sizes_of : {V : ℕ} → Command V → Option (ℕ × ℕ)
sizes_of (command.Reopen b c) = Some (b, c)
sizes_of c = None

-- the entries of a table, in the order of their items
pub record HasEntries (V : ℕ) (sh : Shape) (s : State V) (entries : List (ℕ × List ℕ)) : Type 0 where
  pub held : AreEntriesOf V s.history entries
  pub listed : AreInOrder V sh s.words 0 sh.items entries

-- some entries were put into a world
pub record HasLoaded (V : ℕ) (old new : Player V) (w : Trace V) (entries : List (ℕ × List ℕ)) (left : List (ℕ × Why)) : Type 0 where
  pub acts : List Made
  pub changes : List (Change V)
  pub after : Trace V
  pub loads : Loads V (shape_of_player old) (state_of V (shape_of_player old) w.acts) 0 entries acts changes left
  pub makes : WriterMakes V (shape_of_player old) w acts after
  pub shape : shape_of_player new ≡ shape_of_player old
  pub idle : IsIdle V new (length entries * most_steps) after

-- the entries of a world were put into another one
abbrev pub MovesTo : (V : ℕ) → Player V → Player V → ℕ → ℕ → List ℕ → Type 0
MovesTo V old new b c text =
    (most : ℕ) (s : Scene V) → (s.now.running ≡ None) → FitsScene V old most s → (t : Scene V) × Reopens V s b c text t × FitsScene V new most_loading t

-- whatever scene the player was, the line leads on from it
abbrev pub ReopensBy : (V : ℕ) → Player V → Player V → List ℕ → Result (Unit {0}) Fault → ℕ → ℕ → Type 0
ReopensBy V old new text result b c =
    (most : ℕ) (s : Scene V) → FitsScene V old most s → (t : Scene V) × DoneAs (CommandDoes s (command.Reopen b c)) text t result × OnOk result (FitsScene V new most_loading t)

-- a command leads on from whatever scene the player was
abbrev pub CommandDoneBy : (V : ℕ) → Player V → Player V → List ℕ → Result (Unit {0}) Fault → Command V → Type 0
CommandDoneBy V old new text result c =
    (most : ℕ) (s : Scene V) → HasRoom most → most_loading ≤ most → FitsScene V old most s → (t : Scene V) × DoneAs (CommandDoes s c) text t result × OnOk result (FitsScene V new (most + most_steps) t)

-- the player plays a scene, and nothing was written yet
abbrev pub CanReopen : (V : ℕ) → Player V → List ℕ → Type 0
CanReopen V player text = (text ≡ []) × ((most : ℕ) × (s : Scene V) × FitsScene V player most s)
