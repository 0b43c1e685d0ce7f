-- What the program `mcload` writes to its two streams, and its exit status.
use Rattle.std.specs.Prelude.{◌≡◌, ◌≢◌, ◌+◌, ◌==◌, ◌&&◌, ℕ, ◌⊎◌, ◌++◌, ◌∷◌, Bool, false, List, [], take, codes, if◌then◌else◌}
use Rattle.std.specs.Fmt.{decimal}
use Rattle.std.specs.Io.KnownBytes.{Appends}
use Rattle.clap.specs.declared.error.kind.ErrorKind.{ErrorKind}
use Rattle.clap.specs.declared.error.kind.ErrorKind.TheVariants as kind
use Rattle.mc_options.specs.LoadOptions.{GivesLoad, HasLoadFault, SaysNoLoad}
use Rattle.mc_options.specs.declared.load_options.LoadOptions.{LoadOptions}
use Rattle.mc_cache.specs.declared.opening.OpenError.TheVariants as opening
use Rattle.mc_load.specs.ShardLoads.{RefusesTurns, ReportsTurns}
use Rattle.mc_load.specs.Loads.{RefusesLoad, Reports}
use Rattle.mc_load.specs.declared.asked.Load.{Load}
use Rattle.mc_load.specs.declared.error.LoadError.{LoadError}
use Rattle.mc_load.specs.declared.error.LoadError.TheVariants as error
use Rattle.mc_load.specs.declared.report.Report.{Report}
use Rattle.mc_load.specs.declared.turns.DeskReport.{DeskReport}
use Rattle.mc_options.specs.Statuses.{failed, refused}
use Rattle.mc_options.specs.Streams.{IsShort, IsUntouched, Prints, Stream, Tells}
use Rattle.mc_options.specs.ShapeTexts.{shape_text}

-- the four lines of a report, without the last one's end
abbrev pub lines_text : (lookups writes : ℕ) → Bool → (wrong : ℕ) → List ℕ
lines_text lookups writes sum wrong =
    codes "lookups " ++ decimal lookups ++ codes "\nwrites " ++ decimal writes ++ codes "\nsum " ++ (if sum then codes "ok" else codes "bad") ++ codes "\nwrong " ++ decimal wrong

-- the sum is that of the answers
abbrev pub report_text : Report → List ℕ
report_text r = lines_text r.lookups r.writes (r.found + r.absent + r.busy == r.lookups) r.wrong

-- of the answers, and of the tries
abbrev pub turns_text : DeskReport → List ℕ
turns_text r = lines_text r.lookups r.calls ((r.found + r.absent + r.busy == r.lookups) && (r.held + r.answered == r.calls)) r.wrong

-- what is printed for a load that is refused
abbrev pub load_text : LoadError → List ℕ
load_text (error.Open (opening.Shape why)) = shape_text why
load_text (error.Open opening.Readers) = codes "readers must be from 1 to 1024"
load_text (error.Open opening.NoMemory) = codes "no memory"
load_text error.NoMemory = codes "no memory"
load_text error.Writers = codes "writers must be from 1 to 8"
load_text error.Shards = codes "shards must be a power of two from 1 to 256"
load_text error.Keys = codes "keys must be from 1 to 4294967296"
load_text (error.Gate who call) = codes "gate"

-- the exit status of a load that is refused
abbrev pub load_status : LoadError → ℕ
load_status (error.Open (opening.Shape why)) = refused
load_status (error.Open opening.Readers) = refused
load_status (error.Open opening.NoMemory) = failed
load_status error.NoMemory = failed
load_status error.Writers = refused
load_status error.Shards = refused
load_status error.Keys = refused
load_status (error.Gate who call) = failed

-- the load that the options ask for
abbrev pub load_of : LoadOptions → Load
load_of o = record { shape = o.shape; readers = o.readers; lookups = o.lookups; writes = o.writes; keys = o.keys; seed = o.seed }

-- the lines were written, and, if more is requested, bytes that no clause specifies; or, if a write failed, a beginning of all that
abbrev pub WritesLines : Bool → Stream → List ℕ → ℕ → Type 0
WritesLines asked output text status =
    (more : List ℕ) × (asked ≡ false → more ≡ []) × (((status ≡ 0) × Appends output.old output.new (text ++ 10 ∷ more)) ⊎ ((status ≡ failed) × ((n : ℕ) × Appends output.old output.new (take n (text ++ 10 ∷ more)))))

-- the load was made, with values of four words, and its report is written
abbrev pub WritesReport : LoadOptions → Stream → Stream → ℕ → Type 0
WritesReport o output errors status = (r : Report) × Reports 4 (load_of o) r × WritesLines o.histogram output (report_text r) status × IsUntouched errors

-- so was a load whose writers take turns
abbrev pub WritesTurns : LoadOptions → Stream → Stream → ℕ → Type 0
WritesTurns o output errors status = (r : DeskReport) × ReportsTurns 4 (load_of o) o.shards o.writers r × WritesLines o.histogram output (turns_text r) status × IsUntouched errors

-- one writer has one cache for itself
abbrev pub IsAlone : LoadOptions → Type 0
IsAlone o = (o.writers ≡ 1) × (o.shards ≡ 1)

-- why a load is refused, though not by its gate, which lets every call through
abbrev pub IsRefused : LoadOptions → LoadError → Type 0
IsRefused o why = (IsAlone o × RefusesLoad (λ who call. ⊥) (load_of o) why) ⊎ ((¬ IsAlone o) × RefusesTurns (λ who call. ⊥) (load_of o) o.shards o.writers why)

-- the refusal is reported
abbrev pub TellsRefusal : LoadOptions → Stream → Stream → ℕ → Type 0
TellsRefusal o output errors status =
    (why : LoadError) × IsRefused o why × IsUntouched output × Tells errors (codes "refused: " ++ load_text why) × (status ≡ load_status why)

-- a load with these options: a writer that isn't alone takes turns
abbrev pub RunsLoad : LoadOptions → Stream → Stream → ℕ → Type 0
RunsLoad o output errors status =
    (IsAlone o × WritesReport o output errors status) ⊎ ((¬ IsAlone o) × WritesTurns o output errors status) ⊎ TellsRefusal o output errors status

-- the words have a fault that is neither help nor version
abbrev pub IsLoadFaulty : List (List ℕ) → Type 0
IsLoadFaulty words = ((k : ErrorKind) × (k ≢ kind.DisplayHelp) × (k ≢ kind.DisplayVersion) × HasLoadFault words k) ⊎ SaysNoLoad words

-- what the words of the command line ask for, and what comes of it
pub data Loads (words : List (List ℕ)) (output errors : Stream) (status : ℕ) : Type 0 where
  loads : (o : LoadOptions) → GivesLoad words o → RunsLoad o output errors status → Loads words output errors status
  shows : HasLoadFault words kind.DisplayHelp ⊎ HasLoadFault words kind.DisplayVersion → Prints errors status → Loads words output errors status
  faulty : IsLoadFaulty words → IsUntouched output → status ≡ refused → Loads words output errors status
  out_of_memory : IsShort output errors status → Loads words output errors status
