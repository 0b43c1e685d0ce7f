-- The lines of a replay, one after the other.
use Rattle.std.proofs.Common.{◌≡◌, Bool, ℕ, ◌+◌, ◌-◌, ◌^◌, ◌<◌, ◌≤◌, ◌∙◌, true, false, Result, List, [], ◌∷◌, ◌++◌, Option, Some, None, Ok, Err, OnOk, refl, sym, ap, subst, length, take, arith, inl, inr, take_all, append_assoc, append-nil, length-append}
use Rattle.std.specs.Prelude.{◌⊎◌, ◌↔◌, ◌≢◌}
use Rattle.std.proofs.lemmas.Bool.{false≢true}
use Rattle.std.proofs.KnownBytes.{Appends-trans, Appends-nil, Appends-kept, Keeps-refl}
use Rattle.std.specs.Io.BufRead.{first_line, drop_through}
use Rattle.std.specs.Io.KnownBytes.{Keeps, Appends}
use Rattle.mc_words.specs.declared.shape.Shape.{Shape}
use Rattle.mc_script.specs.declared.command.Command.{Command}
use Rattle.mc_script.specs.declared.command.LineFault.{LineFault}
use Rattle.mc_script.specs.declared.command.LineFault.TheVariants as said
use Rattle.mc_script.specs.Commands.{command_in}
use Rattle.mc_script.specs.Lines.{lines_of, after_lines, GivesLine}
use Rattle.mc_script.specs.declared.line.ReadFault.TheVariants as over
use Rattle.mc_script.proofs.Lines.{lines-step, lines-nil, after_lines-step, after_lines-zero}
use Rattle.mc_replay.specs.declared.fault.Fault.{Fault}
use Rattle.mc_replay.specs.declared.fault.Fault.TheVariants.{ReadFailed, NoMemory, TooLong, NotACommand, BadNumber, NoSuchReader, StillRunning, NothingToStep, WriteFailed, BadShape}
use Rattle.mc_replay.specs.Replay.{Scene, first_scene, CommandDoes}
use Rattle.mc_words.specs.Readers.{HasReaders, most_readers}
use Rattle.mc_replay.specs.Scripts.{SaidDoes, IsTooLong, LineDoes, Plays, Stopped, StopsUndone, StopsRefused, StopsBy, StopsBefore, ReadsStopped, ReadsScript, ReplaysKnown}
use Rattle.mc_replay.specs.Faults.{fault_of}
use Rattle.mc_replay.specs.Inside.Players.{DoneAs, HasRoom, IsRefusedAs, most_before, most_steps}
use Rattle.mc_replay.specs.Inside.Steps.{DoesLine, PlaysLine, PlaysKnown, SoFar, KnownSoFar, is_wanting}

-- ---- one line
not_long : (before : ℕ) (line : List ℕ) → length line ≤ 4096 → before < 2 ^ 40 → IsTooLong before line → ⊥
not_long before line short few long = elim long [ inl l ↦ absurd (omega arith) | inr l ↦ absurd (omega arith) ]

-- a line that says a command, which was done
pub line_done : (V : ℕ) (before : ℕ) (s t : Scene V) (line text : List ℕ) (c : Command V) (fault : Option Fault) → length line ≤ 4096 → before < 2 ^ 40 → command_in V line ≡ Ok (Some c)
    → CommandDoes s c text fault t → LineDoes V before s line text fault t
line_done V before s t line text c fault short few says does =
    inr (not_long before line short few, subst (λ r. SaidDoes s r text fault t) (sym says) does)

-- a line after this many others is one too many
pub line_too_many : (V : ℕ) (before : ℕ) (s : Scene V) (line text : List ℕ) → 2 ^ 40 ≤ before → text ≡ [] → LineDoes V before s line text (Some TooLong) s
line_too_many V before s line text many none = inl (inr many, refl, none, refl)

-- a line that says no command
pub line_faulty : (V : ℕ) (before : ℕ) (s : Scene V) (line text : List ℕ) (f : LineFault) → length line ≤ 4096 → before < 2 ^ 40 → command_in V line ≡ Err f → text ≡ [] → DoesLine V before s line text s (Err (fault_of f))
line_faulty V before s line text said.NotACommand short few says none =
    inr (not_long before line short few, subst (λ r. SaidDoes s r text (Some NotACommand) s) (sym says) (none, refl, refl))
line_faulty V before s line text said.BadNumber short few says none =
    inr (not_long before line short few, subst (λ r. SaidDoes s r text (Some BadNumber) s) (sym says) (none, refl, refl))

-- a line that says a command does what the command does
pub line_does : (V : ℕ) (before : ℕ) (s t : Scene V) (line text : List ℕ) (c : Command V) (r : Result (Unit {0}) Fault) → length line ≤ 4096 → before < 2 ^ 40 → command_in V line ≡ Ok (Some c)
    → DoneAs (CommandDoes s c) text t r → DoesLine V before s line text t r
line_does V before s t line text c (Ok u) short few says does = line_done V before s t line text c None short few says does
line_does V before s t line text c (Err NoMemory) short few says does = tt
line_does V before s t line text c (Err ReadFailed) short few says does = does
line_does V before s t line text c (Err WriteFailed) short few says does = does
line_does V before s t line text c (Err TooLong) short few says does = line_done V before s t line text c (Some TooLong) short few says does
line_does V before s t line text c (Err NotACommand) short few says does = line_done V before s t line text c (Some NotACommand) short few says does
line_does V before s t line text c (Err BadNumber) short few says does = line_done V before s t line text c (Some BadNumber) short few says does
line_does V before s t line text c (Err NoSuchReader) short few says does = line_done V before s t line text c (Some NoSuchReader) short few says does
line_does V before s t line text c (Err StillRunning) short few says does = line_done V before s t line text c (Some StillRunning) short few says does
line_does V before s t line text c (Err NothingToStep) short few says does = line_done V before s t line text c (Some NothingToStep) short few says does
line_does V before s t line text c (Err BadShape) short few says does = line_done V before s t line text c (Some BadShape) short few says does

-- a line that is skipped
pub line_skipped : (V : ℕ) (before : ℕ) (s : Scene V) (line text : List ℕ) → length line ≤ 4096 → before < 2 ^ 40 → command_in V line ≡ Ok None → text ≡ [] → LineDoes V before s line text None s
line_skipped V before s line text short few says none =
    inr (not_long before line short few, subst (λ r. SaidDoes s r text None s) (sym says) (none, refl, refl))

-- the events of one line more
pub one_line_more : (before : ℕ) → most_before before + most_steps ≡ most_before (before + 1)
one_line_more before = omega arith

-- a line that is refused, or not there, isn't played
pub refused_is_not_played : {A : Type 0} (fault : Fault) → ◌≡◌ {A = Result Bool Fault} (Err fault) (Ok true) → A
refused_is_not_played fault e = absurd (cc (e))

-- nor is the end of the script
pub none_is_not_played : {A : Type 0} → ◌≡◌ {A = Result Bool Fault} (Ok false) (Ok true) → A
none_is_not_played e = absurd (cc (e))

-- what holds in any case holds after success
pub always_ok : {E : Type 0} (r : Result (Unit {0}) E) (A : Type 0) → A → OnOk r A
always_ok (Ok u) A x = x
always_ok (Err e) A x = tt

-- after fewer than 2^40 lines there is room for one more call
pub has_room : (before : ℕ) → before < 2 ^ 40 → HasRoom (most_before before)
has_room before few = omega (arith, few)

-- the first line of the bytes, refused, with its answers written
refused_line : (V : ℕ) (before : ℕ) (s t : Scene V) (line text : List ℕ) (n : ℕ) (x : List ℕ) (b c d : Option (List ℕ)) (fault : Fault) → GivesLine (Some x) b line (Ok true)
    → LineDoes V before s line text (Some fault) t → Appends c d (take n text) → n ≡ length text → (out : List ℕ) × LineDoes V before s (first_line x) out (Some fault) t × Appends c d out
refused_line V before s t line text n x b c d fault gives does wrote all =
    (text, subst (λ (l : List ℕ). LineDoes V before s l text (Some fault) t) gives.1 does, subst (Appends c d) (take_all n text (omega (arith, all))) wrote)

-- a line that is refused, and what it had answered was written
pub stops_refused : (V : ℕ) (before : ℕ) (s t : Scene V) (line text : List ℕ) (n : ℕ) (a b c d : Option (List ℕ)) (fault : Fault) → GivesLine a b line (Ok true)
    → DoesLine V before s line text t (Err fault) → (fault ≡ NoMemory → ⊥) → Appends c d (take n text) → n ≡ length text → PlaysKnown V before s t a b c d (Err fault)
stops_refused V before s t line text n None b c d fault gives does other wrote all = tt
stops_refused V before s t line text n (Some x) b c d ReadFailed gives does other wrote all = absurd does
stops_refused V before s t line text n (Some x) b c d NoMemory gives does other wrote all = absurd (other refl)
stops_refused V before s t line text n (Some x) b c d WriteFailed gives does other wrote all = absurd does
stops_refused V before s t line text n (Some x) b c d TooLong gives does other wrote all = (inr (line, gives), refused_line V before s t line text n x b c d TooLong gives does wrote all)
stops_refused V before s t line text n (Some x) b c d NotACommand gives does other wrote all = ((line, gives), refused_line V before s t line text n x b c d NotACommand gives does wrote all)
stops_refused V before s t line text n (Some x) b c d BadNumber gives does other wrote all = ((line, gives), refused_line V before s t line text n x b c d BadNumber gives does wrote all)
stops_refused V before s t line text n (Some x) b c d NoSuchReader gives does other wrote all = ((line, gives), refused_line V before s t line text n x b c d NoSuchReader gives does wrote all)
stops_refused V before s t line text n (Some x) b c d StillRunning gives does other wrote all = ((line, gives), refused_line V before s t line text n x b c d StillRunning gives does wrote all)
stops_refused V before s t line text n (Some x) b c d NothingToStep gives does other wrote all = ((line, gives), refused_line V before s t line text n x b c d NothingToStep gives does wrote all)
stops_refused V before s t line text n (Some x) b c d BadShape gives does other wrote all = ((line, gives), refused_line V before s t line text n x b c d BadShape gives does wrote all)

-- a line whose answers were written
pub plays_whole : (V : ℕ) (before : ℕ) (s t : Scene V) (line text : List ℕ) (n : ℕ) (a b c d : Option (List ℕ)) → GivesLine a b line (Ok true)
    → LineDoes V before s line text None t → Appends c d (take n text) → n ≡ length text → PlaysKnown V before s t a b c d (Ok true)
plays_whole V before s t line text n None b c d gives does wrote all = tt
plays_whole V before s t line text n (Some x) b c d gives does wrote all =
    ((line, gives), (text, subst (λ (l : List ℕ). LineDoes V before s l text None t) gives.1 does, subst (Appends c d) (take_all n text (omega (arith, all))) wrote))

-- a line whose answers were not all written
pub plays_part : (V : ℕ) (before : ℕ) (s t : Scene V) (line text : List ℕ) (fault : Option Fault) (n : ℕ) (a b c d : Option (List ℕ)) → GivesLine a b line (Ok true)
    → LineDoes V before s line text fault t → Appends c d (take n text) → n < length text → PlaysKnown V before s t a b c d (Err WriteFailed)
plays_part V before s t line text fault n None b c d gives does wrote part = tt
plays_part V before s t line text fault n (Some x) b c d gives does wrote part =
    ((line, gives), (text, fault, n, subst (λ (l : List ℕ). LineDoes V before s l text fault t) gives.1 does, part, wrote))

-- no line is left
pub plays_none : (V : ℕ) (before : ℕ) (s : Scene V) (line : List ℕ) (a b c : Option (List ℕ)) → GivesLine a b line (Ok false) → PlaysKnown V before s s a b c c (Ok false)
plays_none V before s line None b c gives = tt
plays_none V before s line (Some x) b c gives = ((line, gives), Keeps-refl c)

-- the line could not be read
pub plays_unread : (V : ℕ) (before : ℕ) (s : Scene V) (line : List ℕ) (a b c : Option (List ℕ)) → GivesLine a b line (Err over.ReadFailed) → PlaysKnown V before s s a b c c (Err ReadFailed)
plays_unread V before s line None b c gives = tt
plays_unread V before s line (Some x) b c gives = ((line, gives), Keeps-refl c)

-- memory ran out at the line
pub plays_wanting : (V : ℕ) (before : ℕ) (s : Scene V) (line : List ℕ) (a b c : Option (List ℕ)) → GivesLine a b line (Ok true) → PlaysKnown V before s s a b c c (Err NoMemory)
plays_wanting V before s line None b c gives = tt
plays_wanting V before s line (Some x) b c gives = ((line, gives), Keeps-refl c)

-- a fault other than out of memory is not that one
pub not_wanting : (fault : Fault) → is_wanting (Err fault) ≡ false → fault ≡ NoMemory → ⊥
not_wanting fault other e = false≢true (sym other ∙ ap (λ (f : Fault). is_wanting (Err f)) e)

-- a line whose answers were not all written
pub plays_cut : (V : ℕ) (before : ℕ) (s t : Scene V) (line text : List ℕ) (n : ℕ) (a b c d : Option (List ℕ)) (done : Result (Unit {0}) Fault) → GivesLine a b line (Ok true)
    → DoesLine V before s line text t done → is_wanting done ≡ false → Appends c d (take n text) → n < length text → PlaysKnown V before s t a b c d (Err WriteFailed)
plays_cut V before s t line text n a b c d (Ok u) gives does other wrote part = plays_part V before s t line text None n a b c d gives does wrote part
plays_cut V before s t line text n a b c d (Err ReadFailed) gives does other wrote part = absurd does
plays_cut V before s t line text n a b c d (Err NoMemory) gives does other wrote part = absurd (false≢true (sym other))
plays_cut V before s t line text n a b c d (Err WriteFailed) gives does other wrote part = absurd does
plays_cut V before s t line text n a b c d (Err TooLong) gives does other wrote part = plays_part V before s t line text (Some TooLong) n a b c d gives does wrote part
plays_cut V before s t line text n a b c d (Err NotACommand) gives does other wrote part = plays_part V before s t line text (Some NotACommand) n a b c d gives does wrote part
plays_cut V before s t line text n a b c d (Err BadNumber) gives does other wrote part = plays_part V before s t line text (Some BadNumber) n a b c d gives does wrote part
plays_cut V before s t line text n a b c d (Err NoSuchReader) gives does other wrote part = plays_part V before s t line text (Some NoSuchReader) n a b c d gives does wrote part
plays_cut V before s t line text n a b c d (Err StillRunning) gives does other wrote part = plays_part V before s t line text (Some StillRunning) n a b c d gives does wrote part
plays_cut V before s t line text n a b c d (Err NothingToStep) gives does other wrote part = plays_part V before s t line text (Some NothingToStep) n a b c d gives does wrote part
plays_cut V before s t line text n a b c d (Err BadShape) gives does other wrote part = plays_part V before s t line text (Some BadShape) n a b c d gives does wrote part

-- a line that is too long to be read
pub plays_over : (V : ℕ) (before : ℕ) (s : Scene V) (line : List ℕ) (a b c : Option (List ℕ)) → GivesLine a b line (Err over.TooLong) → PlaysKnown V before s s a b c c (Err TooLong)
plays_over V before s line None b c gives = tt
plays_over V before s line (Some x) b c gives =
    (inl (line, gives), ([], inl (inl gives.1, refl, refl, refl), Appends-nil c))

-- ---- line after line
-- lines that were played, and one more
plays_push : (V : ℕ) (n : ℕ) (s m t : Scene V) (lines : List (List ℕ)) (line text own : List ℕ) → Plays V n s lines text m → LineDoes V (n + length lines) m line own None t
    → Plays V n s (lines ++ line ∷ []) (text ++ own) t
plays_push V n s m t [] line text own plays does =
    let here : n + 0 ≡ n = omega arith in
    let same : LineDoes V n s line own None t = subst (λ (x : Scene V). LineDoes V n x line own None t) plays.1 (subst (λ (k : ℕ). LineDoes V k m line own None t) here does) in
    (t, own, [], same, (refl, refl), ap (λ (x : List ℕ). x ++ own) plays.0 ∙ sym (append-nil own))
plays_push V n s m t (l ∷ lines) line text own plays does =
    let next : n + length (l ∷ lines) ≡ n + 1 + length lines = omega arith in
    let rest = plays_push V (n + 1) plays.0 m t lines line plays.2 own plays.4 (subst (λ (k : ℕ). LineDoes V k m line own None t) next does) in
    (plays.0, plays.1, plays.2 ++ own, plays.3, rest, ap (λ (x : List ℕ). x ++ own) plays.5 ∙ append_assoc plays.1 plays.2 own)

-- no line is played yet
pub known_none : (V : ℕ) (start : Scene V) (a old : Option (List ℕ)) → KnownSoFar V start a a old old 0 start
known_none V start None old = tt
known_none V start (Some x) old = (sym (after_lines-zero x), record { done = []; text = []; parts = refl; count = refl; played = (refl, refl); written = Appends-nil old })

-- one more line was played
pub known_more : (V : ℕ) (start : Scene V) (a b c old new newer : Option (List ℕ)) (before : ℕ) (s t : Scene V) → KnownSoFar V start a b old new before s
    → PlaysKnown V before s t b c new newer (Ok true) → KnownSoFar V start a c old newer (before + 1) t
known_more V start None b c old new newer before s t so_far plays = tt
known_more V start (Some x) None c old new newer before s t so_far plays = absurd so_far
known_more V start (Some x) (Some y) None old new newer before s t so_far plays = absurd (cc (plays.0.1.3))
known_more V start (Some x) (Some y) (Some z) old new newer before s t so_far plays =
    let rest : z ≡ drop_through 10 y = cc (plays.0.1.3) in
    let line = first_line y in
    let count : 0 + length so_far.1.done ≡ before = omega (arith, so_far.1.count) in (
      rest ∙ ap (drop_through 10) so_far.0 ∙ sym (after_lines-step before x),
      record {
        done = so_far.1.done ++ line ∷ [];
        text = so_far.1.text ++ plays.1.0;
        parts = rw rest (so_far.1.parts ∙ ap (λ (l : List (List ℕ)). so_far.1.done ++ l) (lines-step y plays.0.1.0) ∙ sym (append_assoc so_far.1.done (line ∷ []) (lines_of (drop_through 10 y))));
        count = length-append so_far.1.done (line ∷ []) ∙ omega (arith, so_far.1.count);
        played = plays_push V 0 start s t so_far.1.done line so_far.1.text plays.1.0 so_far.1.played (subst (λ (k : ℕ). LineDoes V k s line plays.1.0 None t) (sym count) plays.1.1);
        written = Appends-trans _ _ _ _ _ so_far.1.written plays.1.2;
      },
    )

-- the whole script was played
pub replays_all : (V : ℕ) (sh : Shape) (readers : ℕ) (a b c old new newer : Option (List ℕ)) (before : ℕ) (s t : Scene V) → HasReaders readers → KnownSoFar V (first_scene V sh readers) a b old new before s
    → PlaysKnown V before s t b c new newer (Ok false) → ReplaysKnown V sh readers a c old newer (Ok tt)
replays_all V sh readers None b c old new newer before s t many so_far plays = tt
replays_all V sh readers (Some x) None c old new newer before s t many so_far plays = absurd so_far
replays_all V sh readers (Some x) (Some y) c old new newer before s t many so_far plays =
    let none : lines_of y ≡ [] = ap lines_of plays.0.1.0 ∙ lines-nil in
    let whole : lines_of x ≡ so_far.1.done = so_far.1.parts ∙ ap (λ (l : List (List ℕ)). so_far.1.done ++ l) none ∙ append-nil so_far.1.done in
    (plays.0.1.1, (many, (so_far.1.text, s, subst (λ (l : List (List ℕ)). Plays V 0 (first_scene V sh readers) l so_far.1.text s) (sym whole) so_far.1.played, Appends-kept _ _ _ _ so_far.1.written plays.1)))

-- a replay that stops here has played all before
stopped : (V : ℕ) (start : Scene V) (lines left : List (List ℕ)) (old new : Option (List ℕ)) (before : ℕ) (s : Scene V) (so_far : SoFar V start lines left old new before s) → Stopped V start lines (before + 1) left so_far.text s
stopped V start lines left old new before s so_far = record {
  done = so_far.done;
  parts = so_far.parts;
  count = omega (arith, so_far.count);
  played = so_far.played;
}

-- the line at which it stops is the first of those left
stopped_line : (V : ℕ) (start : Scene V) (lines : List (List ℕ)) (y : List ℕ) (old new : Option (List ℕ)) (before : ℕ) (s : Scene V) (so_far : SoFar V start lines (lines_of y) old new before s) → 0 < length y
    → Stopped V start lines (before + 1) (first_line y ∷ lines_of (drop_through 10 y)) so_far.text s
stopped_line V start lines y old new before s so_far some =
    subst (λ (l : List (List ℕ)). Stopped V start lines (before + 1) l so_far.text s) (lines-step y some) (stopped V start lines (lines_of y) old new before s so_far)

-- the line before the next one
one_back : (before : ℕ) → before + 1 - 1 ≡ before
one_back before = omega arith

-- a line that faults is the one at which the replay stops
refused : (V : ℕ) (start : Scene V) (x y : List ℕ) (old new newer : Option (List ℕ)) (before : ℕ) (s t : Scene V) (fault : Fault) (so_far : SoFar V start (lines_of x) (lines_of y) old new before s)
    → 0 < length y → (text : List ℕ) × LineDoes V before s (first_line y) text (Some fault) t × Appends new newer text
    → StopsRefused V start (lines_of x) old newer (before + 1) fault
refused V start x y old new newer before s t fault so_far some plays = (
  first_line y,
  lines_of (drop_through 10 y),
  so_far.text,
  s,
  t,
  plays.0,
  stopped_line V start (lines_of x) y old new before s so_far some,
  subst (λ (k : ℕ). LineDoes V k s (first_line y) plays.0 (Some fault) t) (sym (one_back before)) plays.1,
  Appends-trans _ _ _ _ _ so_far.written plays.2,
)

-- a replay that stops before a line has done nothing of it
undone : (V : ℕ) (start : Scene V) (x y : List ℕ) (old new newer : Option (List ℕ)) (before : ℕ) (s : Scene V) (so_far : SoFar V start (lines_of x) (lines_of y) old new before s) → Keeps new newer
    → StopsUndone V start (lines_of x) old newer (before + 1)
undone V start x y old new newer before s so_far kept =
    (lines_of y, so_far.text, s, stopped V start (lines_of x) (lines_of y) old new before s so_far, Appends-kept _ _ _ _ so_far.written kept)

-- there is a line before the next one
after_first : (before : ℕ) → 0 < before + 1
after_first before = omega arith

-- there is a line that is too long
some_long : (y : List ℕ) (rest : Option (List ℕ)) → ReadsStopped y rest TooLong → 0 < length y
some_long y rest (inl over) = over.1.0
some_long y rest (inr read) = read.1.0

-- what was read where the script stopped
read_until : (x y : List ℕ) (rest : Option (List ℕ)) (before : ℕ) (fault : Fault) → y ≡ after_lines before x → ReadsStopped y rest fault → ReadsScript x rest (Err (record { line = before + 1; fault = fault }))
read_until x y rest before fault is reads =
    inr (after_first before, subst (λ (l : List ℕ). ReadsStopped l rest fault) (is ∙ ap (λ (k : ℕ). after_lines k x) (sym (one_back before))) reads)

-- what was done and written where the script stopped
stops_by : (V : ℕ) (start : Scene V) (x y : List ℕ) (rest old new newer : Option (List ℕ)) (before : ℕ) (s t : Scene V) (fault : Fault) → SoFar V start (lines_of x) (lines_of y) old new before s
    → ReadsStopped y rest fault → PlaysLine V before s t y new newer (Err fault) → StopsBy V start (lines_of x) old newer (before + 1) fault
stops_by V start x y rest old new newer before s t ReadFailed so_far reads plays = undone V start x y old new newer before s so_far plays
stops_by V start x y rest old new newer before s t NoMemory so_far reads plays = undone V start x y old new newer before s so_far plays
stops_by V start x y rest old new newer before s t TooLong so_far reads plays = refused V start x y old new newer before s t TooLong so_far (some_long y rest reads) plays
stops_by V start x y rest old new newer before s t NotACommand so_far reads plays = refused V start x y old new newer before s t NotACommand so_far reads.1.0 plays
stops_by V start x y rest old new newer before s t BadNumber so_far reads plays = refused V start x y old new newer before s t BadNumber so_far reads.1.0 plays
stops_by V start x y rest old new newer before s t NoSuchReader so_far reads plays = refused V start x y old new newer before s t NoSuchReader so_far reads.1.0 plays
stops_by V start x y rest old new newer before s t StillRunning so_far reads plays = refused V start x y old new newer before s t StillRunning so_far reads.1.0 plays
stops_by V start x y rest old new newer before s t NothingToStep so_far reads plays = refused V start x y old new newer before s t NothingToStep so_far reads.1.0 plays
stops_by V start x y rest old new newer before s t BadShape so_far reads plays = refused V start x y old new newer before s t BadShape so_far reads.1.0 plays
stops_by V start x y rest old new newer before s t WriteFailed so_far reads plays = (
  first_line y,
  lines_of (drop_through 10 y),
  so_far.text,
  s,
  t,
  plays.0,
  plays.1,
  plays.2,
  stopped_line V start (lines_of x) y old new before s so_far reads.1.0,
  subst (λ (k : ℕ). LineDoes V k s (first_line y) plays.0 plays.1 t) (sym (one_back before)) plays.3,
  plays.4,
  Appends-trans _ _ _ _ _ so_far.written plays.5,
)

-- the script stopped
pub replays_part : (V : ℕ) (sh : Shape) (readers : ℕ) (a b c old new newer : Option (List ℕ)) (before : ℕ) (s t : Scene V) (fault : Fault) → HasReaders readers
    → KnownSoFar V (first_scene V sh readers) a b old new before s → PlaysKnown V before s t b c new newer (Err fault) → ReplaysKnown V sh readers a c old newer (Err (record { line = before + 1; fault = fault }))
replays_part V sh readers None b c old new newer before s t fault many so_far plays = tt
replays_part V sh readers (Some x) None c old new newer before s t fault many so_far plays = absurd so_far
replays_part V sh readers (Some x) (Some y) c old new newer before s t fault many so_far plays =
    (read_until x y c before fault so_far.0 plays.0, inr (after_first before, many, stops_by V _ x y c old new newer before s t fault so_far.1 plays.0 plays.1))

-- no line was read
pub replays_none : (V : ℕ) (sh : Shape) (readers : ℕ) (a old : Option (List ℕ)) (fault : Fault) → IsRefusedAs readers fault → ReplaysKnown V sh readers a a old old (Err (record { line = 0; fault = fault }))
replays_none V sh readers None old fault refused = tt
replays_none V sh readers (Some x) old fault refused = (inl (refl, refl), inl (refl, stops_before fault refused))
  where
    stops_before : (fault : Fault) → IsRefusedAs readers fault → StopsBefore readers old old fault
    stops_before NoSuchReader refused = (refused, Keeps-refl old)
    stops_before NoMemory refused = (refused, Keeps-refl old)
    stops_before ReadFailed refused = absurd refused
    stops_before TooLong refused = absurd refused
    stops_before NotACommand refused = absurd refused
    stops_before BadNumber refused = absurd refused
    stops_before StillRunning refused = absurd refused
    stops_before NothingToStep refused = absurd refused
    stops_before BadShape refused = absurd refused
    stops_before WriteFailed refused = absurd refused

-- ---- how many readers there may be
-- the world was refused for its readers
pub no_readers : {A : Type 0} (readers : ℕ) → (A ↔ ((readers ≡ 0) ⊎ (most_readers < readers))) → A → HasReaders readers → ⊥
no_readers readers is refused many = elim (is.0 refused) [
  | inl none ↦ omega (arith, many.0, none)
  | inr more ↦ omega (arith, many.1, more)
]

-- it was not
pub some_readers : {A : Type 0} (readers : ℕ) → (A ↔ ((readers ≡ 0) ⊎ (most_readers < readers))) → (A → ⊥) → HasReaders readers
some_readers readers is allowed =
    let some : readers ≢ 0 = λ none. allowed (is.1 (inl none)) in
    let few : (most_readers < readers) → ⊥ = λ more. allowed (is.1 (inr more)) in
    (omega (arith, some), omega (arith, few))
