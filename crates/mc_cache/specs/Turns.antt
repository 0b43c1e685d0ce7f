-- What a try for the turn does, at the desk that has the writer.
use Rattle.std.specs.Prelude.{ℕ, ◌≡◌, ◌⊎◌, length, Option, Some, None, Result, Ok, Err}
use Rattle.mc_words.specs.declared.history.Reply.{Reply}
use Rattle.mc_words.specs.declared.history.Reply.TheVariants.{Busy}
use Rattle.mc_words.specs.declared.shape.Shape.{Shape}
use Rattle.mc_plan.specs.WholeCalls.{Call}
use Rattle.mc_plan.specs.declared.answer.Answer.{Answer}
use Rattle.mc_shared.specs.Records.{Opening, ReaderRecord, WriterRecord, reader_record}
use Rattle.mc_shared.specs.SeatFacts.{IsRun}
use Rattle.mc_shared.specs.Views.{IsFrontOf}
use Rattle.mc_reader.specs.Records.{HasLooked}
use Rattle.mc_writer.specs.WriterCalls.{HasCalled}
use Rattle.mc_cache.specs.Beside.{HasLookedBeside}
use Rattle.mc_cache.specs.Orders.{HasAnsweredInOrder}
use Rattle.mc_cache.specs.Plain.{HasMet, TellsNow, history, seen}
use Rattle.mc_cache.specs.Resting.{IsAtRest}
use Rattle.mc_cache.specs.declared.desk.DeskError.{DeskError}
use Rattle.mc_cache.specs.declared.desk.DeskError.TheVariants as desk

-- a writer between two turns: its acts are lawful and within the limit, each has its note, and no call of it runs
pub record IsLaidDown (V : ℕ) (w : WriterRecord) : Type 0 where
  pub run : IsRun w.of.layout w.acts
  pub paired : length w.notes ≡ length w.acts
  pub rests : IsAtRest V w

-- whoever lent this reader as a pass has had the turn. It found the writer with the one record, of which the pass had seen a front,
-- and left it with the other: what was called leads from the one to the other. The pass has then seen all, and its earlier lookups are
-- true in the order of the notes
pub record HasHadTurn (V : ℕ) (sh : Shape) (Called : WriterRecord → WriterRecord → Type 0) (old new : ReaderRecord) : Type 0 where
  pub before : WriterRecord
  pub after : WriterRecord
  pub of : before.of ≡ old.of
  pub stood : IsLaidDown V before
  pub stands : IsLaidDown V after
  pub seen : IsFrontOf old.front before.acts
  pub called : Called before after
  pub caught : new ≡ reader_record old.of old.number after.acts old.done
  pub order : HasAnsweredInOrder V sh after old.number old.done

-- a try for the turn, to call what answers so: if it was held, nothing was done with the pass
abbrev pub HasTriedTo : {T E : Type 0} (V : ℕ) → Shape → (Result T E → WriterRecord → WriterRecord → Type 0) → ReaderRecord → ReaderRecord → Result T (DeskError E) → Type 0
HasTriedTo V sh Called old new (Ok done) = HasHadTurn V sh (Called (Ok done)) old new
HasTriedTo V sh Called old new (Err desk.Held) = new ≡ old
HasTriedTo V sh Called old new (Err (desk.Call why)) = HasHadTurn V sh (Called (Err why)) old new

-- a try for the turn, to make this whole call
abbrev pub HasTried : {T E : Type 0} (V : ℕ) → Shape → Call → (Result T E → Answer) → ReaderRecord → ReaderRecord → Result T (DeskError E) → Type 0
HasTried V sh call told old new tried = HasTriedTo V sh (λ answer before after. HasCalled V sh call before after (told answer)) old new tried

-- whoever lent this reader as a pass has had the turn, and the pass has seen all that the writer had done. It did nothing else
pub record HasMetAtDesk (V : ℕ) (old new : ReaderRecord) : Type 0 where
  pub writer : WriterRecord
  pub of : writer.of ≡ old.of
  pub stood : IsLaidDown V writer
  pub seen : IsFrontOf old.front writer.acts
  pub caught : new ≡ reader_record old.of old.number writer.acts old.done

-- a try for the turn, to list the entries: if it was held, nothing was done with the pass
abbrev pub HasTriedToList : {T E : Type 0} (V : ℕ) → ReaderRecord → ReaderRecord → Result T (DeskError E) → Type 0
HasTriedToList V old new (Ok listed) = HasMetAtDesk V old new
HasTriedToList V old new (Err desk.Held) = new ≡ old
HasTriedToList V old new (Err (desk.Call why)) = HasMetAtDesk V old new

-- a try for the turn, to look a key up without a mark: if it was held, nothing was done with the pass
abbrev pub HasTriedToPeek : (V : ℕ) → ReaderRecord → ReaderRecord → Option (Reply V) → Type 0
HasTriedToPeek V old new (Some reply) = HasMetAtDesk V old new
HasTriedToPeek V old new None = new ≡ old

-- a lookup was busy, and then the key was looked up beside the writer, which was laid down and is unchanged
pub record HasFallenBack (V : ℕ) (sh : Shape) (k : ℕ) (old new : ReaderRecord) (reply : Reply V) : Type 0 where
  pub mid : ReaderRecord
  pub writer : WriterRecord
  pub of : writer.of ≡ old.of
  pub stands : IsLaidDown V writer
  pub busy : HasLooked V sh k old mid Busy
  pub looked : HasLookedBeside V sh k writer.acts mid new reply
  pub order : HasAnsweredInOrder V sh writer mid.number mid.done

-- a lookup; or one that was busy, and then one beside the writer
abbrev pub HasLookedOrMet : (V : ℕ) → Shape → ℕ → ReaderRecord → ReaderRecord → Reply V → Type 0
HasLookedOrMet V sh k old new reply = HasLooked V sh k old new reply ⊎ HasFallenBack V sh k old new reply

-- the turn was got, and the key looked up beside the writer
pub record HasLookedInTurn (V : ℕ) (o : Opening) (old new : ReaderRecord) (k : ℕ) (reply : Reply V) : Type 0 where
  pub writer : WriterRecord
  pub of : writer.of ≡ o
  pub stands : IsLaidDown V writer
  pub looked : HasLookedBeside V o.layout.shape k writer.acts old new reply
  pub order : HasAnsweredInOrder V o.layout.shape writer old.number old.done
  pub plain : HasMet V (seen V old) (seen V new) (history V writer) × TellsNow (history V writer) k reply
