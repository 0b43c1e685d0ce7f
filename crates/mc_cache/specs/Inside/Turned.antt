-- A turn in its parts.
use Rattle.std.specs.Prelude.{ℕ, ◌≡◌, Result, Ok, Err}
use Rattle.mc_words.specs.declared.shape.Shape.{Shape}
use Rattle.mc_shared.specs.Records.{Opening, ReaderRecord, WriterRecord, reader_record}
use Rattle.mc_shared.specs.Views.{IsFrontOf}
use Rattle.mc_cache.specs.Orders.{HasAnsweredInOrder}
use Rattle.mc_cache.specs.Turns.{IsLaidDown}
use Rattle.mc_cache.specs.declared.desk.DeskError.{DeskError}
use Rattle.mc_cache.specs.declared.desk.DeskError.TheVariants.{Call}

-- the turn was got with this writer, and the pass was caught up
pub record HasBegunWith (V : ℕ) (o : Opening) (old new : ReaderRecord) (w : WriterRecord) : Type 0 where
  pub of : w.of ≡ o
  pub stood : IsLaidDown V w
  pub seen : IsFrontOf old.front w.acts
  pub caught : new ≡ reader_record old.of old.number w.acts old.done

-- the pass was caught up with the writer once more
pub record HasEnded (V : ℕ) (sh : Shape) (old new : ReaderRecord) (w : WriterRecord) : Type 0 where
  pub stands : IsLaidDown V w
  pub caught : new ≡ reader_record old.of old.number w.acts old.done
  pub order : HasAnsweredInOrder V sh w old.number old.done

-- the answer of a turn whose call has this one
abbrev pub turned : {T E : Type 0} → Result T E → Result T (DeskError E)
turned (Ok done) = Ok done
turned (Err why) = Err (Call why)
