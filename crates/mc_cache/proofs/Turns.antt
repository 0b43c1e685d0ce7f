-- Turns, from what their parts state.
use Rattle.std.specs.Prelude.{Result, Ok, Err}
use Rattle.std.proofs.Common.{◌≡◌, ◌∙◌, ℕ, ap, subst, sym}
use Rattle.mc_words.specs.declared.shape.Shape.{Shape}
use Rattle.mc_shared.specs.Records.{Opening, ReaderRecord, WriterRecord, reader_record}
use Rattle.mc_cache.specs.Inside.Turned.{HasBegunWith, HasEnded, turned}
use Rattle.mc_cache.specs.Orders.{HasAnsweredInOrder}
use Rattle.mc_cache.specs.Turns.{HasHadTurn, HasTriedTo}
use Rattle.mc_cache.specs.declared.desk.DeskError.{DeskError}

had_turn : (V : ℕ) (o : Opening) (Called : WriterRecord → WriterRecord → Type 0) (old mid new : ReaderRecord) (before after : WriterRecord)
    → old.of ≡ o → HasBegunWith V o old mid before → Called before after → HasEnded V o.layout.shape mid new after → HasHadTurn V o.layout.shape Called old new
had_turn V o Called old mid new before after of b called e = record {
  before = before;
  after = after;
  of = b.of ∙ sym of;
  stood = b.stood;
  stands = e.stands;
  seen = b.seen;
  called = called;
  caught = e.caught ∙ ap (λ (r : ReaderRecord). reader_record r.of r.number after.acts r.done) b.caught;
  order = subst (λ (r : ReaderRecord). HasAnsweredInOrder V o.layout.shape after r.number r.done) b.caught e.order;
}

answered_turn : {T E : Type 0} (V : ℕ) (sh : Shape) (Called : Result T E → WriterRecord → WriterRecord → Type 0) (old new : ReaderRecord) (r : Result T E) → HasHadTurn V sh (Called r) old new → HasTriedTo V sh Called old new (turned r)
answered_turn V sh Called old new (Ok done) h = h
answered_turn V sh Called old new (Err why) h = h

-- a turn that was begun, its call and its end
pub tried_to : {T E : Type 0} (V : ℕ) (o : Opening) (Called : Result T E → WriterRecord → WriterRecord → Type 0) (old mid new : ReaderRecord) (before after : WriterRecord) (r : Result T E) (result : Result T (DeskError E))
    → old.of ≡ o → HasBegunWith V o old mid before → Called r before after → HasEnded V o.layout.shape mid new after → result ≡ turned r → HasTriedTo V o.layout.shape Called old new result
tried_to V o Called old mid new before after r result of b called e is =
    subst (HasTriedTo V o.layout.shape Called old new) (sym is) (answered_turn V o.layout.shape Called old new r (had_turn V o (Called r) old mid new before after of b called e))
