use Rattle.std.proofs.Common.{◌≡◌, ℕ, ap, sym, subst, arith}
use base.Stored.{Coded-set}
use borrow.Rule.Reborrow.{re_v}
use Rattle.mc_theory.proofs.Lists.Bounds.{state_length}
use Rattle.mc_shared.specs.Records.{WriterRecord}
use Rattle.mc_shared.specs.contracts.ruled_words.RuledWords.{the_row}
use Rattle.mc_writer.specs.declared.pen.Pen.{Pen}
use Rattle.mc_writer.proofs.pen.PenPeek.word.Goals as goal

-- a fact about the seat has one proof
same_at : {V : ℕ} (pen : Pen V) (p : pen.seat.now.of ≡ pen.cells.now) → ◌≡◌ {A = Pen V} (record { cells = pen.cells; seat = pen.seat; of = p }) pen
same_at pen p = ap (λ q. record { cells = pen.cells; seat = pen.seat; of = q }) (Coded-set the_row.coded pen.seat.now.of pen.cells.now p pen.of)

same_pen : {V : ℕ} (pen : Pen V) (w : WriterRecord) → w ≡ pen.seat.now → (p : w.of ≡ pen.cells.now) → ◌≡◌ {A = Pen V} (record { cells = pen.cells; seat = re_v w pen.seat; of = p }) pen
same_pen {V} pen w e p = subst (λ (y : WriterRecord). (q : y.of ≡ pen.cells.now) → ◌≡◌ {A = Pen V} (record { cells = pen.cells; seat = re_v y pen.seat; of = q }) pen) (sym e) (λ q. same_at pen q) p

pub fetch-requires : goal.fetch-requires
fetch-requires g c =
    let pen = c.args.self.now in
    let long = state_length g.row.V pen.cells.now.layout.shape pen.seat.now.acts in
    (omega arith, (pen.of, omega (arith, c.requires, long)))

pub returns-clause-kept : goal.returns-clause-kept
returns-clause-kept g c = same_pen c.args.self.now c.fetch.new.writer c.fetch.ensures.writer _
