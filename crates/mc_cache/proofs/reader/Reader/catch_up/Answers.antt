use Rattle.std.proofs.Common.{◌≡◌, ap, sym, ◌∙◌, subst}
use Rattle.mc_shared.specs.ExactFronts.{InOneOrder}
use Rattle.mc_shared.specs.Records.{Opening, WriterRecord, ReaderRecord, reader_record}
use Rattle.mc_shared.specs.SeatFacts.{IsRun}
use Rattle.mc_cache.proofs.OrderedAnswers.{answered_in_order}
use Rattle.mc_cache.proofs.PlainCalls.{met, moment_in, moment_met}
use Rattle.mc_cache.proofs.reader.Reader.catch_up.Goals as goal

pub returns-clause-order : goal.returns-clause-order
returns-clause-order g c =
    let o : Opening = c.args.cache.now in
    let w : WriterRecord = c.args.writer.now in
    let r : ReaderRecord = c.args.self.now in
    let wrote = c.writer.view_is in
    let is = c.self.view_is in
    let of : c.self.inside.seat.of ≡ o = ap (λ (x : ReaderRecord). x.of) is ∙ c.requires.of.0 in
    let layout = sym (ap (λ (x : WriterRecord). x.of.layout) wrote ∙ ap (λ (x : Opening). x.layout) c.requires.of.1) ∙ c.writer.invariant.0.layout in
    answered_in_order g.row.V o _ w c.catch-at.new.reader r.number r.done layout c.requires.of.1 (c.catch-at.ensures.reader ∙ (λ i. reader_record (of i) (is i).number (wrote i).acts (is i).done))
    (subst (λ (x : WriterRecord). IsRun x.of.layout x.acts) (c.catch-at.ensures.writer ∙ wrote) c.known.ensures.run) c.known-2.ensures.recorded
    (subst (λ (y : WriterRecord × ReaderRecord). InOneOrder y.0.acts y.0.notes y.1.number y.1.done) (λ i. (wrote i, is i)) c.catch-at.ensures.order)

pub returns-clause-moment : goal.returns-clause-moment
returns-clause-moment g c =
    moment_met g.row.V c.args.cache.now c.cache.inside.cells c.writer.inside.books c.args.writer.now c.writer.inside.seat c.catch-at.result c.cache.view_is c.writer.view_is c.requires.of.1 c.writer.invariant.0 c.catch-at.ensures.moment

pub returns-clause-plain : goal.returns-clause-plain
returns-clause-plain g c = (
  met g.row.V c.args.cache.now c.args.self.now c.self.inside.seat c.catch-at.new.reader c.args.writer.now c.writer.inside.seat c.self.view_is c.writer.view_is c.requires.of.0 c.requires.of.1 (ap (λ (r : ReaderRecord). r.of) c.catch-at.ensures.reader)
      (ap (λ (r : ReaderRecord). r.front) c.catch-at.ensures.reader) c.catch-at.ensures.begins,
  moment_in g.row.V c.args.cache.now c.args.writer.now c.catch-at.result c.requires.of.1
      (moment_met g.row.V c.args.cache.now c.cache.inside.cells c.writer.inside.books c.args.writer.now c.writer.inside.seat c.catch-at.result c.cache.view_is c.writer.view_is c.requires.of.1 c.writer.invariant.0 c.catch-at.ensures.moment),
)
