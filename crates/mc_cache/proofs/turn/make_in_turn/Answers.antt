use Rattle.std.proofs.Common.{◌∙◌, ap, subst, sym}
use Rattle.mc_shared.specs.Records.{ReaderRecord, WriterRecord}
use Rattle.mc_cache.specs.Inside.Turned.{HasBegunWith}
use Rattle.mc_cache.proofs.FailedCalls.{turn_fails}
use Rattle.mc_cache.proofs.Turns.{tried_to}
use Rattle.mc_cache.proofs.turn.make_in_turn.Goals as goal

pub returns-clause-fails : goal.returns-clause-fails
returns-clause-fails g c =
    turn_fails g.row.V (λ h n told. (g.C.TurnCall.contract c.args.call).fails c.args.cache.now.layout.shape h n told) c.args.cache.now c.begin.new.pass c.end.new.pass c.make-answer.new.writer c.make-answer.result c.turned.result
    (ap (λ (r : ReaderRecord). r.of) c.begin.ensures.begun.caught ∙ c.requires.of.0)
    (c.make-answer.ensures.of ∙ (ap (λ (w : WriterRecord). w.of) c.begin.ensures.writer ∙ c.requires.of.1)) c.end.ensures.ended c.make-answer.ensures.fails c.turned.ensures

pub returns-clause-turn : goal.returns-clause-turn
returns-clause-turn g c =
    let begun = subst (λ (w : WriterRecord). HasBegunWith g.row.V c.args.cache.now c.args.pass.now c.begin.new.pass w) (sym c.begin.ensures.writer) c.begin.ensures.begun in
    tried_to g.row.V c.args.cache.now ((g.C.TurnCall.contract c.args.call).called c.args.cache.now.layout.shape) c.args.pass.now c.begin.new.pass c.end.new.pass c.begin.new.writer c.make-answer.new.writer c.make-answer.result c.turned.result
    c.requires.of.0 begun c.make-answer.ensures.called c.end.ensures.ended c.turned.ensures
