use Rattle.std.proofs.Common.{◌∙◌, Ok, Err, ap, arith, refl, sym}
use Rattle.mc_shared.specs.Records.{WriterRecord}
use Rattle.mc_cache.proofs.KeptMoments.{counts_keeps, same_keeps}
use Rattle.mc_cache.proofs.PlainCalls.{held_now, kept_at, kept_means, kept_leaves}
use Rattle.mc_cache.proofs.writer.Writer.put_kept_absent.Goals as goal

pub put_kept_absent-requires : goal.put_kept_absent-requires
put_kept_absent-requires g c =
    let width = c.self.invariant.0.known.width in
    let absent = sym (held_now g.row.V c.args.cache.now c.cache.inside.cells c.args.self.now c.self.inside.seat c.cache.view_is c.self.view_is c.requires.of c.args.key _ refl) ∙ c.requires.absent in
    (omega arith, (omega (arith, width.most), (ap (λ (w : WriterRecord). w.of) c.self.view_is ∙ (c.requires.of ∙ sym c.cache.view_is), (c.self.invariant.0, absent))))

pub returns-in-Ok-clause-plain : goal.returns-in-Ok-clause-plain
returns-in-Ok-clause-plain g c = kept_means g.row.V c.args.cache.now c.cache.inside.cells c.args.self.now c.self.inside.seat c.cache.view_is c.self.view_is c.requires.of c.put_kept_absent.new.seat c.args.key c.args.value (Ok c.in-Ok.done) c.in-Ok.ensures.called

pub returns-in-Err-clause-plain : goal.returns-in-Err-clause-plain
returns-in-Err-clause-plain g c = kept_means g.row.V c.args.cache.now c.cache.inside.cells c.args.self.now c.self.inside.seat c.cache.view_is c.self.view_is c.requires.of c.put_kept_absent.new.seat c.args.key c.args.value (Err c.in-Err.why) c.in-Err.ensures.called

pub returns-in-Ok-clause-at : goal.returns-in-Ok-clause-at
returns-in-Ok-clause-at g c = kept_at g.row.V c.args.cache.now c.cache.inside.cells c.args.self.now c.self.inside.seat c.cache.view_is c.self.view_is c.requires.of c.put_kept_absent.new.seat c.args.key c.args.value c.in-Ok.done c.in-Ok.ensures.called

pub invariant_of-self : goal.invariant_of-self
invariant_of-self g c =
    let at = kept_at g.row.V c.args.cache.now c.cache.inside.cells c.args.self.now c.self.inside.seat c.cache.view_is c.self.view_is c.requires.of c.put_kept_absent.new.seat c.args.key c.args.value c.in-Ok.done c.in-Ok.ensures.called in
    (c.in-Ok.ensures.rested, counts_keeps g.row.V c.put_kept_absent.new.books c.put_kept_absent.new.seat c.at-self-inside.result c.in-Ok.ensures.rested (c.at-self-inside.ensures ∙ at))

pub invariant_of-self-in-Err : goal.invariant_of-self-in-Err
invariant_of-self-in-Err g c =
    let leaves = kept_leaves g.row.V c.args.cache.now c.cache.inside.cells c.args.self.now c.self.inside.seat c.cache.view_is c.self.view_is c.requires.of c.put_kept_absent.new.seat c.args.key c.args.value c.in-Err.why c.in-Err.ensures.called in
    (c.in-Err.ensures.rested, same_keeps g.row.V c.self.inside.books c.put_kept_absent.new.books c.args.self.now c.self.inside.seat c.put_kept_absent.new.seat c.self.inside.moment c.self.view_is c.self.invariant.0 c.self.invariant.1 c.in-Err.ensures.rested leaves)
