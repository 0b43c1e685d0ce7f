use Rattle.std.proofs.Common.{Ok, Err, subst}
use Rattle.mc_plan.specs.WholeCalls.{RemoveCall}
use Rattle.mc_plan.specs.declared.answer.Answer.TheVariants as answer
use Rattle.mc_plan.specs.declared.answer.Remove.{Remove}
use Rattle.mc_writer.specs.WriterCalls.{HasCalled}
use Rattle.mc_plan.specs.declared.answer.Remove.TheVariants.{Removed, NotThere}
use Rattle.mc_cache.proofs.FailedCalls.{removal_fails}
use Rattle.mc_cache.proofs.KeptMoments.{counts_keeps, same_keeps}
use Rattle.mc_cache.proofs.PlainCalls.{removal_means}
use Rattle.mc_cache.proofs.writer.Writer.remove.Goals as goal

pub returns-in-Ok-Removed-clause-plain : goal.returns-in-Ok-Removed-clause-plain
returns-in-Ok-Removed-clause-plain g c = removal_means g.row.V c.args.cache.now c.cache.inside.cells c.args.self.now c.self.inside.seat c.cache.view_is c.self.view_is c.requires.of c.remove.new.seat c.args.key (Ok (Removed c.in-Ok-Removed.at)) (subst (λ (told : Remove). HasCalled g.row.V c.cache.inside.cells.layout.shape (RemoveCall c.args.key) c.self.inside.seat c.remove.new.seat (answer.Remove (Ok told))) c.in-Ok-Removed.field-0-is c.in-Ok-Removed.ensures.called)

pub returns-in-Ok-NotThere-clause-plain : goal.returns-in-Ok-NotThere-clause-plain
returns-in-Ok-NotThere-clause-plain g c = removal_means g.row.V c.args.cache.now c.cache.inside.cells c.args.self.now c.self.inside.seat c.cache.view_is c.self.view_is c.requires.of c.remove.new.seat c.args.key (Ok (NotThere c.in-Ok-NotThere.at)) (subst (λ (told : Remove). HasCalled g.row.V c.cache.inside.cells.layout.shape (RemoveCall c.args.key) c.self.inside.seat c.remove.new.seat (answer.Remove (Ok told))) c.in-Ok-NotThere.field-0-is c.in-Ok-NotThere.ensures.called)

pub returns-in-Err-clause-plain : goal.returns-in-Err-clause-plain
returns-in-Err-clause-plain g c = removal_means g.row.V c.args.cache.now c.cache.inside.cells c.args.self.now c.self.inside.seat c.cache.view_is c.self.view_is c.requires.of c.remove.new.seat c.args.key (Err c.in-Err.spent) c.in-Err.ensures.called

pub returns-in-Err-clause-fails : goal.returns-in-Err-clause-fails
returns-in-Err-clause-fails g c = removal_fails g.row.V c.args.cache.now c.cache.inside.cells c.args.self.now c.self.inside.seat c.remove.new.seat c.cache.view_is c.self.view_is c.requires.of c.args.key (Err c.in-Err.spent) c.in-Err.ensures.called

pub invariant_of-self : goal.invariant_of-self
invariant_of-self g c =
    let made = removal_means g.row.V c.args.cache.now c.cache.inside.cells c.args.self.now c.self.inside.seat c.cache.view_is c.self.view_is c.requires.of c.remove.new.seat c.args.key (Ok (Removed c.in-Ok-Removed.at)) (subst (λ (told : Remove). HasCalled g.row.V c.cache.inside.cells.layout.shape (RemoveCall c.args.key) c.self.inside.seat c.remove.new.seat (answer.Remove (Ok told))) c.in-Ok-Removed.field-0-is c.in-Ok-Removed.ensures.called) in
    (c.in-Ok-Removed.ensures.rested, counts_keeps g.row.V c.remove.new.books c.remove.new.seat c.in-Ok-Removed.at c.in-Ok-Removed.ensures.rested (made.3))

pub invariant_of-self-in-Ok-NotThere : goal.invariant_of-self-in-Ok-NotThere
invariant_of-self-in-Ok-NotThere g c =
    let means = removal_means g.row.V c.args.cache.now c.cache.inside.cells c.args.self.now c.self.inside.seat c.cache.view_is c.self.view_is c.requires.of c.remove.new.seat c.args.key (Ok (NotThere c.in-Ok-NotThere.at)) (subst (λ (told : Remove). HasCalled g.row.V c.cache.inside.cells.layout.shape (RemoveCall c.args.key) c.self.inside.seat c.remove.new.seat (answer.Remove (Ok told))) c.in-Ok-NotThere.field-0-is c.in-Ok-NotThere.ensures.called) in
    let leaves = means.1 in
    (c.in-Ok-NotThere.ensures.rested, same_keeps g.row.V c.self.inside.books c.remove.new.books c.args.self.now c.self.inside.seat c.remove.new.seat c.self.inside.moment c.self.view_is c.self.invariant.0 c.self.invariant.1 c.in-Ok-NotThere.ensures.rested leaves)

pub invariant_of-self-in-Err : goal.invariant_of-self-in-Err
invariant_of-self-in-Err g c =
    let leaves = removal_means g.row.V c.args.cache.now c.cache.inside.cells c.args.self.now c.self.inside.seat c.cache.view_is c.self.view_is c.requires.of c.remove.new.seat c.args.key (Err c.in-Err.spent) c.in-Err.ensures.called in
    (c.in-Err.ensures.rested, same_keeps g.row.V c.self.inside.books c.remove.new.books c.args.self.now c.self.inside.seat c.remove.new.seat c.self.inside.moment c.self.view_is c.self.invariant.0 c.self.invariant.1 c.in-Err.ensures.rested leaves)
