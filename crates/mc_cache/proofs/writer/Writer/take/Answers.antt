use Rattle.std.proofs.Common.{Ok, Err, Some, subst}
use Rattle.mc_theory.specs.Lists.{state_of}
use Rattle.mc_plan.specs.WholeCalls.{RemoveCall}
use Rattle.mc_plan.specs.declared.answer.Answer.TheVariants as answer
use Rattle.mc_plan.specs.declared.answer.Remove.TheVariants as removal
use Rattle.mc_writer.specs.GivenWay.{HasTaken, removal_of}
use Rattle.mc_writer.specs.WriterCalls.{HasCalled}
use Rattle.mc_writer.specs.declared.entry.Take.{Take}
use Rattle.mc_cache.proofs.FailedCalls.{removal_fails}
use Rattle.mc_cache.proofs.KeptMoments.{counts_keeps, same_keeps}
use Rattle.mc_cache.proofs.PlainCalls.{entry_now, removal_means}
use Rattle.mc_cache.proofs.writer.Writer.take.Goals as goal

pub returns-in-Ok-Taken-clause-plain : goal.returns-in-Ok-Taken-clause-plain
returns-in-Ok-Taken-clause-plain g c = (
  removal_means g.row.V c.args.cache.now c.cache.inside.cells c.args.self.now c.self.inside.seat c.cache.view_is c.self.view_is c.requires.of c.take.new.seat c.args.key (Ok (removal.Removed c.in-Ok-Taken.at)) (subst (λ (told : Take g.row.V). HasCalled g.row.V c.cache.inside.cells.layout.shape (RemoveCall c.args.key) c.self.inside.seat c.take.new.seat (answer.Remove (removal_of (Ok told)))) c.in-Ok-Taken.field-0-is c.in-Ok-Taken.ensures.called),
  entry_now g.row.V c.args.cache.now c.cache.inside.cells c.args.self.now c.self.inside.seat c.cache.view_is c.self.view_is c.requires.of c.args.key (Some c.in-Ok-Taken.old) (subst (HasTaken (state_of g.row.V c.cache.inside.cells.layout.shape c.self.inside.seat.acts).history c.args.key) c.in-Ok-Taken.field-0-is c.in-Ok-Taken.ensures.old),
)

pub returns-in-Ok-NotThere-clause-plain : goal.returns-in-Ok-NotThere-clause-plain
returns-in-Ok-NotThere-clause-plain g c = removal_means g.row.V c.args.cache.now c.cache.inside.cells c.args.self.now c.self.inside.seat c.cache.view_is c.self.view_is c.requires.of c.take.new.seat c.args.key (Ok (removal.NotThere c.in-Ok-NotThere.at)) (subst (λ (told : Take g.row.V). HasCalled g.row.V c.cache.inside.cells.layout.shape (RemoveCall c.args.key) c.self.inside.seat c.take.new.seat (answer.Remove (removal_of (Ok told)))) c.in-Ok-NotThere.field-0-is c.in-Ok-NotThere.ensures.called)

pub returns-in-Err-clause-plain : goal.returns-in-Err-clause-plain
returns-in-Err-clause-plain g c = removal_means g.row.V c.args.cache.now c.cache.inside.cells c.args.self.now c.self.inside.seat c.cache.view_is c.self.view_is c.requires.of c.take.new.seat c.args.key (Err c.in-Err.spent) c.in-Err.ensures.called

pub returns-in-Err-clause-fails : goal.returns-in-Err-clause-fails
returns-in-Err-clause-fails g c = removal_fails g.row.V c.args.cache.now c.cache.inside.cells c.args.self.now c.self.inside.seat c.take.new.seat c.cache.view_is c.self.view_is c.requires.of c.args.key (Err c.in-Err.spent) c.in-Err.ensures.called

pub invariant_of-self : goal.invariant_of-self
invariant_of-self g c =
    let made = removal_means g.row.V c.args.cache.now c.cache.inside.cells c.args.self.now c.self.inside.seat c.cache.view_is c.self.view_is c.requires.of c.take.new.seat c.args.key (Ok (removal.Removed c.in-Ok-Taken.at)) (subst (λ (told : Take g.row.V). HasCalled g.row.V c.cache.inside.cells.layout.shape (RemoveCall c.args.key) c.self.inside.seat c.take.new.seat (answer.Remove (removal_of (Ok told)))) c.in-Ok-Taken.field-0-is c.in-Ok-Taken.ensures.called) in
    (c.in-Ok-Taken.ensures.rested, counts_keeps g.row.V c.take.new.books c.take.new.seat c.in-Ok-Taken.at c.in-Ok-Taken.ensures.rested made.3)

pub invariant_of-self-in-Ok-NotThere : goal.invariant_of-self-in-Ok-NotThere
invariant_of-self-in-Ok-NotThere g c =
    let means = removal_means g.row.V c.args.cache.now c.cache.inside.cells c.args.self.now c.self.inside.seat c.cache.view_is c.self.view_is c.requires.of c.take.new.seat c.args.key (Ok (removal.NotThere c.in-Ok-NotThere.at)) (subst (λ (told : Take g.row.V). HasCalled g.row.V c.cache.inside.cells.layout.shape (RemoveCall c.args.key) c.self.inside.seat c.take.new.seat (answer.Remove (removal_of (Ok told)))) c.in-Ok-NotThere.field-0-is c.in-Ok-NotThere.ensures.called) in
    let leaves = means.1 in
    (c.in-Ok-NotThere.ensures.rested, same_keeps g.row.V c.self.inside.books c.take.new.books c.args.self.now c.self.inside.seat c.take.new.seat c.self.inside.moment c.self.view_is c.self.invariant.0 c.self.invariant.1 c.in-Ok-NotThere.ensures.rested leaves)

pub invariant_of-self-in-Err : goal.invariant_of-self-in-Err
invariant_of-self-in-Err g c =
    let leaves = removal_means g.row.V c.args.cache.now c.cache.inside.cells c.args.self.now c.self.inside.seat c.cache.view_is c.self.view_is c.requires.of c.take.new.seat c.args.key (Err c.in-Err.spent) c.in-Err.ensures.called in
    (c.in-Err.ensures.rested, same_keeps g.row.V c.self.inside.books c.take.new.books c.args.self.now c.self.inside.seat c.take.new.seat c.self.inside.moment c.self.view_is c.self.invariant.0 c.self.invariant.1 c.in-Err.ensures.rested leaves)
