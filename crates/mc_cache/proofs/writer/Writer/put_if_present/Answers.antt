use Rattle.std.proofs.Common.{◌∙◌, List, None, Option, Ok, Err, Result, refl, subst, sym}
use Rattle.std.specs.Prelude.{IsSome, ℕ}
use Rattle.mc_plan.specs.WholeCalls.{PutCall}
use Rattle.mc_plan.specs.declared.answer.Answer.TheVariants as answer
use Rattle.mc_plan.specs.declared.answer.Put.{Put}
use Rattle.mc_plan.specs.declared.answer.PutError.{PutError}
use Rattle.mc_writer.specs.WriterCalls.{HasCalled}
use Rattle.mc_cache.proofs.FailedCalls.{put_fails}
use Rattle.mc_cache.proofs.KeptMoments.{counts_keeps, same_keeps}
use Rattle.mc_cache.proofs.PlainCalls.{held_now, put_means}
use Rattle.mc_cache.proofs.writer.Writer.put_if_present.Goals as goal

pub returns-in-Some-Ok-clause-plain : goal.returns-in-Some-Ok-clause-plain
returns-in-Some-Ok-clause-plain g c = put_means g.row.V c.args.cache.now c.cache.inside.cells c.args.self.now c.self.inside.seat c.cache.view_is c.self.view_is c.requires.of c.put_if_present.new.seat c.args.key c.args.value (Ok c.in-Some-Ok.done) (subst (λ (told : Result Put PutError). HasCalled g.row.V c.cache.inside.cells.layout.shape (PutCall c.args.key c.args.value) c.self.inside.seat c.put_if_present.new.seat (answer.Put told)) c.in-Some-Ok.field-0-is c.in-Some-Ok.ensures.called)

pub returns-in-Some-Err-clause-plain : goal.returns-in-Some-Err-clause-plain
returns-in-Some-Err-clause-plain g c = put_means g.row.V c.args.cache.now c.cache.inside.cells c.args.self.now c.self.inside.seat c.cache.view_is c.self.view_is c.requires.of c.put_if_present.new.seat c.args.key c.args.value (Err c.in-Some-Err.why) (subst (λ (told : Result Put PutError). HasCalled g.row.V c.cache.inside.cells.layout.shape (PutCall c.args.key c.args.value) c.self.inside.seat c.put_if_present.new.seat (answer.Put told)) c.in-Some-Err.field-0-is c.in-Some-Err.ensures.called)

pub returns-in-Some-Err-clause-fails : goal.returns-in-Some-Err-clause-fails
returns-in-Some-Err-clause-fails g c = put_fails g.row.V c.args.cache.now c.cache.inside.cells c.args.self.now c.self.inside.seat c.put_if_present.new.seat c.cache.view_is c.self.view_is c.requires.of c.args.key c.args.value (Err c.in-Some-Err.why) (subst (λ (told : Result Put PutError). HasCalled g.row.V c.cache.inside.cells.layout.shape (PutCall c.args.key c.args.value) c.self.inside.seat c.put_if_present.new.seat (answer.Put told)) c.in-Some-Err.field-0-is c.in-Some-Err.ensures.called)

pub returns-in-Some-Ok-clause-present : goal.returns-in-Some-Ok-clause-present
returns-in-Some-Ok-clause-present g c =
    subst (λ (o : Option (List ℕ)). IsSome o) (sym (held_now g.row.V c.args.cache.now c.cache.inside.cells c.args.self.now c.self.inside.seat c.cache.view_is c.self.view_is c.requires.of c.args.key _ refl)) c.in-Some-Ok.ensures.present

pub returns-in-Some-Err-clause-present : goal.returns-in-Some-Err-clause-present
returns-in-Some-Err-clause-present g c =
    subst (λ (o : Option (List ℕ)). IsSome o) (sym (held_now g.row.V c.args.cache.now c.cache.inside.cells c.args.self.now c.self.inside.seat c.cache.view_is c.self.view_is c.requires.of c.args.key _ refl)) c.in-Some-Err.ensures.present

pub returns-in-None-clause-absent : goal.returns-in-None-clause-absent
returns-in-None-clause-absent g c = held_now g.row.V c.args.cache.now c.cache.inside.cells c.args.self.now c.self.inside.seat c.cache.view_is c.self.view_is c.requires.of c.args.key None c.in-None.ensures.absent

pub invariant_of-self : goal.invariant_of-self
invariant_of-self g c =
    let made = put_means g.row.V c.args.cache.now c.cache.inside.cells c.args.self.now c.self.inside.seat c.cache.view_is c.self.view_is c.requires.of c.put_if_present.new.seat c.args.key c.args.value (Ok c.in-Some-Ok.done) (subst (λ (told : Result Put PutError). HasCalled g.row.V c.cache.inside.cells.layout.shape (PutCall c.args.key c.args.value) c.self.inside.seat c.put_if_present.new.seat (answer.Put told)) c.in-Some-Ok.field-0-is c.in-Some-Ok.ensures.called) in
    (c.in-Some-Ok.ensures.rested, counts_keeps g.row.V c.put_if_present.new.books c.put_if_present.new.seat c.at-self-inside.result c.in-Some-Ok.ensures.rested (c.at-self-inside.ensures ∙ made.at))

pub invariant_of-self-in-Some-Err : goal.invariant_of-self-in-Some-Err
invariant_of-self-in-Some-Err g c =
    let leaves = put_means g.row.V c.args.cache.now c.cache.inside.cells c.args.self.now c.self.inside.seat c.cache.view_is c.self.view_is c.requires.of c.put_if_present.new.seat c.args.key c.args.value (Err c.in-Some-Err.why) (subst (λ (told : Result Put PutError). HasCalled g.row.V c.cache.inside.cells.layout.shape (PutCall c.args.key c.args.value) c.self.inside.seat c.put_if_present.new.seat (answer.Put told)) c.in-Some-Err.field-0-is c.in-Some-Err.ensures.called) in
    (c.in-Some-Err.ensures.rested, same_keeps g.row.V c.self.inside.books c.put_if_present.new.books c.args.self.now c.self.inside.seat c.put_if_present.new.seat c.self.inside.moment c.self.view_is c.self.invariant.0 c.self.invariant.1 c.in-Some-Err.ensures.rested leaves)
