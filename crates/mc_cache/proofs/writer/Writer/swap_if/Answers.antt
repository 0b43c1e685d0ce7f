use Rattle.std.proofs.Common.{Ok, Err, Some}
use Rattle.mc_cache.proofs.FailedCalls.{put_if_fails}
use Rattle.mc_cache.proofs.KeptMoments.{counts_keeps, same_keeps}
use Rattle.mc_cache.proofs.PlainCalls.{entry_now, put_if_means, refused_if}
use Rattle.mc_cache.proofs.writer.Writer.swap_if.Goals as goal

pub returns-in-Ok-clause-plain : goal.returns-in-Ok-clause-plain
returns-in-Ok-clause-plain g c = (
  put_if_means g.row.V c.args.cache.now c.cache.inside.cells c.args.self.now c.self.inside.seat c.cache.view_is c.self.view_is c.requires.of c.swap_if.new.seat c.args.key c.args.since c.args.value (Ok c.in-Ok.replaced.at) c.in-Ok.ensures.called,
  entry_now g.row.V c.args.cache.now c.cache.inside.cells c.args.self.now c.self.inside.seat c.cache.view_is c.self.view_is c.requires.of c.args.key (Some c.in-Ok.replaced.old) c.in-Ok.ensures.old,
)

pub returns-in-Err-clause-plain : goal.returns-in-Err-clause-plain
returns-in-Err-clause-plain g c = (put_if_means g.row.V c.args.cache.now c.cache.inside.cells c.args.self.now c.self.inside.seat c.cache.view_is c.self.view_is c.requires.of c.swap_if.new.seat c.args.key c.args.since c.args.value (Err c.in-Err.why) c.in-Err.ensures.called, tt)

pub returns-in-Err-clause-fails : goal.returns-in-Err-clause-fails
returns-in-Err-clause-fails g c = put_if_fails g.row.V c.args.cache.now c.cache.inside.cells c.args.self.now c.self.inside.seat c.swap_if.new.seat c.cache.view_is c.self.view_is c.requires.of c.args.key c.args.since c.args.value (Err c.in-Err.why) c.in-Err.ensures.called

pub invariant_of-self : goal.invariant_of-self
invariant_of-self g c =
    let made = put_if_means g.row.V c.args.cache.now c.cache.inside.cells c.args.self.now c.self.inside.seat c.cache.view_is c.self.view_is c.requires.of c.swap_if.new.seat c.args.key c.args.since c.args.value (Ok c.in-Ok.replaced.at) c.in-Ok.ensures.called in
    (c.in-Ok.ensures.rested, counts_keeps g.row.V c.swap_if.new.books c.swap_if.new.seat c.in-Ok.replaced.at c.in-Ok.ensures.rested made.at_end)

pub invariant_of-self-in-Err : goal.invariant_of-self-in-Err
invariant_of-self-in-Err g c =
    let leaves = refused_if g.row.V _ _ c.args.key c.args.since c.args.value c.in-Err.why (put_if_means g.row.V c.args.cache.now c.cache.inside.cells c.args.self.now c.self.inside.seat c.cache.view_is c.self.view_is c.requires.of c.swap_if.new.seat c.args.key c.args.since c.args.value (Err c.in-Err.why) c.in-Err.ensures.called) in
    (c.in-Err.ensures.rested, same_keeps g.row.V c.self.inside.books c.swap_if.new.books c.args.self.now c.self.inside.seat c.swap_if.new.seat c.self.inside.moment c.self.view_is c.self.invariant.0 c.self.invariant.1 c.in-Err.ensures.rested leaves)
