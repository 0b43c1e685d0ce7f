use Rattle.std.proofs.Common.{◌∷◌, [], ◌++◌, Some, None, subst, sym}
use Rattle.mc_words.specs.declared.history.Reply.{Reply}
use Rattle.mc_cache.specs.Plain.{TellsNow, history}
use Rattle.mc_cache.proofs.PlainCalls.{held_now, moment_tells}
use Rattle.mc_cache.proofs.writer.Writer.peek.Goals as goal
use Rattle.mc_cache.proofs.writer.Writer.peek.Goals.{in-Some, in-None}

pub returns-clause-plain : goal.returns-clause-plain
returns-clause-plain g c =
    let V = g.row.V in
    let held = held_now V c.args.cache.now c.cache.inside.cells c.args.self.now c.self.inside.seat c.cache.view_is c.self.view_is c.requires.of c.args.key in
    let at = moment_tells V c.self.inside.books c.args.self.now c.self.inside.seat c.self.inside.moment c.self.view_is c.self.invariant.0 c.self.invariant.1 in
    elim c.match-look.branch [
      | in-Some w ↦ subst (λ (reply : Reply V). TellsNow (history V c.args.self.now) c.args.key reply) (sym w.result-is) (held (Some (w.in-Some.held.value ++ w.in-Some.held.since ∷ [])) w.in-Some.ensures.found, at)
      | in-None w ↦ subst (λ (reply : Reply V). TellsNow (history V c.args.self.now) c.args.key reply) (sym w.result-is) (held None w.in-None.ensures.none, at)
    ]
