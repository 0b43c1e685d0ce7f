use Rattle.std.proofs.Common.{[], List, subst}
use Rattle.mc_core.specs.Inside.Parts.{MakesEvents}
use Rattle.mc_theory.specs.Plain.{events_made}
use Rattle.mc_theory.specs.declared.event.Done.{Done}
use Rattle.mc_core.proofs.EventLists.{made_then}
use Rattle.mc_core.proofs.parts.Parts.run.Goals as goal

pub returns-clause-ok : goal.returns-clause-ok
returns-clause-ok g c =
    let done = (c.in_ok-done.ensures {u = tt}).items in
    let all = c.make_all-stopped in
    let events = events_made c.args.events.now all.result in
    let made = subst (λ (before : List (Done g.row.V)). MakesEvents {V = g.row.V} c.reserve.new.self all.new.self events before all.new.done.items) done all.ensures.made in
    (made_then c.args.self.now c.reserve.new.self all.new.self [] events [] [] all.new.done.items c.reserve.ensures.made made, all.ensures.stops)
