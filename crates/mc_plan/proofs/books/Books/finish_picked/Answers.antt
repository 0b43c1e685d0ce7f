use Rattle.std.proofs.Common.{◌≡◌, ◌∙◌, None, refl, sym}
use Rattle.mc_search.specs.Sweeps.{victim_of}
use Rattle.mc_plan.specs.WholeCalls.{PutCall}
use Rattle.mc_plan.proofs.Calls.AfterSweep.{recent_planned}
use Rattle.mc_plan.proofs.Calls.Picks.{picked_by, replacing_picked, searched_picked}
use Rattle.mc_plan.proofs.books.Books.finish_picked.Goals as goal

pub replace-requires : goal.replace-requires
replace-requires g c =
    let r = c.requires.over in
    let told = c.victim.ensures r.2 r.3.picking in
    record { books = (r.0, PutCall c.args.key r.0, r.1, r.2, replacing_picked g.row.V c.args.self.now c.args.pick.now c.args.key r.0 c.args.room r.1 r.2 c.in-Some.item r.3 told.0 (sym told.1 ∙ c.in-Some.is), r.5) }

pub returns-in-Some-clause-finished : goal.returns-in-Some-clause-finished
returns-in-Some-clause-finished g c v s rs on over same =
    let told = c.victim.ensures rs on.picking in
    c.replace.ensures.replaced v (PutCall c.args.key v) s rs (replacing_picked g.row.V c.args.self.now c.args.pick.now c.args.key v c.args.room s rs c.in-Some.item on told.0 (sym told.1 ∙ c.in-Some.is)) same

pub returns-in-None-clause-finished : goal.returns-in-None-clause-finished
returns-in-None-clause-finished g c v s rs on over same =
    let b = c.args.self.now in
    let told = c.victim.ensures rs on.picking in
    let none : victim_of rs ≡ None = sym told.1 ∙ c.in-None.is in
    let policy = picked_by g.row.V b c.args.pick.now c.args.key v c.args.room s rs on in
    recent_planned g.row.V b c.args.key v c.args.room (PutCall c.args.key v) s rs b.hand on.waits refl (searched_picked g.row.V b c.args.pick.now c.args.key v c.args.room s rs on told.0) over none (λ clock. absurd (cc (sym clock ∙ policy))) on.waits.known.inside
