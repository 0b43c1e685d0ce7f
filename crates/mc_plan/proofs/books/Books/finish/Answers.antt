use Rattle.std.proofs.Common.{◌≡◌, ◌∙◌, Some, None, arith, sym}
use Rattle.mc_words.specs.Checks.{shape_of}
use Rattle.mc_search.specs.Sweeps.{victim_of}
use Rattle.mc_plan.proofs.Calls.SweptStates.{over_without}
use Rattle.mc_plan.proofs.Calls.AfterSweep.{recent_planned, replacing_swept, swept_by}
use Rattle.mc_plan.proofs.books.Books.finish.Goals as goal

pub returns-in-Some-clause-finished : goal.returns-in-Some-clause-finished
returns-in-Some-clause-finished g c call s rs on over same =
    let b = c.args.self.now in
    let items = (shape_of b.checked).items in
    let found : victim_of rs ≡ Some c.in-Some.item = sym (c.victim.ensures items s.hand rs on.has) ∙ c.in-Some.is in
    c.replace.ensures.replaced c.args.waiting.now.value call s rs (replacing_swept g.row.V b c.args.waiting.now call s rs c.in-Some.item c.hand-self.result on found (c.hand-self.ensures.stands items s.hand rs on.has)) same

pub returns-in-None-clause-finished : goal.returns-in-None-clause-finished
returns-in-None-clause-finished g c call s rs on over same =
    let b = c.args.self.now in
    let items = (shape_of b.checked).items in
    let none : victim_of rs ≡ None = sym (c.victim.ensures items s.hand rs on.has) ∙ c.in-None.is in
    let home = c.hand-self.ensures.home items s.hand rs on.has (over_without items rs over none) in
    let stands = on.waits.known.stands in
    recent_planned g.row.V b c.args.waiting.now.key c.args.waiting.now.value c.args.waiting.now.room call s rs c.hand-self.result on.waits on.called (swept_by g.row.V b c.args.waiting.now call s rs on) over none (λ clock. home) (omega (arith, home, stands))

pub replace-requires : goal.replace-requires
replace-requires g c =
    let r = c.requires.over in
    let b = c.args.self.now in
    let items = (shape_of b.checked).items in
    let found : victim_of r.2 ≡ Some c.in-Some.item = sym (c.victim.ensures items r.1.hand r.2 r.3.has) ∙ c.in-Some.is in
    record { books = (c.args.waiting.now.value, r.0, r.1, r.2, replacing_swept g.row.V b c.args.waiting.now r.0 r.1 r.2 c.in-Some.item c.hand-self.result r.3 found (c.hand-self.ensures.stands items r.1.hand r.2 r.3.has), r.5) }
