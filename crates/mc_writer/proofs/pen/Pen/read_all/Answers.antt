use Rattle.std.proofs.Common.{ℕ, ◌≡◌, ◌+◌, ◌-◌, ◌++◌, List, ap, arith, subst, sym}
use Rattle.mc_words.specs.Checks.{shape_of}
use Rattle.mc_words.specs.Places.{word_count}
use Rattle.mc_words.specs.declared.checked.Checked.{Checked}
use Rattle.mc_words.specs.declared.shape.Shape.{Shape}
use Rattle.mc_search.specs.Sweeps.{Swept}
use Rattle.mc_writer.specs.Inside.Rounds.{CanRead}
use Rattle.mc_writer.specs.declared.pen.Pen.{Pen}
use Rattle.mc_writer.proofs.Pens.{shape_kept}
use Rattle.mc_writer.proofs.Rounds.{Covers, can_fewer, can_go_on, covers_round, read_found, read_then}
use Rattle.mc_writer.proofs.pen.Pen.read_all.Goals as goal
use Rattle.mc_writer.proofs.pen.Pen.read_all.Goals.{After-items-items}
use Rattle.mc_writer.proofs.pen.Pen.read_all.Given.{Over}

-- what is left for the items from the hand on
ahead : (g : Over) (c : After-items-items g) (before : Pen g.row.V) (rs : List Swept) (more : ℕ) → CanRead g.row.V c.args.books.now before c.args.self.now rs (more + (shape_of c.args.books.now.checked).items)
    → CanRead g.row.V c.args.books.now before c.args.self.now rs (more + c.args.hand + (c.items-items.result - c.args.hand))
ahead g c before rs more can =
    can_fewer g.row.V c.args.books.now before c.args.self.now rs (more + (shape_of c.args.books.now.checked).items) (more + c.args.hand + (c.items-items.result - c.args.hand)) can (omega (arith, c.requires.hand, c.items-items.ensures))

pub read_items-requires : goal.read_items-requires
read_items-requires g c =
    let r = c.requires.can in
    let at = (goal.at.read_items-requires g c).After-items-items in
    (omega arith, (c.requires.start, ((omega (arith, c.requires.hand, c.items-items.ensures), omega (arith, c.items-items.ensures)), (r.0, r.1, r.2 + c.args.hand, ahead g at r.0 r.1 r.2 r.3))))

pub read_items-requires-in-None : goal.read_items-requires-in-None
read_items-requires-in-None g c =
    let V = g.row.V in
    let r = c.requires.can in
    let at = (goal.at.read_items-requires-in-None g c).After-items-items in
    let one = c.in-None.ensures.read r.0 r.1 (r.2 + c.args.hand) (ahead g at r.0 r.1 r.2 r.3) in
    let can = can_fewer V c.read_items.new.books r.0 c.read_items.new.self (r.1 ++ one.readings) (r.2 + c.args.hand) (r.2 + (c.args.hand - 0)) (can_go_on V c.read_items.new.books r.0 c.read_items.new.self r.1 c.args.hand c.items-items.result (r.2 + c.args.hand) one) (omega arith) in
    let start = subst (λ (sh : Shape). c.args.start ≡ word_count V sh) (sym (shape_kept c.read_items.ensures.same)) c.requires.start.0 in
    let few = ap (λ (x : Checked). (shape_of x).items) c.read_items.ensures.shape in
    (omega arith, ((start, c.requires.start.1), ((omega arith, omega (arith, c.requires.hand, few)), (r.0, r.1 ++ one.readings, r.2, can))))

pub returns-in-Some-clause-read : goal.returns-in-Some-clause-read
returns-in-Some-clause-read g c before rs more can =
    let at = (goal.at.returns-in-Some-clause-read g c).After-items-items in
    let one = c.in-Some.ensures.read before rs (more + c.args.hand) (ahead g at before rs more can) in
    read_found g.row.V c.read_items.new.books before c.read_items.new.self rs c.args.hand c.items-items.result (more + c.args.hand) 0 (shape_of c.args.books.now.checked).items more c.in-Some.found one (omega arith)

pub returns-in-None-clause-read : goal.returns-in-None-clause-read
returns-in-None-clause-read g c before rs more can =
    let V = g.row.V in
    let hand = c.args.hand in
    let items = (shape_of c.args.books.now.checked).items in
    let n = c.items-items.result in
    let at = (goal.at.returns-in-None-clause-read g c).After-items-items in
    let one = c.in-None.ensures.read before rs (more + hand) (ahead g at before rs more can) in
    let next = can_fewer V c.read_items.new.books before c.read_items.new.self (rs ++ one.readings) (more + hand) (more + (hand - 0)) (can_go_on V c.read_items.new.books before c.read_items.new.self rs hand n (more + hand) one) (omega arith) in
    let two = c.read_items-in-None.ensures.read before (rs ++ one.readings) more next in
    let covers = subst (λ (x : ℕ). Covers hand x 0 hand 0 items) (sym c.items-items.ensures) (covers_round hand items) in
    read_then V c.read_items.new.books c.read_items-in-None.new.books before c.read_items.new.self c.read_items-in-None.new.self rs hand n (more + hand) 0 hand more 0 items more c.read_items-in-None.result c.read_items-in-None.ensures.shape (omega arith) (λ none. covers) one two
