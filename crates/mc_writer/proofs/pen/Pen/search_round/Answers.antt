use Rattle.std.proofs.Common.{◌≡◌, ◌+◌, ◌∙◌, [], ap, arith, subst, sym}
use Rattle.mc_words.specs.Checks.{policy_of, shape_of}
use Rattle.mc_words.specs.Places.{word_count}
use Rattle.mc_words.specs.declared.checked.Checked.{Checked}
use Rattle.mc_words.specs.declared.shape.Shape.{Shape}
use Rattle.mc_writer.proofs.Pens.{shape_kept}
use Rattle.mc_writer.proofs.Rounds.{can_begin, can_fewer, can_go_on, ended_first, ended_second}
use Rattle.mc_writer.proofs.pen.Pen.search_round.Goals as goal

pub read_all-requires : goal.read_all-requires
read_all-requires g c =
    let b = c.args.books.now in
    (omega arith, ((c.recency_start-start.ensures.value, c.recency_start-start.ensures.small), (omega (arith, c.hand-hand.ensures.inside), (c.args.self.now, [], (shape_of b.checked).items, can_begin g.row.V b c.args.self.now c.requires.layout c.requires.known))))

pub read_all-requires-in-None : goal.read_all-requires-in-None
read_all-requires-in-None g c =
    let V = g.row.V in
    let p = c.args.self.now in
    let b = c.args.books.now in
    let b1 = c.read_all.new.books in
    let items = (shape_of b.checked).items in
    let same = ap (λ (x : Checked). (shape_of x).items) c.read_all.ensures.shape in
    let one = c.in-None.ensures.read p [] items (can_begin V b p c.requires.layout c.requires.known) in
    let can = can_fewer V b1 p c.read_all.new.self one.readings items (0 + (shape_of b1.checked).items) (can_go_on V b1 p c.read_all.new.self [] 0 items items one) (omega (arith, same)) in
    let start = subst (λ (sh : Shape). c.recency_start-start.result ≡ word_count V sh) (sym (shape_kept c.read_all.ensures.same)) c.recency_start-start.ensures.value in
    (omega arith, ((start, c.recency_start-start.ensures.small), (omega (arith, c.hand-hand.ensures.inside, same), (p, one.readings, 0, can))))

pub returns-in-Some-clause-ended : goal.returns-in-Some-clause-ended
returns-in-Some-clause-ended g c =
    let b = c.args.books.now in
    let items = (shape_of b.checked).items in
    ended_first g.row.V c.read_all.new.books c.args.self.now c.read_all.new.self items items c.in-Some.found (c.in-Some.ensures.read c.args.self.now [] items (can_begin g.row.V b c.args.self.now c.requires.layout c.requires.known))

pub returns-in-None-clause-ended : goal.returns-in-None-clause-ended
returns-in-None-clause-ended g c =
    let V = g.row.V in
    let p = c.args.self.now in
    let b = c.args.books.now in
    let b1 = c.read_all.new.books in
    let b2 = c.read_all-in-None.new.books in
    let items = (shape_of b.checked).items in
    let same = ap (λ (x : Checked). (shape_of x).items) c.read_all.ensures.shape in
    let same2 = ap (λ (x : Checked). (shape_of x).items) c.read_all-in-None.ensures.shape in
    let one = c.in-None.ensures.read p [] items (can_begin V b p c.requires.layout c.requires.known) in
    let can = can_fewer V b1 p c.read_all.new.self one.readings items (0 + (shape_of b1.checked).items) (can_go_on V b1 p c.read_all.new.self [] 0 items items one) (omega (arith, same)) in
    let two = c.read_all-in-None.ensures.read p one.readings 0 can in
    let clock = ap policy_of (c.read_all-in-None.ensures.shape ∙ c.read_all.ensures.shape) ∙ c.requires.clock in
    ended_second V b1 b2 p c.read_all.new.self c.read_all-in-None.new.self items (shape_of b1.checked).items items 0 c.read_all-in-None.result c.read_all-in-None.ensures.shape (sym (same2 ∙ same)) (sym same2) clock one two
