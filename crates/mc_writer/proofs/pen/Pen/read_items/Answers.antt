use Rattle.std.proofs.Common.{ℕ, ◌≡◌, ◌+◌, ◌-◌, ◌<◌, ◌∙◌, ◌++◌, Some, None, arith, refl, subst, sym}
use Rattle.mc_words.specs.Checks.{shape_of}
use Rattle.mc_words.specs.Places.{word_count}
use Rattle.mc_words.specs.declared.checked.Checked.{Checked}
use Rattle.mc_words.specs.declared.shape.Shape.{Shape}
use Rattle.mc_writer.specs.Inside.Rounds.{HasReadOn}
use Rattle.mc_writer.proofs.Pens.{same_then, shape_kept}
use Rattle.mc_writer.proofs.Rounds.{can_fewer, can_go_on, covers_next, read_nothing, read_then}
use Rattle.mc_writer.proofs.pen.Pen.read_items.Goals as goal

pub loop-i-init : goal.loop-i-init
loop-i-init g c = record {
  same = record { cells = refl; seat = refl };
  shape = refl;
  read = λ before rs more can. read_nothing g.row.V c.args.books.now before c.args.self.now rs c.args.from (more + (c.args.to - c.args.from)) can;
}

pub read_if_used-requires : goal.read_if_used-requires
read_if_used-requires g c =
    let r = c.requires.can in
    let i = c.loop-i.i in
    let more = r.2 in
    let on = c.loop-i.invariant.read r.0 r.1 more r.3 in
    let can = can_fewer g.row.V c.loop-i.books r.0 c.loop-i.self (r.1 ++ on.readings) (more + (c.args.to - i)) (more + (c.args.to - (i + 1)) + 1) (can_go_on g.row.V c.loop-i.books r.0 c.loop-i.self r.1 c.args.from i (more + (c.args.to - i)) on) (omega arith) in
    let start = subst (λ (sh : Shape). c.args.start ≡ word_count g.row.V sh) (sym (shape_kept c.loop-i.invariant.same)) c.requires.start.0 in
    let inside = subst (λ (x : Checked). i < (shape_of x).items) (sym c.loop-i.invariant.shape) (omega (arith, c.loop-i-test.true, c.requires.range.1)) in
    (omega arith, ((start, c.requires.start.1), (inside, (r.0, r.1 ++ on.readings, more + (c.args.to - (i + 1)), can))))

pub loop-i-preserved : goal.loop-i-preserved
loop-i-preserved g c = record {
  same = same_then c.loop-i.invariant.same c.read_if_used.ensures.same;
  shape = c.read_if_used.ensures.shape ∙ c.loop-i.invariant.shape;
  read = λ before rs more can.
      let V = g.row.V in
      let i = c.loop-i.i in
      let few = more + (c.args.to - (i + 1)) in
      let on = c.loop-i.invariant.read before rs more can in
      let now = can_fewer V c.loop-i.books before c.loop-i.self (rs ++ on.readings) (more + (c.args.to - i)) (few + 1) (can_go_on V c.loop-i.books before c.loop-i.self rs c.args.from i (more + (c.args.to - i)) on) (omega arith) in
      let next = c.in_default.ensures.read before (rs ++ on.readings) few now in
      read_then V c.loop-i.books c.read_if_used.new.books before c.loop-i.self c.read_if_used.new.self rs c.args.from i (more + (c.args.to - i)) i (i + 1) few c.args.from (i + 1) few None c.read_if_used.ensures.shape (omega arith) (λ none. covers_next c.args.from i) on next;
}

pub returns-in-Some-clause-read : goal.returns-in-Some-clause-read
returns-in-Some-clause-read g c before rs more can =
    let V = g.row.V in
    let i = c.loop-i.i in
    let few = more + (c.args.to - (i + 1)) in
    let on = c.loop-i.invariant.read before rs more can in
    let now = can_fewer V c.loop-i.books before c.loop-i.self (rs ++ on.readings) (more + (c.args.to - i)) (few + 1) (can_go_on V c.loop-i.books before c.loop-i.self rs c.args.from i (more + (c.args.to - i)) on) (omega arith) in
    let next = c.in-Some.ensures.read before (rs ++ on.readings) few now in
    read_then V c.loop-i.books c.read_if_used.new.books before c.loop-i.self c.read_if_used.new.self rs c.args.from i (more + (c.args.to - i)) i (i + 1) few c.args.from c.args.to more (Some c.in-Some.found) c.read_if_used.ensures.shape (omega arith) (λ none. absurd (cc)) on next

pub returns-clause-read : goal.returns-clause-read
returns-clause-read g c before rs more can =
    let on = c.loop-i.invariant.read before rs more can in
    let P : ℕ → ℕ → Type 0 = λ i n. HasReadOn g.row.V c.loop-i.books before c.loop-i.self rs c.args.from i n None in
    let last : c.loop-i.i ≡ c.args.to = omega (arith, c.loop-i-test.false, c.loop-i.auto.i-end c.requires.range.0) in
    let left : more + (c.args.to - c.loop-i.i) ≡ more = omega (arith, last) in
    subst (λ (i : ℕ). P i more) last (subst (P c.loop-i.i) left on)
