use Rattle.std.proofs.Common.{arith, ◌≡◌, ◌∙◌, [], refl, subst, sym}
use Rattle.mc_words.specs.Places.{word_count}
use Rattle.mc_words.specs.declared.shape.Shape.{Shape}
use Rattle.mc_writer.proofs.Pens.{same_then, shape_kept}
use Rattle.mc_writer.proofs.Picked.{picks_none}
use Rattle.mc_writer.proofs.pen.Pen.read_round.Goals as goal

pub loop-i-init : goal.loop-i-init
loop-i-init g c = record {
  same = record { cells = refl; seat = refl };
  shape = refl;
  waits = λ k v s room waits. waits;
  most = refl;
  picked = ([], picks_none g.row.V c.args.books.now c.args.pick.now c.args.self.now c.requires.shape c.requires.known c.requires.picking);
}

pub read_used-requires : goal.read_used-requires
read_used-requires g c =
    let on = c.loop-i.invariant.picked in
    let there = sym (shape_kept c.loop-i.invariant.same) in
    let next = c.in-Some.ensures on.0 on.1.picking in
    (omega arith, ((subst (λ (sh : Shape). c.recency_start-start.result ≡ word_count g.row.V sh) there c.recency_start-start.ensures.value, c.recency_start-start.ensures.small), (next.0, (c.args.self.now, on.0, on.1, next.2, next.1))))

pub loop-i-preserved : goal.loop-i-preserved
loop-i-preserved g c =
    let on = c.loop-i.invariant.picked in
    let next = c.in-Some.ensures on.0 on.1.picking in
    record {
      same = same_then c.loop-i.invariant.same c.read_used.ensures.same;
      shape = c.read_used.ensures.shape ∙ c.loop-i.invariant.shape;
      waits = λ k v s room waits. c.read_used.ensures.waits k v s room (c.loop-i.invariant.waits k v s room waits);
      most = c.read_used.ensures.most ∙ c.loop-i.invariant.most;
      picked = (_, (c.read_used.ensures.picked c.args.self.now on.0 on.1 next.2).1);
    }

pub returns-clause-picked : goal.returns-clause-picked
returns-clause-picked g c =
    let on = c.loop-i.invariant.picked in (on.0, on.1, c.in_default.ensures on.0 on.1.picking)
