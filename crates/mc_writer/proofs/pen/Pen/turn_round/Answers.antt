use Rattle.std.proofs.Common.{rules, arith, ◌≡◌, ◌∙◌, append-nil, refl, subst, sym}
use Rattle.mc_words.specs.Places.{word_count}
use Rattle.mc_words.specs.declared.shape.Shape.{Shape}
use Rattle.mc_shared.proofs.GrownNotes.{grow_self}
use Rattle.mc_writer.proofs.Pens.{same_then, shape_kept}
use Rattle.mc_writer.proofs.pen.Pen.turn_round.Goals as goal

pub turn_hand-requires : goal.turn_hand-requires
turn_hand-requires g c =
    let r = c.requires.sweeping in
    let there = sym (shape_kept c.loop-i.invariant.same) in
    (omega arith, (search rules, ((subst (λ (sh : Shape). c.recency_start-start.result ≡ word_count g.row.V sh) there c.recency_start-start.ensures.value, c.recency_start-start.ensures.small), (sym c.next.ensures.value ∙ c.in-Some.is, (r.0, r.1, c.args.self.now, c.loop-i.invariant.turned r.0 r.1 r.2, r.3 ∙ there)))))

pub loop-i-init : goal.loop-i-init
loop-i-init g c = record {
  same = record { cells = refl; seat = refl };
  turned = λ b call begun. record { readings = _; same = record { cells = refl; seat = refl }; of = refl; acts = sym (append-nil c.args.self.now.seat.now.acts); notes = grow_self c.args.self.now.seat.now.notes; sweeping = begun };
}

pub loop-i-preserved : goal.loop-i-preserved
loop-i-preserved g c = record {
  same = same_then c.loop-i.invariant.same c.turn_hand.ensures.same;
  turned = λ b call begun. c.turn_hand.ensures.turned b call c.args.self.now (c.loop-i.invariant.turned b call begun);
}

pub returns-clause-over : goal.returns-clause-over
returns-clause-over g c b call s rs on = c.in_default.ensures.over b call s rs on
