use Rattle.std.proofs.Common.{◌≡◌, ◌∙◌, ◌∷◌, ◌++◌, [], List, refl, ap, arith, sym, subst, append_assoc}
use Rattle.mc_theory.specs.Acts.{IsAllowed}
use Rattle.mc_theory.specs.Lists.{Made, state_of}
use Rattle.mc_theory.specs.declared.act.Act.TheVariants.{Hand}
use Rattle.mc_search.specs.Sweeps.{Swept, hand_acts}
use Rattle.mc_plan.proofs.Calls.DueActs.{sweep_may}
use Rattle.mc_plan.proofs.Calls.SweptStates.{hand_acts_then}
use Rattle.mc_shared.proofs.GrownNotes.{grow_trans, grow_acted}
use Rattle.mc_words.specs.declared.shape.Shape.{Shape}
use Rattle.mc_plan.specs.Books.{IsSweeping}
use Rattle.mc_writer.proofs.Pens.{same_then, shape_kept}
use Rattle.mc_writer.proofs.pen.Pen.turn_hand.Goals as goal

pub turn_hand_unless_clear-bit-requires : goal.turn_hand_unless_clear-bit-requires
turn_hand_unless_clear-bit-requires g c =
    let pen = c.args.self.now in
    let sh = pen.cells.now.layout.shape in
    let r = c.requires.turned in
    let was : r.2.cells.now.layout.shape ≡ sh = sym (shape_kept r.3.same) in
    let on = subst (λ (x : Shape). IsSweeping g.row.V r.0 c.args.waiting.now r.1 (state_of g.row.V x r.2.seat.now.acts) r.3.readings) was r.3.sweeping in
    let may = (sweep_may g.row.V sh r.0 c.args.waiting.now r.1 r.2.seat.now.acts r.3.readings r.4 on).1 c.args.i c.requires.next in
    let at : r.2.seat.now.acts ++ hand_acts r.3.readings ≡ pen.seat.now.acts = sym r.3.acts in
    (omega arith, (pen.of, (c.requires.start, subst (λ (xs : List Made). IsAllowed sh (state_of g.row.V sh xs) (Hand c.args.i)) at may)))

pub after-requires : goal.after-requires
after-requires g c =
    let r = c.requires.turned in
    (omega arith, (r.0, r.1, _, r.3.readings, c.args.i, r.3.sweeping, c.requires.next))

pub returns-clause-turned : goal.returns-clause-turned
returns-clause-turned g c b call before turned =
    let read : Swept = record { item = c.args.i; bit = c.turn_hand_unless_clear-bit.result } in
    let acts : c.turn_hand_unless_clear-bit.new.writer.acts ≡ before.seat.now.acts ++ hand_acts (turned.readings ++ read ∷ []) =
    c.turn_hand_unless_clear-bit.ensures.acted.acts
    ∙ ap (λ (xs : List Made). xs ++ record { act = Hand c.args.i; bit = c.turn_hand_unless_clear-bit.result } ∷ []) turned.acts
    ∙ append_assoc before.seat.now.acts (hand_acts turned.readings) (record { act = Hand c.args.i; bit = c.turn_hand_unless_clear-bit.result } ∷ [])
    ∙ ap (λ (xs : List Made). before.seat.now.acts ++ xs) (sym (hand_acts_then turned.readings (read ∷ []))) in
    record {
      readings = turned.readings ++ read ∷ [];
      same = same_then turned.same (record { cells = refl; seat = refl });
      of = c.turn_hand_unless_clear-bit.ensures.acted.of ∙ turned.of;
      acts = acts;
      notes = grow_trans turned.notes (grow_acted c.turn_hand_unless_clear-bit.ensures.acted);
      sweeping = c.after.ensures.swept b call _ turned.readings c.args.i turned.sweeping c.requires.next;
    }
