use Rattle.std.proofs.Common.{ℕ, ◌≡◌, ◌<◌, ◌∙◌, ◌∷◌, ◌++◌, [], List, refl, ap, arith, sym, subst, append_assoc}
use Rattle.mc_theory.specs.Acts.{IsAllowed}
use Rattle.mc_theory.specs.Lists.{Made, state_of}
use Rattle.mc_theory.specs.declared.act.Act.TheVariants.{Hand}
use Rattle.mc_search.specs.Sweeps.{Swept, hand_acts}
use Rattle.mc_plan.proofs.Calls.SweptStates.{hand_acts_then}
use Rattle.mc_shared.proofs.GrownNotes.{grow_trans, grow_acted}
use Rattle.mc_words.specs.Checks.{shape_of}
use Rattle.mc_words.specs.declared.shape.Shape.{Shape}
use Rattle.mc_writer.proofs.Pens.{same_then, shape_kept}
use Rattle.mc_writer.proofs.Picked.{read_may}
use Rattle.mc_writer.proofs.pen.Pen.read_used.Goals as goal

pub turn_hand_unless_clear-bit-requires : goal.turn_hand_unless_clear-bit-requires
turn_hand_unless_clear-bit-requires g c =
    let pen = c.args.self.now in
    let sh = pen.cells.now.layout.shape in
    let r = c.requires.picked in
    let before = r.0 in
    let h = r.2 in
    let known = h.known in
    let was : before.cells.now.layout.shape ≡ sh = sym (shape_kept h.same) in
    let inside : c.args.i < before.cells.now.layout.shape.items = subst (λ (x : Shape). c.args.i < x.items) h.shape (subst (λ (n : ℕ). c.args.i < n) known.items c.requires.in_use.0) in
    let may = read_may g.row.V before.cells.now.layout.shape before.seat.now.acts r.1 c.args.i known.quiet.quiet inside in
    let now = subst (λ (x : Shape). IsAllowed x (state_of g.row.V x (before.seat.now.acts ++ hand_acts r.1)) (Hand c.args.i)) was may in
    (omega arith, (pen.of, (c.requires.start, subst (λ (xs : List Made). IsAllowed sh (state_of g.row.V sh xs) (Hand c.args.i)) (sym h.acts) now)))

pub after_read-requires : goal.after_read-requires
after_read-requires g c =
    let r = c.requires.picked in
    record { books = (g.row.V, _, r.2.known); in_use = c.requires.in_use; picking = (r.1, r.2.picking, r.4, r.3) }

pub returns-clause-picked : goal.returns-clause-picked
returns-clause-picked g c before rs h none =
    let bit = c.turn_hand_unless_clear-bit.result in
    let read : Swept = record { item = c.args.i; bit = bit } in
    let acts : c.turn_hand_unless_clear-bit.new.writer.acts ≡ before.seat.now.acts ++ hand_acts (rs ++ read ∷ []) =
    c.turn_hand_unless_clear-bit.ensures.acted.acts
    ∙ ap (λ (xs : List Made). xs ++ record { act = Hand c.args.i; bit = bit } ∷ []) h.acts
    ∙ append_assoc before.seat.now.acts (hand_acts rs) (record { act = Hand c.args.i; bit = bit } ∷ [])
    ∙ ap (λ (xs : List Made). before.seat.now.acts ++ xs) (sym (hand_acts_then rs (read ∷ []))) in (
      bit,
      record {
        same = same_then h.same (record { cells = refl; seat = refl });
        of = c.turn_hand_unless_clear-bit.ensures.acted.of ∙ h.of;
        acts = acts;
        notes = grow_trans h.notes (grow_acted c.turn_hand_unless_clear-bit.ensures.acted);
        shape = ap shape_of c.after_read.ensures.shape ∙ h.shape;
        known = c.after_read.ensures.books g.row.V _ h.known;
        picking = c.after_read.ensures.picking rs h.picking none;
      },
    )

pub returns-clause-waits : goal.returns-clause-waits
returns-clause-waits g c k v s room waits = c.after_read.ensures.waits g.row.V k v s room waits
