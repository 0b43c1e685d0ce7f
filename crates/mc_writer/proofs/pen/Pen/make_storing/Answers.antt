use Rattle.std.proofs.Common.{arith, ◌<◌, sym, subst}
use Rattle.mc_words.specs.declared.policy.Policy.{Policy}
use Rattle.mc_words.specs.Checks.{policy_of}
use Rattle.mc_words.specs.KeyParts.{HasParts}
use Rattle.mc_words.specs.declared.shape.Shape.{Shape}
use Rattle.mc_plan.specs.Decisions.{acts_of_moves, filling_acts, moves_of}
use Rattle.mc_writer.specs.Inside.Pens.{IsDue, HasMade}
use Rattle.mc_writer.proofs.Pens.{first_due, made_then, rest_due, shape_kept}
use Rattle.mc_writer.proofs.pen.Pen.make_storing.Goals as goal

pub make_moves_of-requires : goal.make_moves_of-requires
make_moves_of-requires g c =
    let storing = c.args.storing in
    let sh = c.args.self.now.cells.now.layout.shape in
    let due = first_due g.row.V (acts_of_moves (moves_of c.args.books.now.far.value.moves.items storing.moves)) (filling_acts (policy_of c.args.books.now.checked) sh c.args.key c.args.value.now storing.at storing.item storing.place) _ c.requires.due in
    (omega arith, due)

pub make_filling-requires : goal.make_filling-requires
make_filling-requires g c =
    let storing = c.args.storing in
    let made = c.make_moves_of.ensures.made in
    let there = sym (shape_kept made.same) in
    let due = rest_due (filling_acts (policy_of c.args.books.now.checked) c.args.self.now.cells.now.layout.shape c.args.key c.args.value.now storing.at storing.item storing.place) made c.requires.due in (
      omega arith,
      (
        omega (arith, c.requires.width),
        (
          c.requires.width,
          (
            subst (λ (sh : Shape). storing.item < sh.items) there c.requires.item,
            (
              subst (λ (policy : Policy). IsDue g.row.V (filling_acts policy c.make_moves_of.new.self.cells.now.layout.shape c.args.key c.args.value.now storing.at storing.item storing.place) c.make_moves_of.new.self) (sym c.policy-policy.ensures)
                  (subst (λ (sh : Shape). IsDue g.row.V (filling_acts (policy_of c.args.books.now.checked) sh c.args.key c.args.value.now storing.at storing.item storing.place) c.make_moves_of.new.self) there due),
              subst (λ (sh : Shape). HasParts sh c.args.key c.args.parts) there c.requires.parts,
            ),
          ),
        ),
      ),
    )

pub returns : goal.returns
returns g c =
    let storing = c.args.storing in
    let made = c.make_moves_of.ensures.made in
    let there = subst (λ (sh : Shape). HasMade g.row.V (filling_acts c.policy-policy.result sh c.args.key c.args.value.now storing.at storing.item storing.place) c.make_moves_of.new.self c.make_filling.new.self) (shape_kept made.same) c.make_filling.ensures.made in
    let filled = subst (λ (policy : Policy). HasMade g.row.V (filling_acts policy c.args.self.now.cells.now.layout.shape c.args.key c.args.value.now storing.at storing.item storing.place) c.make_moves_of.new.self c.make_filling.new.self) c.policy-policy.ensures there in
    record { made = made_then made filled }
