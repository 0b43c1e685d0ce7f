use Rattle.std.proofs.Common.{◌<◌, arith, sym, subst}
use Rattle.mc_words.specs.Checks.{policy_of}
use Rattle.mc_words.specs.KeyParts.{HasParts}
use Rattle.mc_words.specs.declared.shape.Shape.{Shape}
use Rattle.mc_plan.specs.Decisions.{storing_acts}
use Rattle.mc_plan.specs.Plans.{evict_acts}
use Rattle.mc_writer.specs.Inside.Pens.{IsDue, HasMade}
use Rattle.mc_writer.proofs.Pens.{first_due, made_then, rest_due, shape_kept}
use Rattle.mc_writer.proofs.pen.Pen.make_replacement.Goals as goal

pub take_out-requires : goal.take_out-requires
take_out-requires g c = (omega arith, (first_due g.row.V (evict_acts c.args.taken.victim.key c.args.taken.victim.place) (storing_acts (policy_of c.args.books.now.checked) c.args.books.now.far.value.moves.items c.args.self.now.cells.now.layout.shape c.args.key c.args.value.now c.args.taken.storing) _ c.requires.due, c.requires.victim))

pub make_storing-requires : goal.make_storing-requires
make_storing-requires g c =
    let shape = sym (shape_kept c.take_out.ensures.made.same) in
    let due = rest_due (storing_acts (policy_of c.args.books.now.checked) c.args.books.now.far.value.moves.items c.args.self.now.cells.now.layout.shape c.args.key c.args.value.now c.args.taken.storing) c.take_out.ensures.made c.requires.due in (
      omega arith,
      (
        omega (arith, c.requires.width.most),
        (
          c.requires.width,
          (subst (λ (sh : Shape). c.args.taken.storing.item < sh.items) shape c.requires.item, (subst (λ (sh : Shape). IsDue g.row.V (storing_acts (policy_of c.args.books.now.checked) c.args.books.now.far.value.moves.items sh c.args.key c.args.value.now c.args.taken.storing) c.take_out.new.self) shape due, subst (λ (sh : Shape). HasParts sh c.args.key c.args.parts) shape c.requires.parts)),
        ),
      ),
    )

pub returns : goal.returns
returns g c =
    let filled = subst (λ (sh : Shape). HasMade g.row.V (storing_acts (policy_of c.args.books.now.checked) c.args.books.now.far.value.moves.items sh c.args.key c.args.value.now c.args.taken.storing) c.take_out.new.self c.make_storing.new.self) (shape_kept c.take_out.ensures.made.same) c.make_storing.ensures.made in
    record { made = made_then c.take_out.ensures.made filled }
