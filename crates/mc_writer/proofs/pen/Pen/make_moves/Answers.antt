use Rattle.std.proofs.Common.{ℕ, ◌+◌, List, drop, get_or, subst, arith}
use Rattle.mc_theory.specs.declared.act.Act.{Act}
use Rattle.mc_plan.specs.Decisions.{acts_of_moves}
use Rattle.mc_plan.specs.Plans.{move_acts}
use Rattle.mc_plan.specs.declared.decision.Move.{Move}
use Rattle.mc_writer.specs.Inside.Pens.{IsDue}
use Rattle.mc_writer.proofs.Due.{next_move, no_moves}
use Rattle.mc_writer.proofs.Pens.{all_made, due_then, first_due, none_yet, one_more}
use Rattle.mc_writer.proofs.pen.Pen.make_moves.Goals as goal

-- what is kept where there is no move
abbrev blank : Move
blank = record { key = 0; word = 0; from = record { bucket = 0; slot = 0 }; to = record { bucket = 0; slot = 0 } }

abbrev acts_at : List Move → ℕ → List Act
acts_at ms j = let m = get_or ms j blank in move_acts m.key m.word m.from m.to

pub make_move-requires : goal.make_move-requires
make_move-requires g c =
    let ms = c.args.moves.now in
    let j = c.loop-m.m-index in
    let d = due_then (acts_of_moves (drop j ms)) c.loop-m.invariant.made c.requires.due in
    let next = subst (λ (xs : List Act). IsDue g.row.V xs c.loop-m.self) (next_move j ms blank (omega arith)) d in
    (omega arith, first_due g.row.V (acts_at ms j) (acts_of_moves (drop (j + 1) ms)) _ next)

pub loop-m-preserved : goal.loop-m-preserved
loop-m-preserved g c =
    let ms = c.args.moves.now in
    let j = c.loop-m.m-index in
    record { made = one_more (acts_of_moves (drop j ms)) (acts_at ms j) (acts_of_moves (drop (j + 1) ms)) (next_move j ms blank (omega arith)) c.loop-m.invariant.made c.make_move.ensures.made }

pub loop-m-init : goal.loop-m-init
loop-m-init g c = record { made = none_yet g.row.V (acts_of_moves c.args.moves.now) c.args.self.now }

pub returns : goal.returns
returns g c =
    let ms = c.args.moves.now in
    let j = c.loop-m.m-index in
    record { made = all_made (acts_of_moves (drop j ms)) (no_moves j ms (omega arith)) c.loop-m.invariant.made }
