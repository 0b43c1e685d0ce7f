use Rattle.std.proofs.Common.{ℕ, List, ◌∙◌, arith, inl, inr, subst}
use Rattle.mc_words.specs.Checks.{shape_of}
use Rattle.mc_search.specs.Sweeps.{Swept, IsOver}
use Rattle.mc_plan.specs.Books.{IsPickingFor}
use Rattle.mc_plan.specs.Deciding.{IsFinished}
use Rattle.mc_plan.specs.WholeCalls.{PutCall}
use Rattle.mc_plan.proofs.Calls.AfterPlan.{full_books}
use Rattle.mc_writer.specs.Inside.Pens.{state_at}
use Rattle.mc_writer.specs.Inside.Turns.{HasPicked, HasRead}
use Rattle.mc_writer.proofs.Chosen.{finished_chosen, finished_refused}
use Rattle.mc_writer.proofs.Picked.{picked_read}
use Rattle.mc_writer.proofs.WholeCalls.{still_read, words_still}
use Rattle.mc_writer.proofs.pen.Pen.pick.Goals as goal
use Rattle.mc_writer.proofs.pen.Pen.pick.Goals.{After-finish_picked, After-read_round}
use Rattle.mc_writer.proofs.pen.Pen.pick.Given.{Over}

-- the choice's readings are made
picked : (g : Over) (c : After-read_round g) → (rs : List Swept) × HasPicked g.row.V c.read_round.new.books c.read_round.new.pick c.args.self.now c.read_round.new.self rs × IsOver (shape_of c.read_round.new.books.checked).items rs
picked g c =
    let h = c.read_round.ensures.picked in
    let waits = c.read_round.ensures.waits c.args.key c.args.value.now (state_at g.row.V c.args.self.now) c.args.room c.requires.waits in
    let keys = c.pick-pick.ensures.keys g.row.V (state_at g.row.V c.args.self.now) c.requires.waits.known in
    let full = full_books g.row.V c.read_round.new.books (state_at g.row.V c.args.self.now) waits.known waits.none in
    let over : IsOver (shape_of c.read_round.new.books.checked).items h.0 = elim h.2 [
      | inl is ↦ subst (λ (n : ℕ). IsOver n h.0) (c.read_round.ensures.most ∙ keys ∙ full) is
      | inr none ↦ absurd (none 0 (omega (arith, waits.known.items, waits.known.stands), waits.none 0))
    ] in
    (h.0, h.1, over)

picking : (g : Over) (c : After-read_round g) → IsPickingFor g.row.V c.read_round.new.books c.read_round.new.pick c.args.key c.args.value.now c.args.room (state_at g.row.V c.args.self.now) (picked g c).0
picking g c = record { waits = c.read_round.ensures.waits c.args.key c.args.value.now (state_at g.row.V c.args.self.now) c.args.room c.requires.waits; picking = (picked g c).1.picking }

read : (g : Over) (c : After-read_round g) → HasRead g.row.V c.args.self.now c.read_round.new.self (picked g c).0
read g c = picked_read g.row.V c.read_round.new.books c.read_round.new.pick c.args.self.now c.read_round.new.self (picked g c).0 (picked g c).1

pub finish_picked-requires : goal.finish_picked-requires
finish_picked-requires g c =
    let at = (goal.at.finish_picked-requires g c).After-read_round in
    let p = picked g at in
    record { over = (c.args.value.now, state_at g.row.V c.args.self.now, p.0, picking g at, p.2, words_still g.row.V c.args.self.now c.read_round.new.self p.0 (read g at)) }

-- the pen after the decision
decided : (g : Over) (c : After-finish_picked g) → HasRead g.row.V c.args.self.now c.finish_picked.new.peek (picked g (goal.at.After-finish_picked g c).After-read_round).0
decided g c =
    let at = (goal.at.After-finish_picked g c).After-read_round in
    still_read g.row.V c.args.self.now c.read_round.new.self c.finish_picked.new.peek (picked g at).0 c.finish_picked.ensures.kept (read g at)

finished : (g : Over) (c : After-finish_picked g) → IsFinished g.row.V c.finish_picked.new.self c.args.key c.args.value.now (PutCall c.args.key c.args.value.now) (state_at g.row.V c.args.self.now) (picked g (goal.at.After-finish_picked g c).After-read_round).0 c.finish_picked.result
finished g c =
    let at = (goal.at.After-finish_picked g c).After-read_round in
    let p = picked g at in
    c.finish_picked.ensures.finished c.args.value.now (state_at g.row.V c.args.self.now) p.0 (picking g at) p.2 (words_still g.row.V c.args.self.now c.read_round.new.self p.0 (read g at))

pub returns-clause-same : goal.returns-clause-same
returns-clause-same g c = (decided g (goal.at.returns-clause-same g c).After-finish_picked).same

pub returns-clause-chosen : goal.returns-clause-chosen
returns-clause-chosen g c =
    let at = (goal.at.returns-clause-chosen g c).After-finish_picked in
    finished_chosen g.row.V c.args.self.now c.finish_picked.new.peek c.args.books.now c.finish_picked.new.self c.args.key c.args.value.now _ c.requires.layout (c.finish_picked.ensures.shape ∙ c.read_round.ensures.shape) (decided g at) c.finish_picked.result (finished g at)

pub returns-clause-refused : goal.returns-clause-refused
returns-clause-refused g c =
    let at = (goal.at.returns-clause-refused g c).After-finish_picked in
    finished_refused g.row.V c.args.self.now c.finish_picked.new.peek c.args.books.now c.finish_picked.new.self c.args.key c.args.value.now _ c.requires.layout (c.finish_picked.ensures.shape ∙ c.read_round.ensures.shape) (decided g at) c.finish_picked.result (finished g at)
