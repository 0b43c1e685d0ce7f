use Rattle.std.proofs.Common.{rules, [], ℕ, List, ap, arith, sym, subst}
use Rattle.mc_words.specs.Checks.{shape_of}
use Rattle.mc_search.specs.Sweeps.{IsOver}
use Rattle.mc_plan.specs.Deciding.{IsFinished}
use Rattle.mc_plan.specs.WholeCalls.{Call, PutCall}
use Rattle.mc_writer.specs.Inside.Pens.{state_at}
use Rattle.mc_writer.specs.Inside.Turns.{HasRead, HasTurned}
use Rattle.mc_writer.proofs.Chosen.{finished_chosen, finished_refused}
use Rattle.mc_writer.proofs.WholeCalls.{has_read, shape_there, still_read, words_still}
use Rattle.mc_writer.proofs.pen.Pen.sweep.Goals as goal
use Rattle.mc_writer.proofs.pen.Pen.sweep.Goals.{After-finish, After-turn_round}
use Rattle.mc_writer.proofs.pen.Pen.sweep.Given.{Over}

pub turn_round-requires : goal.turn_round-requires
turn_round-requires g c =
    let pen = c.args.self.now in
    let s = state_at g.row.V pen in
    (omega arith, (search rules, (c.args.books.now, PutCall c.args.key c.args.value.now, c.new-waiting.ensures.sweeping s c.requires.waits, shape_there g.row.V pen c.args.books.now c.requires.layout)))

-- the hand has turned
turned : (g : Over) (c : After-turn_round g) → HasTurned g.row.V c.args.books.now c.turn_round.new.waiting (PutCall c.args.key c.args.value.now) c.args.self.now c.turn_round.new.self
turned g c = c.turn_round.ensures.turned c.args.books.now (PutCall c.args.key c.args.value.now) (c.new-waiting.ensures.sweeping (state_at g.row.V c.args.self.now) c.requires.waits)

read : (g : Over) (c : After-turn_round g) → HasRead g.row.V c.args.self.now c.turn_round.new.self (turned g c).readings
read g c = has_read g.row.V c.args.self.now c.turn_round.new.self c.args.books.now c.turn_round.new.waiting (PutCall c.args.key c.args.value.now) (turned g c) (shape_there g.row.V c.args.self.now c.args.books.now c.requires.layout)

over : (g : Over) (c : After-turn_round g) → IsOver (shape_of c.args.books.now.checked).items (turned g c).readings
over g c = c.turn_round.ensures.over c.args.books.now (PutCall c.args.key c.args.value.now) (state_at g.row.V c.args.self.now) (turned g c).readings (turned g c).sweeping

pub finish-requires : goal.finish-requires
finish-requires g c =
    let at = (goal.at.finish-requires g c).After-turn_round in
    let pen = c.args.self.now in
    (omega arith, (PutCall c.args.key c.args.value.now, state_at g.row.V pen, (turned g at).readings, (turned g at).sweeping, over g at, words_still g.row.V pen c.turn_round.new.self (turned g at).readings (read g at)))

-- the pen after the decision
decided : (g : Over) (c : After-finish g) → HasRead g.row.V c.args.self.now c.finish.new.peek (turned g (goal.at.After-finish g c).After-turn_round).readings
decided g c =
    let at = (goal.at.After-finish g c).After-turn_round in
    still_read g.row.V c.args.self.now c.turn_round.new.self c.finish.new.peek (turned g at).readings c.finish.ensures.kept (read g at)

abbrev named : Call → ℕ × List ℕ
named (PutCall k v) = (k, v)
named _ = (0, [])

-- the put that was decided is this one
finished : (g : Over) (c : After-finish g) → IsFinished g.row.V c.finish.new.self c.args.key c.args.value.now (PutCall c.args.key c.args.value.now) (state_at g.row.V c.args.self.now) (turned g (goal.at.After-finish g c).After-turn_round).readings c.finish.result
finished g c =
    let at = (goal.at.After-finish g c).After-turn_round in
    let t = turned g at in
    let call = PutCall c.args.key c.args.value.now in
    let s = state_at g.row.V c.args.self.now in
    subst (λ (y : ℕ × List ℕ). IsFinished g.row.V c.finish.new.self y.0 y.1 call s t.readings c.finish.result) (sym (ap named t.sweeping.called))
    (c.finish.ensures.finished call s t.readings t.sweeping (over g at) (words_still g.row.V c.args.self.now c.turn_round.new.self t.readings (read g at)))

pub returns-clause-same : goal.returns-clause-same
returns-clause-same g c = (decided g (goal.at.returns-clause-same g c).After-finish).same

pub returns-clause-chosen : goal.returns-clause-chosen
returns-clause-chosen g c =
    let at = (goal.at.returns-clause-chosen g c).After-finish in
    finished_chosen g.row.V c.args.self.now c.finish.new.peek c.args.books.now c.finish.new.self c.args.key c.args.value.now _ c.requires.layout c.finish.ensures.shape (decided g at) c.finish.result (finished g at)

pub returns-clause-refused : goal.returns-clause-refused
returns-clause-refused g c =
    let at = (goal.at.returns-clause-refused g c).After-finish in
    finished_refused g.row.V c.args.self.now c.finish.new.peek c.args.books.now c.finish.new.self c.args.key c.args.value.now _ c.requires.layout c.finish.ensures.shape (decided g at) c.finish.result (finished g at)
