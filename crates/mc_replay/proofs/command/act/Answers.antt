use Rattle.std.proofs.Common.{◌≡◌, ◌+◌, ◌++◌, subst, arith, string_bytes}
use Rattle.std.specs.Prelude.{Option}
use Rattle.mc_plan.specs.declared.answer.Answer.{Answer}
use Rattle.mc_replay.specs.Inside.Players.{ActsOnce, MakesAct}
use Rattle.mc_replay.specs.Texts.{answer_line}
use Rattle.mc_replay.specs.declared.player.Player.{Player}
use Rattle.mc_replay.proofs.CommandLines.{on_ok, runs_in, act_goes_on, act_ends}
use Rattle.mc_plan.proofs.Calls.MidCall.{on_width}
use Rattle.mc_replay.proofs.ReaderLines.{player_room}
use Rattle.mc_replay.proofs.command.act.Goals as goal

pub returns-in-Some-clause-done : goal.returns-in-Some-clause-done
returns-in-Some-clause-done g c =
    let old : Player g.row.V = c.args.player.now in
    let new : Player g.row.V = c.act.new.self in
    on_ok c.add_line.result (string_bytes c.add_line.new.text ≡ string_bytes c.args.text.now ++ answer_line c.in-Some.answer) (ActsOnce g.row.V old new (string_bytes c.args.text.now) (string_bytes c.add_line.new.text)) c.add_line.ensures.ok
    (λ is most n m p room so_far runs.
    let call = runs_in g.row.V old most n m p room so_far runs in
    let made = c.in_ok-answer.ensures.made (most + n) p m.world call.0.0 call.1 in
    let act = subst (λ (o : Option Answer). MakesAct g.row.V old new (most + n) p m.world o) c.in-Some.is made in
    act_ends g.row.V old new most n m p c.in-Some.answer (string_bytes c.args.text.now) (string_bytes c.add_line.new.text) room so_far runs act is)

pub returns-in-None-clause-done : goal.returns-in-None-clause-done
returns-in-None-clause-done g c = λ most n m p room so_far runs.
    let old : Player g.row.V = c.args.player.now in
    let new : Player g.row.V = c.act.new.self in
    let call = runs_in g.row.V old most n m p room so_far runs in
    let made = c.in_ok-answer.ensures.made (most + n) p m.world call.0.0 call.1 in
    let act = subst (λ (o : Option Answer). MakesAct g.row.V old new (most + n) p m.world o) c.in-None.is made in
    act_goes_on g.row.V old new most n m p (string_bytes c.args.text.now) so_far runs act

pub act-requires : goal.act-requires
act-requires g c =
    let p = c.requires.1 in
    let call = c.requires.3 in
    (player_room _ _ (omega (arith, on_width g.row.V c.args.player.now.clerk p.call p.from p.acts call.0.on)) (omega (arith, on_width g.row.V c.args.player.now.clerk p.call p.from p.acts call.0.on)), (call.1, (c.requires.0, p, c.requires.2, call.0, c.requires.4)))

pub returns-in-None-clause-refused : goal.returns-in-None-clause-refused
returns-in-None-clause-refused g c = tt
