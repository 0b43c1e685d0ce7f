use Rattle.std.proofs.Common.{◌≡◌, ℕ, ◌+◌, ◌≤◌, ◌++◌, List, Some, None, subst, sym, ◌∙◌, arith, string_bytes}
use Rattle.mc_words.specs.declared.shape.Shape.{Shape}
use Rattle.mc_replay.specs.Replay.{ActDoes, ActsDo}
use Rattle.mc_replay.specs.Inside.Players.{shape_of_player, most_steps}
use Rattle.mc_replay.specs.declared.player.Player.{Player}
use Rattle.mc_replay.specs.declared.fault.Fault.TheVariants.{NothingToStep}
use Rattle.mc_replay.proofs.ReaderLines.{fits_more, player_room, width_can}
use Rattle.mc_replay.proofs.CommandLines.{idle_of, runs_of, runs_in}
use Rattle.mc_replay.proofs.StepAfterStep.{acts_push, acts_stop, left_over, one_more}
use Rattle.mc_replay.proofs.command.acts.Goals as goal

pub returns-then-not-is_running : goal.returns-then-not-is_running
returns-then-not-is_running g c = λ most s room fits.
    let old : Player g.row.V = c.args.player.now in
    let so_far = c.acts.invariant most s room fits in
    let m = so_far.0 in
    let idle = idle_of g.row.V c.acts.player (most + c.acts.counter) m.running m.world so_far.2.fits (sym c.is_running.ensures ∙ c.if-not-is_running.true) in
    let left = left_over c.acts.counter c.args.many c.acts-test.true in
    (m, subst (λ (n : ℕ). ActsDo (shape_of_player old) n s (string_bytes c.acts.text) (Some NothingToStep) m) left.1 (acts_stop (shape_of_player old) c.acts.counter left.0 s m (string_bytes c.acts.text) so_far.1 idle.0), tt)

pub act-requires : goal.act-requires
act-requires g c =
    let first = c.requires.1 in
    let so_far = c.acts.invariant first.0 first.1 first.2 first.3 in
    let m = so_far.0 in
    let runs = runs_of g.row.V c.acts.player (first.0 + c.acts.counter) m.running m.world so_far.2.fits (sym c.is_running.ensures ∙ c.if-not-is_running.false) in
    let call = runs_in g.row.V c.acts.player first.0 c.acts.counter m runs.0 first.2 so_far.2 runs.1 in
    (player_room _ _ (omega (arith, width_can g.row.V c.args.player.now (string_bytes c.args.text.now) c.requires)) (omega (arith, width_can g.row.V c.args.player.now (string_bytes c.args.text.now) c.requires)), (_, _, _, call.0, call.1))

pub acts-preserved : goal.acts-preserved
acts-preserved g c = λ most s room fits.
    let old : Player g.row.V = c.args.player.now in
    let so_far = c.acts.invariant most s room fits in
    let m = so_far.0 in
    let runs = runs_of g.row.V c.acts.player (most + c.acts.counter) m.running m.world so_far.2.fits (sym c.is_running.ensures ∙ c.if-not-is_running.false) in
    let done = c.in_ok-act.ensures.done most c.acts.counter m runs.0 room so_far.2 runs.1 in
    let t = done.0 in
    let act = subst (λ (y : Shape). ActDoes y m runs.0 done.1 t) so_far.3 done.2 in
    let pushed = acts_push (shape_of_player old) c.acts.counter s m t runs.0 (string_bytes c.acts.text) done.1 so_far.1 runs.1 act in
    let all = subst (λ (n : ℕ). ActsDo (shape_of_player old) n s (string_bytes c.acts.text ++ done.1) None t) (one_more c.acts.counter) pushed in
    (t, subst (λ (l : List ℕ). ActsDo (shape_of_player old) (c.acts.counter + 1) s l None t) (sym done.3) all, done.4, done.5 ∙ so_far.3)

pub returns : goal.returns
returns g c = λ most s room fits.
    let old : Player g.row.V = c.args.player.now in
    let so_far = c.acts.invariant most s room fits in
    let m = so_far.0 in
    let few : most + c.acts.counter ≤ most + most_steps = omega (arith, so_far.2.past) in
    let all : c.acts.counter ≡ c.args.many = omega (arith, c.acts.auto.counter-end, c.acts-test.false) in
    (m, subst (λ (n : ℕ). ActsDo (shape_of_player old) n s (string_bytes c.acts.text) None m) all so_far.1, (so_far.3, fits_more g.row.V c.acts.player (most + c.acts.counter) (most + most_steps) m.running m.world few so_far.2.fits))

pub is_running-requires : goal.is_running-requires
is_running-requires g c = player_room _ _ (omega (arith, width_can g.row.V c.args.player.now (string_bytes c.args.text.now) c.requires)) (omega (arith, width_can g.row.V c.args.player.now (string_bytes c.args.text.now) c.requires))
