use Rattle.mc_replay.proofs.ReaderLines.{player_room, width_can}
use Rattle.std.proofs.Common.{List, string_bytes, subst, sym, rules, arith, refl}
use Rattle.std.specs.Prelude.{ℕ}
use Rattle.mc_script.specs.declared.command.Command.{Command}
use Rattle.mc_script.specs.declared.command.Command.TheVariants.{BeginGet}
use Rattle.mc_replay.specs.Inside.Players.{DoesBy}
use Rattle.mc_replay.specs.Replay.{Does}
use Rattle.mc_replay.specs.declared.player.Player.{Player}
use Rattle.mc_replay.proofs.CommandLines.{still_running}
use Rattle.mc_replay.proofs.command.do_here.Goals as goal

-- A call is named only where no wrong body makes another one there: such a body has to be refused for what that one does.
pub returns-in-Put-false : goal.returns-in-Put-false
returns-in-Put-false g c = rw c.in-Put-false.is-0 (search rules)

pub returns-in-Remove-false : goal.returns-in-Remove-false
returns-in-Remove-false g c = rw c.in-Remove-false.is-0 (search rules)

pub returns-in-Get-false : goal.returns-in-Get-false
returns-in-Get-false g c = rw c.in-Get-false.is-0 (search rules)

pub returns-in-BeginPut-false : goal.returns-in-BeginPut-false
returns-in-BeginPut-false g c = rw c.in-BeginPut-false.is-0 (search rules)

pub returns-in-BeginRemove-false : goal.returns-in-BeginRemove-false
returns-in-BeginRemove-false g c = rw c.in-BeginRemove-false.is-0 (search rules)

pub returns-in-PutIf-false : goal.returns-in-PutIf-false
returns-in-PutIf-false g c = rw c.in-PutIf-false.is-0 (search rules)

pub returns-in-Stamp-false : goal.returns-in-Stamp-false
returns-in-Stamp-false g c = rw c.in-Stamp-false.is-0 (search rules)

pub returns-in-BeginPutIf-false : goal.returns-in-BeginPutIf-false
returns-in-BeginPutIf-false g c = rw c.in-BeginPutIf-false.is-0 (search rules)

pub returns-in-Read-default : goal.returns-in-Read-default
returns-in-Read-default g c = rw c.in-Read-default.is-0 (search rules)

pub returns-in-BeginGet-default : goal.returns-in-BeginGet-default
returns-in-BeginGet-default g c =
    let old : Player g.row.V = c.args.player.now in
    let new : Player g.row.V = c.begin_get.new.player in
    subst (λ (x : Command g.row.V). DoesBy g.row.V old new (string_bytes c.args.text.now) c.begin_get.result (λ sh s. Does sh s x)) (sym c.in-BeginGet-default.is-0)
    (subst (λ (t : List ℕ). DoesBy g.row.V old new t c.begin_get.result (λ sh s. Does sh s (BeginGet c.in-BeginGet-default.reader c.in-BeginGet-default.key))) (sym c.requires.can.0) c.begin_get.ensures)

-- a call runs: each of the eight commands that start one, or look up, is refused
pub returns-in_default-true : goal.returns-in_default-true
returns-in_default-true g c = λ most s room fits.
    (s, rw c.in_default-true.is-0 (still_running g.row.V c.args.player.now most s (string_bytes c.args.text.now) _ fits (sym c.in_default-true.ensures) c.requires.can.0), tt)

pub returns-in_default-true-2 : goal.returns-in_default-true-2
returns-in_default-true-2 g c = λ most s room fits.
    (s, rw c.in_default-true.is-0 (still_running g.row.V c.args.player.now most s (string_bytes c.args.text.now) _ fits (sym c.in_default-true.ensures) c.requires.can.0), tt)

pub returns-in_default-true-3 : goal.returns-in_default-true-3
returns-in_default-true-3 g c = λ most s room fits.
    (s, rw c.in_default-true.is-0 (still_running g.row.V c.args.player.now most s (string_bytes c.args.text.now) _ fits (sym c.in_default-true.ensures) c.requires.can.0), tt)

pub returns-in_default-true-4 : goal.returns-in_default-true-4
returns-in_default-true-4 g c = λ most s room fits.
    (s, rw c.in_default-true.is-0 (still_running g.row.V c.args.player.now most s (string_bytes c.args.text.now) _ fits (sym c.in_default-true.ensures) c.requires.can.0), tt)

pub returns-in_default-true-5 : goal.returns-in_default-true-5
returns-in_default-true-5 g c = λ most s room fits.
    (s, rw c.in_default-true.is-0 (still_running g.row.V c.args.player.now most s (string_bytes c.args.text.now) _ fits (sym c.in_default-true.ensures) c.requires.can.0), tt)

pub returns-in_default-true-6 : goal.returns-in_default-true-6
returns-in_default-true-6 g c = λ most s room fits.
    (s, rw c.in_default-true.is-0 (still_running g.row.V c.args.player.now most s (string_bytes c.args.text.now) _ fits (sym c.in_default-true.ensures) c.requires.can.0), tt)

pub returns-in_default-true-7 : goal.returns-in_default-true-7
returns-in_default-true-7 g c = λ most s room fits.
    (s, rw c.in_default-true.is-0 (still_running g.row.V c.args.player.now most s (string_bytes c.args.text.now) _ fits (sym c.in_default-true.ensures) c.requires.can.0), tt)

pub returns-in_default-true-8 : goal.returns-in_default-true-8
returns-in_default-true-8 g c = λ most s room fits.
    (s, rw c.in_default-true.is-0 (still_running g.row.V c.args.player.now most s (string_bytes c.args.text.now) _ fits (sym c.in_default-true.ensures) c.requires.can.0), tt)

pub is_running-requires : goal.is_running-requires
is_running-requires g c =
    let width = width_can g.row.V c.args.player.now (string_bytes c.args.text.now) c.requires.can in player_room _ _ (omega (arith, width)) (omega (arith, width))

pub acts-requires : goal.acts-requires
acts-requires g c =
    let width = width_can g.row.V c.args.player.now (string_bytes c.args.text.now) c.requires.can in
    (player_room _ _ (omega (arith, width)) (omega (arith, width)), c.requires.can)

pub reads-requires : goal.reads-requires
reads-requires g c =
    let width = width_can g.row.V c.args.player.now (string_bytes c.args.text.now) c.requires.can in
    (player_room _ _ (omega (arith, width)) (omega (arith, width)), c.requires.can)

pub begin_get-requires : goal.begin_get-requires
begin_get-requires g c =
    let width = width_can g.row.V c.args.player.now (string_bytes c.args.text.now) c.requires.can in
    (player_room _ _ (omega (arith, width)) (omega (arith, width)), (refl, c.requires.can.1))

pub get-requires : goal.get-requires
get-requires g c =
    let width = width_can g.row.V c.args.player.now (string_bytes c.args.text.now) c.requires.can in
    (player_room _ _ (omega (arith, width)) (omega (arith, width)), (c.requires.can, sym c.in-Get-false.ensures))

pub stamp-requires : goal.stamp-requires
stamp-requires g c =
    let width = width_can g.row.V c.args.player.now (string_bytes c.args.text.now) c.requires.can in
    (player_room _ _ (omega (arith, width)) (omega (arith, width)), (c.requires.can, sym c.in-Stamp-false.ensures))

pub whole-requires-in-Remove-false : goal.whole-requires-in-Remove-false
whole-requires-in-Remove-false g c =
    let width = width_can g.row.V c.args.player.now (string_bytes c.args.text.now) c.requires.can in
    (player_room _ _ (omega (arith, width)) (omega (arith, width)), (omega (arith, width), (c.requires.can, sym c.in-Remove-false.ensures)))

pub begin-requires-in-BeginRemove-false : goal.begin-requires-in-BeginRemove-false
begin-requires-in-BeginRemove-false g c =
    let width = width_can g.row.V c.args.player.now (string_bytes c.args.text.now) c.requires.can in
    (player_room _ _ (omega (arith, width)) (omega (arith, width)), (omega (arith, width), (c.requires.can, sym c.in-BeginRemove-false.ensures)))
