use Rattle.mc_replay.proofs.ReaderLines.{player_room, width_of}
use Rattle.std.specs.Prelude.{Option}
use Rattle.mc_replay.specs.Inside.Players.{FitsCall}
use Rattle.mc_replay.specs.Replay.{Pending}
use Rattle.std.proofs.Common.{◌≡◌, ◌∙◌, Err, ap, inl, inr, refl, rules, subst, sym, string_bytes, arith}
use Rattle.mc_words.specs.Shapes.{IsShape}
use Rattle.mc_words.specs.declared.shape.Shape.{Shape}
use Rattle.mc_script.specs.declared.command.Command.TheVariants.{Reopen}
use Rattle.mc_replay.specs.declared.fault.Fault.TheVariants.{BadShape}
use Rattle.mc_replay.specs.Replay.{CommandDoes, with_sizes}
use Rattle.mc_replay.specs.Inside.Players.{DoneAs}
use Rattle.mc_replay.proofs.BusyWorlds.{not_busy, reader_busy, writer_busy}
use Rattle.mc_replay.proofs.reopening.reopen.Goals as goal

pub returns-then-is_running-clause-does : goal.returns-then-is_running-clause-does
returns-then-is_running-clause-does g c = λ most s fits.
    (s, inl (writer_busy g.row.V c.args.player.now most s fits (sym c.is_running.ensures ∙ c.if-is_running.true), refl, c.requires.0, refl), tt)

pub returns-then-is_looking-clause-does : goal.returns-then-is_looking-clause-does
returns-then-is_looking-clause-does g c = λ most s fits.
    (s, inl (reader_busy g.row.V c.args.player.now most s fits (sym c.is_looking.ensures ∙ c.if-is_looking.true), refl, c.requires.0, refl), tt)

pub returns-in_err-checked-clause-does : goal.returns-in_err-checked-clause-does
returns-in_err-checked-clause-does g c = λ most s fits.
    let idle = not_busy g.row.V c.args.player.now most s fits (sym c.is_running.ensures ∙ c.if-is_running.false) (sym c.is_looking.ensures ∙ c.if-is_looking.false) in
    let is : c.from_residual.result ≡ Err BadShape = search rules in
    let none = subst (λ (y : Shape). IsShape (with_sizes y c.args.buckets c.args.items) → ⊥) (c.checked.ensures ∙ fits.0) c.in_err-checked.ensures.refused.1 in (
      s,
      subst (λ r. DoneAs (CommandDoes s (Reopen c.args.buckets c.args.items)) (string_bytes c.args.text.now) s r) (sym is) (inr (inl (idle.1, none, refl, c.requires.0, refl))),
      rw is tt,
    )

pub returns-clause-does : goal.returns-clause-does
returns-clause-does g c = λ most s fits.
    let idle = not_busy g.row.V c.args.player.now most s fits (sym c.is_running.ensures ∙ c.if-is_running.false) (sym c.is_looking.ensures ∙ c.if-is_looking.false) in
    let sizes = c.in_ok-checked.ensures.shape ∙ ap (λ (y : Shape). with_sizes y c.args.buckets c.args.items) c.checked.ensures in
    let sound = subst (λ (y : Shape). IsShape (with_sizes y c.args.buckets c.args.items)) (c.checked.ensures ∙ fits.0) c.in_ok-checked.ensures.sound in
    let did = c.in_ok-new.ensures.moved c.args.buckets c.args.items sizes c.requires.0 most s idle.0 fits in
    (did.0, inr (inr (idle.1, sound, refl, did.1)), did.2)

pub is_running-requires : goal.is_running-requires
is_running-requires g c =
    let width = width_of g.row.V c.args.player.now c.requires.1.0 c.requires.1.1.now.running c.requires.1.1.now.world c.requires.1.2.1 in player_room _ _ (omega (arith, width)) (omega (arith, width))

pub is_looking-requires : goal.is_looking-requires
is_looking-requires g c = omega (arith, width_of g.row.V c.args.player.now c.requires.1.0 c.requires.1.1.now.running c.requires.1.1.now.world c.requires.1.2.1)

pub checked-requires : goal.checked-requires
checked-requires g c = omega (arith, width_of g.row.V c.args.player.now c.requires.1.0 c.requires.1.1.now.running c.requires.1.1.now.world c.requires.1.2.1)

pub moved-requires : goal.moved-requires
moved-requires g c =
    let can = c.requires.1 in
    let width = width_of g.row.V c.args.player.now c.requires.1.0 c.requires.1.1.now.running c.requires.1.1.now.world c.requires.1.2.1 in
    let none = not_busy g.row.V c.args.player.now can.0 can.1 can.2 (sym c.is_running.ensures ∙ c.if-is_running.false) (sym c.is_looking.ensures ∙ c.if-is_looking.false) in
    (player_room _ _ (omega (arith, width)) (omega (arith, width)), (can.0, can.1.now.world, subst (λ (r : Option (Pending g.row.V)). FitsCall g.row.V c.args.player.now can.0 r can.1.now.world) none.0 can.2.1))

pub returns-then-is_running-clause-stands : goal.returns-then-is_running-clause-stands
returns-then-is_running-clause-stands g c = refl

pub returns-then-is_looking-clause-stands : goal.returns-then-is_looking-clause-stands
returns-then-is_looking-clause-stands g c = refl

pub returns-clause-stands : goal.returns-clause-stands
returns-clause-stands g c = tt
