use Rattle.mc_replay.proofs.ReaderLines.{player_room}
use Rattle.std.proofs.Common.{inl, inr, arith}
use Rattle.mc_replay.proofs.LoadedWorlds.{only_kept}
use Rattle.mc_replay.proofs.player.Player.put_kept.Goals as goal

pub unreachable-requires : goal.unreachable-requires
unreachable-requires g c =
    let call = c.in_ok-told.ensures.made c.requires.0 c.requires.1 c.requires.2 c.requires.3 in
    let kept = only_kept g.row.V _ c.args.key c.args.value _ call.acts c.in_ok-told.field-0 call.answered in
    elim c.in-Put.is [
      | inl put ↦ absurd (cc (put.1, kept.1))
      | inr others ↦ elim others [
        | inl put_if ↦ absurd (cc (put_if.1, kept.1))
        | inr remove ↦ absurd (cc (remove.1, kept.1))
      ]
    ]

pub whole-requires : goal.whole-requires
whole-requires g c =
    let width = c.requires.2.knows.books.width in
    (player_room _ _ (omega (arith, width)) (omega (arith, width)), (omega (arith, width), c.requires))
