use Rattle.std.proofs.Common.{ap, sym, ◌∙◌, subst, arith}
use Rattle.atomic_table.specs.Table.{Splits}
use Rattle.mc_shared.specs.Records.{Opening}
use Rattle.mc_shared.specs.SeatPlays.{kept_part, new_part}
use Rattle.mc_shared.specs.TableRule.{Ruled}
use Rattle.mc_shared.specs.declared.layout.Layout.{Layout}
use Rattle.mc_shared.proofs.ruled_words.RuledWords.split.Goals as goal

pub split_seat-requires : goal.split_seat-requires
split_seat-requires g c =
    let v = c.self.view_is in
    let same = ap (λ (o : Opening). o.layout) v in (
      c.requires.of ∙ sym (ap (λ (o : Opening). o.table) v),
      rw (c.self.invariant.words) (omega arith),
      subst (λ (l : Layout). Splits (Ruled l) c.args.seat.now.id c.args.seat.now.me.0 (kept_part g.C.NamesCut.cut c.args.seat.now.me.0) (new_part g.C.NamesCut.cut c.args.seat.now.me.0)) (sym same) c.requires.allowed,
    )
