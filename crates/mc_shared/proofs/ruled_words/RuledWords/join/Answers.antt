use Rattle.std.proofs.Common.{ap, sym, ◌∙◌, subst, arith}
use Rattle.atomic_table.specs.Table.{Joins}
use Rattle.mc_shared.specs.Records.{Opening}
use Rattle.mc_shared.specs.Steps.{joined_view}
use Rattle.mc_shared.specs.TableRule.{Ruled}
use Rattle.mc_shared.specs.Views.{spent_view}
use Rattle.mc_shared.specs.declared.layout.Layout.{Layout}
use Rattle.mc_shared.proofs.ruled_words.RuledWords.join.Goals as goal

pub join_seat-requires : goal.join_seat-requires
join_seat-requires c =
    let v = c.self.view_is in
    let same = ap (λ (o : Opening). o.layout) v in (
      c.requires.of.0 ∙ sym (ap (λ (o : Opening). o.table) v),
      c.requires.of.1 ∙ sym (ap (λ (o : Opening). o.table) v),
      c.requires.empty,
      rw (c.self.invariant.words) (omega arith),
      subst (λ (l : Layout). Joins (Ruled l) c.args.seat.now.id c.args.seat.now.me.0 c.args.other.id c.args.other.me.0 (joined_view c.args.seat.now.me.0 c.args.other.me.0) spent_view) (sym same) c.requires.allowed,
    )
