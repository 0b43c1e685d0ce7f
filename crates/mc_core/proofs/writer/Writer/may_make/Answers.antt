use Rattle.mc_core.proofs.writer.Writer.may_make.Goals as goal
use Rattle.std.proofs.Common.{take, rules}
use Rattle.mc_core.specs.Inside.Writers.{shape_of_writer, words_of_writer, payload_in}
use Rattle.mc_core.specs.declared.progress.Progress.TheVariants as progress
use Rattle.mc_core.proofs.WrittenWords.{holds_at, quiet_well, renewing_well, moving_well}

pub may_when_quiet-requires : goal.may_when_quiet-requires
may_when_quiet-requires g c =
    let w = c.args.self.now in (
      search rules,
      (c.requires.used, quiet_well g.row.V (shape_of_writer w) (words_of_writer w) w.history.items (holds_at g.row.V (shape_of_writer w) (words_of_writer w) w.history.items w.written w.progress progress.Quiet c.in-Quiet.is c.requires.holds)),
    )

pub may_renew-requires : goal.may_renew-requires
may_renew-requires g c =
    let w = c.args.self.now in
    let p = progress.Renewing c.in-Renewing.key c.in-Renewing.count in (
      search rules,
      (
        rw c.in-Renewing.is at w.count_in,
        renewing_well g.row.V (shape_of_writer w) (words_of_writer w) w.history.items c.in-Renewing.key (take c.in-Renewing.count (payload_in w.written))
            (holds_at g.row.V (shape_of_writer w) (words_of_writer w) w.history.items w.written w.progress p c.in-Renewing.is c.requires.holds),
      ),
    )

pub may_move-requires : goal.may_move-requires
may_move-requires g c =
    let w = c.args.self.now in (
      search rules,
      moving_well g.row.V (shape_of_writer w) (words_of_writer w) w.history.items c.in-Moving.key
          (holds_at g.row.V (shape_of_writer w) (words_of_writer w) w.history.items w.written w.progress (progress.Moving c.in-Moving.key) c.in-Moving.is c.requires.holds),
    )
