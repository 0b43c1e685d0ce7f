use Rattle.mc_core.proofs.writer.Writer.count_moment.Goals as goal
use Rattle.std.proofs.Common.{rules}
use Rattle.mc_core.specs.Inside.Writers.{shape_of_writer, words_of_writer}
use Rattle.mc_theory.specs.declared.act.Act.TheVariants as act
use Rattle.mc_core.proofs.AllowedActs.{may_at}
use Rattle.mc_core.proofs.DeedChanges.{change_placed, change_renewing, closing_placed, closing_renewing}

pub count_moment_of-requires : goal.count_moment_of-requires
count_moment_of-requires g c =
    let w = c.args.self.now in
    (search rules, (search rules, (c.requires.moment, (c.requires.used, (change_placed g.row.V w.written w.progress _ _ _ c.in-Placed.is c.value.ensures, closing_placed g.row.V w.written w.progress _ _ c.in-Placed.is)))))

pub count_moment_of-requires-in-Renewing : goal.count_moment_of-requires-in-Renewing
count_moment_of-requires-in-Renewing g c =
    let w = c.args.self.now in
    let may = may_at g.row.V (shape_of_writer w) (words_of_writer w) w.hand w.cleared w.written w.progress _ act.Moment c.in-Renewing.is c.requires.may in
    (search rules, (search rules, (c.requires.moment, (c.requires.used, (change_renewing g.row.V w.written w.progress _ _ _ c.in-Renewing.is may c.value-in-Renewing.ensures, closing_renewing g.row.V w.written w.progress _ _ c.in-Renewing.is)))))
