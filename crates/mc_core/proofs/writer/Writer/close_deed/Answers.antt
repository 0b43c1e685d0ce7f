use Rattle.mc_core.proofs.writer.Writer.close_deed.Goals as goal
use Rattle.std.proofs.Common.{rules}
use Rattle.mc_words.proofs.Keys.{stripe_of-lt}
use Rattle.mc_words.specs.Keys.{stripe_of}
use Rattle.mc_core.specs.Inside.Writers.{shape_of_writer}

pub close_deed_of-requires : goal.close_deed_of-requires
close_deed_of-requires g c =
    let w = c.args.self.now in
    (search rules, (c.in-Closing.is, (c.requires.used, (c.requires.versions (stripe_of (shape_of_writer w) c.in-Closing.key) (stripe_of-lt (shape_of_writer w) c.in-Closing.key w.table.checked.sound), c.requires.version_steps))))
