use Rattle.mc_core.proofs.writer.Writer.has_free.Goals as goal
use Rattle.std.proofs.lemmas.Bool.{ltb-true, lt-ltb}
use Rattle.mc_core.proofs.FreeFlags.{some_free}

pub returns : goal.returns
returns g c =
    let both = some_free c.args.self.now.table c.requires in
    (λ h. both.0 (ltb-true 0 c.args.self.now.table.free h), λ h. lt-ltb 0 c.args.self.now.table.free (both.1 h))
