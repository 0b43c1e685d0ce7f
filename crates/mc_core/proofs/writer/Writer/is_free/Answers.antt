use Rattle.mc_core.proofs.writer.Writer.is_free.Goals as goal
use Rattle.mc_core.proofs.FreeFlags.{flag_down}

pub returns-then-i-shape : goal.returns-then-i-shape
returns-then-i-shape g c = flag_down c.args.self.now.table c.args.i c.index.result.now c.requires (rw c.shape.ensures at c.if-i-shape.true) c.index.ensures
