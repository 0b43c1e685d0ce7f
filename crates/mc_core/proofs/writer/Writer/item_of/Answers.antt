use Rattle.mc_core.proofs.writer.Writer.item_of.Goals as goal

pub returns-in_err-i : goal.returns-in_err-i
returns-in_err-i g c = rw c.from_residual.ensures (λ q i st. c.in_err-i.ensures {u = tt} q i (c.requires.placed q i st) st)
