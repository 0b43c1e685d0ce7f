use Rattle.mc_executions.proofs.TimedChanges.{changes_are_steps}
use Rattle.mc_executions.proofs.calls.make.Goals as goal

pub returns-clause-timed : goal.returns-clause-timed
returns-clause-timed g c policy states run i j n le had has low high = changes_are_steps g.row.V policy c.args.cache.now.layout.shape states run i j n c.args.writer.now.acts c.make.new.writer.acts le had has low high
