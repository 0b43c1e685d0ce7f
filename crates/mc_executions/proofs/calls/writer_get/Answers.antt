use Rattle.mc_executions.proofs.TimedLookups.{writers_gets_are_timed}
use Rattle.mc_executions.proofs.calls.writer_get.Goals as goal

pub returns : goal.returns
returns g c = record {
  timed = λ policy states run i j had has. writers_gets_are_timed g.row.V policy c.args.cache.now.layout.shape states run i j c.args.key c.args.writer.now c.get.new.self c.get.result had has c.get.ensures.got;
}
