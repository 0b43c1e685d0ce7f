use Rattle.std.proofs.Common.{subst}
use Rattle.mc_shared.specs.Records.{WriterRecord}
use Rattle.mc_executions.specs.Executions.{HasActs}
use Rattle.mc_executions.proofs.TimedLookups.{beside_is_timed}
use Rattle.mc_executions.proofs.calls.get_beside.Goals as goal

pub returns : goal.returns
returns g c = record {
  timed = λ policy states run i j had has.
      beside_is_timed g.row.V policy c.args.cache.now.layout.shape states run i j c.args.key c.args.writer.now.acts c.args.reader.now c.get_beside.new.self c.get_beside.result had
      (subst (λ (w : WriterRecord). HasActs (states j) w.acts) c.get_beside.ensures.writer has) c.get_beside.ensures.looked;
}
