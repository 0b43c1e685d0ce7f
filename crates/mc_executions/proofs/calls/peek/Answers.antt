use Rattle.std.proofs.Common.{subst}
use Rattle.mc_theory.specs.Lists.{state_of}
use Rattle.mc_shared.specs.Records.{Opening, WriterRecord}
use Rattle.mc_cache.specs.Plain.{TellsNow}
use Rattle.mc_executions.specs.Executions.{HasActs}
use Rattle.mc_executions.proofs.RunningCalls.{told_by, told_throughout}
use Rattle.mc_executions.proofs.calls.peek.Goals as goal

pub returns : goal.returns
returns g c =
    let V = g.row.V in
    let w : WriterRecord = c.args.writer.now in
    let told = subst (λ (o : Opening). TellsNow (state_of V o.layout.shape w.acts).history c.args.key c.peek.result) c.requires.of (told_by V w c.args.key c.peek.result c.peek.ensures.plain) in
    record {
      timed = λ policy states run i j had has.
          told_throughout V c.args.cache.now.layout.shape c.args.key w.acts c.peek.result told policy states run i j had (subst (λ (x : WriterRecord). HasActs (states j) x.acts) c.peek.ensures.writer has);
    }
