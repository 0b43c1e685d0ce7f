use Rattle.std.proofs.Common.{ℕ, ◌^◌, ◌<◌, arith}
use Rattle.std.proofs.lemmas.List.Elements.{All-from_get_or}
use Rattle.mc_executions.proofs.Fallbacks.{reads}
use Rattle.mc_executions.proofs.TimedLookups.{many_are_timed}
use Rattle.mc_executions.proofs.calls.get_many.Goals as goal

pub returns : goal.returns
returns g c = record {
  timed = λ policy states run i j le had has.
      many_are_timed g.row.V policy c.args.cache.now.layout.shape states run i j c.args.keys.now c.args.reader.now c.get_many.new.self c.get_many.new.replies c.known.ensures.shape (All-from_get_or (λ (k : ℕ). k < 2 ^ 64) c.args.keys.now 0 (λ n low. omega (arith, c.type_inv.keys n))) le
      (reads c.args.reader.now (states i) had) (reads c.get_many.new.self (states j) has) c.get_many.ensures.looked;
}
