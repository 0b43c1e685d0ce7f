use Rattle.std.proofs.Common.{sym}
use Rattle.mc_words.proofs.Payload.{value_of-push}
use Rattle.mc_core.proofs.written.Written.value.Goals as goal

pub returns : goal.returns
returns g c = sym (value_of-push g.row.V c.args.self.stamp c.args.self.value c.args.self.whole)
