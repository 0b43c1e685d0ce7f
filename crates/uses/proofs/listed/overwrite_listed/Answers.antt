use Rattle.std.proofs.Common.{[], ◌∷◌}
use Rattle.mc_cache.specs.Plain.{seen}
use Rattle.uses.proofs.Touched.{says_touched}
use Rattle.uses.proofs.listed.overwrite_listed.Goals as goal

pub returns : goal.returns
returns c = says_touched c.history_laws.ensures (seen 1 c.args.pass.now) (seen 1 c.try_put_if.new.pass) c.args.entry.now (c.args.value ∷ []) c.try_put_if.result c.requires.listed c.try_put_if.ensures.plain
