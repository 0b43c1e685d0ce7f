use Rattle.std.proofs.Common.{◌∙◌, refl}
use Rattle.mc_load.proofs.Words.{generator_new}
use Rattle.mc_load.proofs.draws.Draws.new.Goals as goal

pub returns : goal.returns
returns c = record { generator = c.new.ensures ∙ generator_new c.args.load c.args.stream; keys = refl }
