use Rattle.std.proofs.Common.{◌∙◌, codes, sym}
use Rattle.clap.specs.Words.{found_of}
use Rattle.mc_options.specs.Options.{mix_in}
use Rattle.mc_options.proofs.CommandLines.{text-given, text-none}
use Rattle.mc_options.proofs.options.mix.Goals as goal

pub returns-in-Some : goal.returns-in-Some
returns-in-Some c = sym c.ok_or.ensures.ok_part ∙ c.mix_in.ensures ∙ text-given mix_in (found_of c.args.matches.now) (codes "mix") c.in-Some.text.now c.in-Some.ensures

pub returns-in-None : goal.returns-in-None
returns-in-None c = text-none mix_in (found_of c.args.matches.now) (codes "mix") c.in-None.ensures
