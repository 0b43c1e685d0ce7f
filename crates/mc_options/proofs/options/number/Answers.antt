use Rattle.std.proofs.Common.{◌∙◌, sym}
use Rattle.clap.specs.Words.{found_of}
use Rattle.mc_options.specs.Options.{number_in}
use Rattle.mc_options.proofs.CommandLines.{text-given, text-none}
use Rattle.mc_options.proofs.options.number.Goals as goal

pub returns-in-Some : goal.returns-in-Some
returns-in-Some c = sym c.ok_or.ensures.ok_part ∙ c.number_in.ensures ∙ text-given (number_in c.args.least c.args.most) (found_of c.args.matches.now) c.args.name.now c.in-Some.text.now c.in-Some.ensures

pub returns-in-None : goal.returns-in-None
returns-in-None c = text-none (number_in c.args.least c.args.most) (found_of c.args.matches.now) c.args.name.now c.in-None.ensures
