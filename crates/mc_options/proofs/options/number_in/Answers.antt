use Rattle.std.proofs.Common.{◌≡◌, ◌<◌, true, length, rules}
use Rattle.std.specs.List.{list_all}
use Rattle.std.specs.Char.{is_ascii_digit}
use Rattle.mc_options.proofs.CommandLines.{number-unparsed}
use Rattle.mc_options.proofs.options.number_in.Goals as goal

pub returns-in-Err : goal.returns-in-Err
returns-in-Err c =
    let some : 0 < length c.args.text.now = search rules in
    let digits : list_all is_ascii_digit c.args.text.now ≡ true = search rules in
    number-unparsed c.args.least c.args.most c.args.text.now some digits c.ranges.most.fits c.in-Err.ensures.value.0
