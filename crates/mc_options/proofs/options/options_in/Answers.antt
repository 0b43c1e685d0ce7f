use Rattle.std.proofs.Common.{arith, codes}
use Rattle.clap.specs.Words.{first_of, found_of, rows_of}
use Rattle.mc_options.proofs.CommandLines.{number-bounds}
use Rattle.mc_options.proofs.options.options_in.Goals as goal

pub returns-in-Err : goal.returns-in-Err
returns-in-Err c = λ o says. c.in-Err.ensures o.shape says.shape

pub overflow_cast-result : goal.overflow_cast-result
overflow_cast-result c = omega (arith, (number-bounds 0 4294967295 c.in_ok-readers.readers (first_of (codes "readers") (rows_of (found_of c.args.matches.now))) c.in_ok-readers.ensures).1)
