use Rattle.std.proofs.Common.{arith}
use Rattle.clap.specs.Words.{first_of, found_of, rows_of}
use Rattle.std.proofs.Common.{codes}
use Rattle.mc_options.proofs.CommandLines.{number-bounds}
use Rattle.mc_options.proofs.options.shape_in.Goals as goal

pub overflow_cast-result-4 : goal.overflow_cast-result-4
overflow_cast-result-4 c = omega (arith, (number-bounds 0 255 c.in_ok-depth.depth (first_of (codes "depth") (rows_of (found_of c.args.matches.now))) c.in_ok-depth.ensures).1)

pub overflow_cast-result-5 : goal.overflow_cast-result-5
overflow_cast-result-5 c = omega (arith, (number-bounds 0 255 c.in_ok-tries.tries (first_of (codes "tries") (rows_of (found_of c.args.matches.now))) c.in_ok-tries.ensures).1)

pub overflow_cast-result-2 : goal.overflow_cast-result-2
overflow_cast-result-2 c = omega (arith, (number-bounds 0 4294967295 c.in_ok-items.items (first_of (codes "items") (rows_of (found_of c.args.matches.now))) c.in_ok-items.ensures).1)

pub overflow_cast-result-3 : goal.overflow_cast-result-3
overflow_cast-result-3 c = omega (arith, (number-bounds 0 4294967295 c.in_ok-stripes.stripes (first_of (codes "stripes") (rows_of (found_of c.args.matches.now))) c.in_ok-stripes.ensures).1)
