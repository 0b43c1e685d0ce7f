use Rattle.std.proofs.Common.{arith, codes}
use Rattle.clap.specs.Words.{first_of, found_of, rows_of}
use Rattle.mc_options.proofs.CommandLines.{number-bounds}
use Rattle.mc_options.proofs.load_options.load_options_in.Goals as goal

pub returns-in-Err : goal.returns-in-Err
returns-in-Err c = λ o says. c.in-Err.ensures o.shape says.shape

pub overflow_cast-result-2 : goal.overflow_cast-result-2
overflow_cast-result-2 c = omega (arith, (number-bounds 0 1048576 c.in_ok-lookups.lookups (first_of (codes "lookups") (rows_of (found_of c.args.matches.now))) c.in_ok-lookups.ensures).1)

pub overflow_cast-result-3 : goal.overflow_cast-result-3
overflow_cast-result-3 c = omega (arith, (number-bounds 1 64 c.in_ok-many.many (first_of (codes "many") (rows_of (found_of c.args.matches.now))) c.in_ok-many.ensures).1)

pub overflow_cast-result-4 : goal.overflow_cast-result-4
overflow_cast-result-4 c = omega (arith, (number-bounds 0 4294967295 c.in_ok-shards.shards (first_of (codes "shards") (rows_of (found_of c.args.matches.now))) c.in_ok-shards.ensures).1)

pub overflow_cast-result-5 : goal.overflow_cast-result-5
overflow_cast-result-5 c = omega (arith, (number-bounds 0 4294967295 c.in_ok-writers.writers (first_of (codes "writers") (rows_of (found_of c.args.matches.now))) c.in_ok-writers.ensures).1)

pub overflow_cast-result-6 : goal.overflow_cast-result-6
overflow_cast-result-6 c = omega (arith, (number-bounds 0 1048576 c.in_ok-writes.writes (first_of (codes "writes") (rows_of (found_of c.args.matches.now))) c.in_ok-writes.ensures).1)
