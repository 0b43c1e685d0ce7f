use Rattle.std.proofs.Common.{map}
use Rattle.clap.specs.Words.{kind_of}
use Rattle.mc_load.specs.LoadPrograms.Loads.{loads}
use Rattle.mc_load.proofs.LoadRuns.{few_at_once, load_fault}
use Rattle.mc_load.proofs.load_run.run_load.Goals as goal

pub returns-in-Err : goal.returns-in-Err
returns-in-Err g c = load_fault (map g.S.AsStr.text c.args.words.now) (kind_of c.in-Err.error) _ _ _ c.in-Err.ensures c.tell_fault.ensures

pub returns : goal.returns
returns g c = loads c.in-Ok.options c.in-Ok.ensures c.run_for.ensures

pub run_for-requires-clause-many : goal.run_for-requires-clause-many
run_for-requires-clause-many g c κs lives = few_at_once (map g.S.AsStr.text c.args.words.now) c.in-Ok.options c.in-Ok.ensures
