use Rattle.std.proofs.Common.{◌≡◌, arith}
use Rattle.mc_step.proofs.WholeRuns.{runs_accepted}
use Rattle.mc_step.proofs.step.run_options.Goals as goal

pub returns-else-options-eq1 : goal.returns-else-options-eq1
returns-else-options-eq1 g c =
    let two : 2 ≡ c.args.options.words = omega arith in
    runs_accepted c.args.options 2 c.in-Ok.checked _ _ _ _ (c.in-Ok.ensures.0, c.in-Ok.ensures.1) two c.run_script-else-options-eq1.ensures
