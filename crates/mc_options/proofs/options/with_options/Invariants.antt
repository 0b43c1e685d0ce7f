use Rattle.std.proofs.Common.{◌≡◌, drop, map}
use Rattle.clap.specs.Words.{app_of}
use Rattle.mc_options.specs.Options.{with_rules}
use Rattle.mc_options.specs.Inside.OptionRows.{row_rule}
use Rattle.mc_options.proofs.options.with_options.Given as goal

abbrev pub invariant-rows : goal.invariant-rows
invariant-rows l = record {
  left : with_rules (app_of l.command) (map row_rule (drop l.row-index l.rows)) ≡ with_rules (app_of l.initial.command) (map row_rule l.rows);
}
