-- The rules that the tables of options make.
use Rattle.std.specs.Prelude.{List, ◌++◌}
use Rattle.clap.specs.Words.{Rule}
use Rattle.mc_options.specs.LoadOptions.{load_bounds, load_others, load_sizes}
use Rattle.mc_options.specs.Options.{MixNames, bounds, option, others, sizes, step_bounds, step_others, step_sizes}
use Rattle.mc_options.specs.declared.options.Defaults.{Defaults}
use Rattle.mc_options.specs.declared.options.OptionRow.{OptionRow}

-- the rule of a row
abbrev pub row_rule : OptionRow → Rule
row_rule row = option row.name.now row.takes row.default.now

-- the rules of the options that both programs have, in the order of their help
abbrev pub shared_rules : MixNames → Defaults → List Rule
shared_rules mixes d = sizes d.buckets.now d.items.now d.stripes.now ++ bounds d.depth.now d.tries.now ++ others mixes d.mix.now d.readers.now

-- those of `mcstep`
abbrev pub step_rules : MixNames → List Rule
step_rules mixes = step_sizes ++ step_bounds ++ step_others mixes

-- those of `mcload`
abbrev pub shared_load_rules : MixNames → List Rule
shared_load_rules mixes = load_sizes ++ load_bounds ++ load_others mixes
