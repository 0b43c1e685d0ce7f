use Rattle.std.proofs.Common.{◌∙◌, ap, ap₂, map}
use Rattle.std.proofs.lemmas.Result.{IfOk-weaker}
use Rattle.clap.specs.Words.{with_rule}
use Rattle.mc_options.specs.Options.{with_rules}
use Rattle.mc_options.specs.Inside.OptionRows.{row_rule}
use Rattle.mc_options.proofs.options.command.Goals as goal

pub returns : goal.returns
returns c =
    let mixes = c.step_rows-rows.ensures in
    let rows = ap (map row_rule) c.as_slice.ensures ∙ mixes.2 in
    let filled = c.in_ok-command.ensures ∙ ap₂ with_rules c.named.ensures rows in
    IfOk-weaker c.arg.result _ _ (λ r added. (mixes.0, mixes.1, added.shape c.option.ensures.local ∙ ap₂ with_rule filled (c.option.ensures.rule ∙ c.words_row.ensures))) c.arg.ensures
