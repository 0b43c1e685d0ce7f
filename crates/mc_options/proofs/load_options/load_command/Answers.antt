use Rattle.std.proofs.Common.{◌∙◌, ap, ap₂, map}
use Rattle.std.proofs.lemmas.Result.{IfOk-weaker}
use Rattle.mc_options.specs.LoadOptions.{flags}
use Rattle.mc_options.specs.Options.{with_rules}
use Rattle.mc_options.specs.Inside.OptionRows.{row_rule}
use Rattle.mc_options.proofs.load_options.load_command.Goals as goal

pub returns : goal.returns
returns c =
    let named = c.in_ok-load_named.ensures in
    let mixes = c.shared_load_rows-rows.ensures in
    let rows = ap (map row_rule) c.as_slice.ensures ∙ mixes.2 in
    let shared = c.in_ok-command.ensures ∙ ap₂ with_rules named.2 rows in
    let own = ap (map row_rule) c.as_slice-2.ensures ∙ c.load_rows-rows.ensures in
    let filled = c.in_ok-command-2.ensures ∙ ap₂ with_rules shared own in
    IfOk-weaker c.with_flags.result _ _ (λ r added. (named.0, mixes.0, named.1, mixes.1, added ∙ ap (λ app. with_rules app flags) filled)) c.with_flags.ensures
