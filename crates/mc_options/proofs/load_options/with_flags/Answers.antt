use Rattle.std.proofs.Common.{◌∙◌, ap₂}
use Rattle.std.proofs.lemmas.Result.{IfOk-weaker}
use Rattle.clap.specs.Words.{app_of, with_rule}
use Rattle.mc_options.proofs.load_options.with_flags.Goals as goal

pub returns : goal.returns
returns c =
    let first = c.in_ok-command.ensures.shape c.flag.ensures.local ∙ ap₂ with_rule (λ _. app_of c.args.command) c.flag.ensures.rule in
    IfOk-weaker c.arg-2.result _ _ (λ r added. added.shape c.flag-2.ensures.local ∙ ap₂ with_rule first c.flag-2.ensures.rule) c.arg-2.ensures
