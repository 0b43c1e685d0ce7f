use Rattle.std.proofs.Common.{◌≡◌, ◌<◌, ◌+◌, ◌∙◌, ℕ, List, add-one, ap, drop, drop-cons, drop_of_length-le, get_or, length, map, refl, sym}
use Rattle.clap.specs.Words.{App, app_of, with_rule}
use Rattle.mc_options.specs.declared.options.OptionRow.{OptionRow}
use Rattle.mc_options.specs.Options.{with_rules}
use Rattle.mc_options.specs.Inside.OptionRows.{row_rule}
use Rattle.mc_options.proofs.options.with_options.Goals as goal

-- a row comes after those before it, and the others after the row
one_more : (app : App) (rows : List OptionRow) (i : ℕ) (row : OptionRow) → i < length rows
    → with_rules (with_rule app (row_rule (get_or rows i row))) (map row_rule (drop (i + 1) rows)) ≡ with_rules app (map row_rule (drop i rows))
one_more app rows i row below = rw (add-one, drop-cons rows i row below) refl

pub rows-preserved : goal.rows-preserved
rows-preserved c =
    let rows = c.args.rows.now in
    let i = c.rows.row-index in
    let added = c.in_ok-command.ensures.shape c.option.ensures.local ∙ ap (with_rule (app_of c.rows.command)) c.option.ensures.rule in
    record { left = ap (λ (app : App). with_rules app (map row_rule (drop (i + 1) rows))) added ∙ one_more (app_of c.rows.command) rows i _ c.rows-test.true ∙ c.rows.invariant.left }

pub returns : goal.returns
returns c = ap (λ (rows : List OptionRow). with_rules (app_of c.rows.command) (map row_rule rows)) (sym (drop_of_length-le c.args.rows.now c.rows-test.false)) ∙ c.rows.invariant.left
