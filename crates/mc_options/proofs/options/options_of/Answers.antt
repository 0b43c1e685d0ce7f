use Rattle.std.proofs.Common.{List, map, subst, inl, inr}
use Rattle.std.specs.Prelude.{Ok, Err}
use Rattle.clap.specs.Words.{Row, app_of}
use Rattle.clap.specs.declared.parser.matches.ArgMatches.{ArgMatches}
use Rattle.mc_options.specs.declared.options.Options.{Options}
use Rattle.mc_options.specs.Options.{Says}
use Rattle.mc_options.proofs.CommandLines.{fails_by, finds}
use Rattle.mc_options.proofs.options.options_of.Goals as goal

pub returns-in-Err : goal.returns-in-Err
returns-in-Err g c =
    let mixes = c.in_ok-command.ensures in
    let fails = fails_by {T = ArgMatches} (app_of c.in_ok-command.command) c.args.program.name.now mixes.0 (map g.S.AsStr.text c.args.words.now) (Err c.in-Err.error) mixes.2 c.in-Err.ensures.kinds in
    elim fails [ inl short ↦ inl short | inr fault ↦ inr (inl (mixes.0, mixes.1, fault)) ]

pub returns-in-Ok-options_in : goal.returns-in-Ok-options_in
returns-in-Ok-options_in g c =
    let mixes = c.in_ok-command.ensures in
    let words = map g.S.AsStr.text c.args.words.now in
    let taken = fails_by {T = ArgMatches} (app_of c.in_ok-command.command) c.args.program.name.now mixes.0 words (Ok c.in-Ok.matches) mixes.2 c.in-Ok.ensures.kinds in
    let found = finds (app_of c.in_ok-command.command) c.args.program.name.now mixes.0 words c.in-Ok.matches mixes.2 c.in-Ok.ensures.ok.2 in
    (mixes.0, mixes.1, taken, subst (λ (rows : List Row). Says rows c.in-Ok-options_in.options) found c.in-Ok-options_in.ensures)

pub returns : goal.returns
returns g c =
    let mixes = c.in_ok-command.ensures in
    let words = map g.S.AsStr.text c.args.words.now in
    let taken = fails_by {T = ArgMatches} (app_of c.in_ok-command.command) c.args.program.name.now mixes.0 words (Ok c.in-Ok.matches) mixes.2 c.in-Ok.ensures.kinds in
    let found = finds (app_of c.in_ok-command.command) c.args.program.name.now mixes.0 words c.in-Ok.matches mixes.2 c.in-Ok.ensures.ok.2 in
    elim c.refusal.ensures [ inl short ↦ inl short | inr refused ↦ inr (inr (refused, (mixes.0, mixes.1, taken, subst (λ (rows : List Row). (o : Options) → Says rows o → ⊥) found c.in-Err-options_in.ensures))) ]
