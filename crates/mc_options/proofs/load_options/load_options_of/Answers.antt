use Rattle.std.proofs.Common.{List, map, subst, inl, inr}
use Rattle.std.specs.Prelude.{Ok, Err}
use Rattle.clap.specs.Words.{Row, app_of}
use Rattle.clap.specs.declared.parser.matches.ArgMatches.{ArgMatches}
use Rattle.mc_options.specs.declared.load_options.LoadOptions.{LoadOptions}
use Rattle.mc_options.specs.LoadOptions.{SaysLoad}
use Rattle.mc_options.proofs.LoadCommandLines.{load_fails_by, load_finds}
use Rattle.mc_options.proofs.load_options.load_options_of.Goals as goal

pub returns-in-Err : goal.returns-in-Err
returns-in-Err g c =
    let names = c.in_ok-command.ensures in
    let fails = load_fails_by {T = ArgMatches} (app_of c.in_ok-command.command) names.0 names.1 (map g.S.AsStr.text c.args.words.now) (Err c.in-Err.error) names.4 c.in-Err.ensures.kinds in
    elim fails [ inl short ↦ inl short | inr fault ↦ inr (inl (names.0, names.1, names.2, names.3, fault)) ]

pub returns-in-Ok-load_options_in : goal.returns-in-Ok-load_options_in
returns-in-Ok-load_options_in g c =
    let names = c.in_ok-command.ensures in
    let words = map g.S.AsStr.text c.args.words.now in
    let taken = load_fails_by {T = ArgMatches} (app_of c.in_ok-command.command) names.0 names.1 words (Ok c.in-Ok.matches) names.4 c.in-Ok.ensures.kinds in
    let found = load_finds (app_of c.in_ok-command.command) names.0 names.1 words c.in-Ok.matches names.4 c.in-Ok.ensures.ok.2 in
    (names.0, names.1, names.2, names.3, taken, subst (λ (rows : List Row). SaysLoad rows c.in-Ok-load_options_in.options) found c.in-Ok-load_options_in.ensures)

pub returns : goal.returns
returns g c =
    let names = c.in_ok-command.ensures in
    let words = map g.S.AsStr.text c.args.words.now in
    let taken = load_fails_by {T = ArgMatches} (app_of c.in_ok-command.command) names.0 names.1 words (Ok c.in-Ok.matches) names.4 c.in-Ok.ensures.kinds in
    let found = load_finds (app_of c.in_ok-command.command) names.0 names.1 words c.in-Ok.matches names.4 c.in-Ok.ensures.ok.2 in
    elim c.refusal.ensures [ inl short ↦ inl short | inr refused ↦ inr (inr (refused, (names.0, names.1, names.2, names.3, taken, subst (λ (rows : List Row). (o : LoadOptions) → SaysLoad rows o → ⊥) found c.in-Err-load_options_in.ensures))) ]
