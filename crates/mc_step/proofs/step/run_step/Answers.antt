use Rattle.std.proofs.Common.{List, codes, map, subst, sym}
use Rattle.std.proofs.KnownBytes.{Keeps-refl}
use Rattle.clap.specs.Words.{Text, first_of, kind_of}
use Rattle.mc_options.specs.Options.{GivesOptions, IsUnread, texts_of}
use Rattle.mc_step.specs.Programs.Runs.{runs}
use Rattle.mc_options.proofs.CommandLines.{number-bounds}
use Rattle.mc_step.proofs.WholeRuns.{runs_fault}
use Rattle.mc_step.proofs.step.run_step.Goals as goal

pub run_options-requires : goal.run_options-requires
run_options-requires g c =
    let words = map g.S.AsStr.text c.args.words.now in
    number-bounds 1 2 c.in-Ok.options.words (first_of (codes "words") (texts_of c.program.result.name.now c.in-Ok.ensures.0 words)) (sym c.in-Ok.ensures.3.words)

pub returns-in-Ok : goal.returns-in-Ok
returns-in-Ok g c =
    let words = map g.S.AsStr.text c.args.words.now in
    let gives = subst (λ (name : Text). GivesOptions name words c.in-Ok.options) c.program.ensures c.in-Ok.ensures in
    runs c.in-Ok.options gives c.run_options.ensures

pub returns-in-Err : goal.returns-in-Err
returns-in-Err g c =
    let words = map g.S.AsStr.text c.args.words.now in
    let why = subst (λ (name : Text). IsUnread name words (kind_of c.in-Err.error)) c.program.ensures c.in-Err.ensures in
    runs_fault words (kind_of c.in-Err.error) _ _ _ _ why (Keeps-refl (g.R.Read.remaining c.args.input.now)) c.tell_fault.ensures
