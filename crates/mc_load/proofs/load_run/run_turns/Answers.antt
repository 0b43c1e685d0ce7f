use Rattle.std.proofs.Common.{ℕ, List, inl, inr, subst}
use Rattle.std.proofs.KnownBytes.{Keeps-refl}
use Rattle.mc_load.specs.LoadPrograms.{WritesLines}
use Rattle.mc_options.specs.Streams.{stream}
use Rattle.mc_load.proofs.load_run.run_turns.Goals as goal

pub returns-in-Ok : goal.returns-in-Ok
returns-in-Ok g c =
    inr (inl (
      c.requires.several,
      (
        c.in-Ok.run'.report,
        c.in-Ok.ensures.report,
        subst (λ (t : List ℕ). WritesLines c.args.options.histogram (stream (g.W.Write.contents c.args.output.now) (g.W.Write.contents c.write_told.new.output)) t c.write_told.result) c.of_turns-told.ensures c.write_told.ensures,
        Keeps-refl (g.E.Write.contents c.args.errors.now),
      ),
    ))

pub returns-in-Err : goal.returns-in-Err
returns-in-Err g c =
    inr (inr (
      c.in-Err.why,
      inr (c.requires.several, c.in-Err.ensures),
      Keeps-refl (g.W.Write.contents c.args.output.now),
      c.refuse.ensures.told,
      c.refuse.ensures.status,
    ))
