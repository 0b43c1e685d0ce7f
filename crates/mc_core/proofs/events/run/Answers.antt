use Rattle.std.proofs.Common.{subst}
use Rattle.mc_core.specs.Inside.Parts.{view_of}
use Rattle.mc_core.specs.Runs.{RunsTruly}
use Rattle.mc_core.specs.Seen.{WorldView, Shows}
use Rattle.mc_words.specs.Shapes.{IsShape}
use Rattle.mc_theory.specs.Traces.{Trace}
use Rattle.mc_core.proofs.WorldSteps.{reached_append, reached_true}
use Rattle.mc_core.proofs.EventLists.{has_run, reached_made}
use Rattle.mc_core.proofs.events.run.Goals as goal

pub invariant_of-world-2 : goal.invariant_of-world-2
invariant_of-world-2 g c = reached_made c.world.inside.parts c.run.new.self _ _ _ c.world.invariant (c.in-Ok.ensures {u = tt}).ok.0

pub returns-clause-ran : goal.returns-clause-ran
returns-clause-ran g c =
    let ok = (c.in-Ok.ensures {u = tt}).ok in
    let ran = has_run c.world.inside.parts c.run.new.self c.args.events.now c.in-Ok.done.items c.in-Ok.stopped c.world.invariant ok.0 ok.1 in
    let sound : IsShape (view_of {V = g.row.V} c.world.inside.parts).shape = c.world.inside.parts.writer.table.checked.sound in
    subst (λ (old : WorldView g.row.V). (seen : Trace g.row.V) → Shows {V = g.row.V} old seen →
    (x : Trace g.row.V) × RunsTruly {V = g.row.V} old (view_of {V = g.row.V} c.run.new.self) c.args.events.now (record { done = c.in-Ok.done; stopped = c.in-Ok.stopped }) seen x) c.world.view_is
    (λ seen shows.
    let did = ran seen shows in (
      did.0,
      record {
        made = did.1;
        shows = did.2;
        reached = λ reached. reached_append g.row.V _ seen did.0 _ reached did.1.runs;
        true = λ reached. reached_true g.row.V _ did.0 sound (reached_append g.row.V _ seen did.0 _ reached did.1.runs);
      },
    ))
