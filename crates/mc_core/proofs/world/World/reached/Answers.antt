use Rattle.std.proofs.Common.{◌≡◌, ◌≤◌, length, subst, arith}
use Rattle.mc_words.specs.Shapes.{IsShape}
use Rattle.std.specs.Prelude.{All}
use Rattle.mc_core.specs.Inside.Parts.{shape_of_parts, view_of}
use Rattle.mc_core.specs.Seen.{WorldView, Shows}
use Rattle.mc_theory.specs.Traces.{Trace, IsBit, IsReached, IsTrueEnd}
use Rattle.mc_core.proofs.PackedBits.{bits_now}
use Rattle.mc_core.proofs.WorldSteps.{reached_true}
use Rattle.mc_core.proofs.world.World.reached.Goals as goal

pub returns-clause-events : goal.returns-clause-events
returns-clause-events g c =
    let is = c.self.invariant in
    let p = c.self.inside.parts in
    let true = reached_true g.row.V (shape_of_parts p) is.seen p.writer.table.checked.sound is.reached in
    subst (λ (now : WorldView g.row.V). (seen : Trace g.row.V) × IsReached g.row.V now.shape seen × Shows {V = g.row.V} now seen × All (IsTrueEnd g.row.V now.shape seen) seen.ended) c.self.view_is
    (is.seen, is.reached, is.stand.shows, true)

pub returns-clause-bits : goal.returns-clause-bits
returns-clause-bits g c =
    let is = c.self.invariant in
    let p = c.self.inside.parts in
    subst (λ (now : WorldView g.row.V). All IsBit now.bits) c.self.view_is (bits_now g.row.V (view_of {V = g.row.V} p) is.seen is.stand.shows is.reached).1

pub returns-clause-items : goal.returns-clause-items
returns-clause-items g c =
    let is = c.self.invariant in
    let p = c.self.inside.parts in
    subst (λ (now : WorldView g.row.V). length now.bits ≡ now.shape.items) c.self.view_is (bits_now g.row.V (view_of {V = g.row.V} p) is.seen is.stand.shows is.reached).0

pub returns-clause-shape : goal.returns-clause-shape
returns-clause-shape g c = subst (λ (now : WorldView g.row.V). IsShape now.shape) c.self.view_is c.self.inside.parts.writer.table.checked.sound

pub returns-clause-limit : goal.returns-clause-limit
returns-clause-limit g c = subst (λ (now : WorldView g.row.V). now.state.version_steps ≤ now.shape.limit) c.self.view_is (omega (arith, c.self.invariant.stand.within))
