use Rattle.std.proofs.Common.{rules, arith, ◌≡◌, Some, refl, sym, subst}
use Rattle.mc_lookup.specs.Machine.{next_access}
use Rattle.mc_theory.specs.declared.access.Access.TheVariants as access
use Rattle.mc_lookup.specs.declared.lookup.Lookup.{Lookup}
use Rattle.mc_shared.specs.Records.{ReaderRecord}
use Rattle.mc_reader.specs.Inside.Course.{Leads}
use Rattle.mc_reader.proofs.Course.{leads_self, leads_on, leads_trans, version_next, version_read, next_within}
use Rattle.mc_reader.proofs.running_lookup.try_once.Goals as goal
use Rattle.mc_reader.proofs.running_lookup.try_once.Goals.{in-Some, in_default}

pub read_at-version-requires : goal.read_at-version-requires
read_at-version-requires g c =
    let V = g.row.V in
    let sh = c.args.cells.now.layout.shape in
    let lookup = c.args.lookup.now in
    let next : next_access {V = V} lookup ≡ Some (access.Version c.stripe-stripe.result) = search rules in
    let place = version_read V sh lookup lookup.key c.stripe-stripe.result c.args.places.version c.requires.shape refl c.stripe-stripe.ensures c.requires.places.version in
    (omega arith, (search rules, (place, next_within V sh lookup _ _ c.requires.shape next place)))

pub returns-else-after_first-clause-leads : goal.returns-else-after_first-clause-leads
returns-else-after_first-clause-leads g c =
    let V = g.row.V in
    let sh = c.args.cells.now.layout.shape in
    leads_on V sh c.args.seat.now c.args.seat.now c.read_at-version.new.reader c.args.lookup.now c.args.lookup.now c.after_first.new.self _ _ c.read_at-version.result
    (leads_self V sh c.args.seat.now c.args.lookup.now) c.read_at-version.ensures.of c.read_at-version.ensures.number c.read_at-version.ensures.one (sym (version_next V c.args.lookup.now c.stripe-stripe.result c.stripe-stripe.ensures)) c.after_first.ensures.takes

pub returns-after-hit-clause-leads : goal.returns-after-hit-clause-leads
returns-after-hit-clause-leads g c =
    let V = g.row.V in
    let sh = c.args.cells.now.layout.shape in
    let old = c.args.seat.now in
    let lookup = c.args.lookup.now in
    let first = leads_on V sh old old c.read_at-version.new.reader lookup lookup c.after_first.new.self _ _ c.read_at-version.result
    (leads_self V sh old lookup) c.read_at-version.ensures.of c.read_at-version.ensures.number c.read_at-version.ensures.one (sym (version_next V lookup c.stripe-stripe.result c.stripe-stripe.ensures)) c.after_first.ensures.takes in
    let slots = leads_trans V sh old c.read_at-version.new.reader c.scan-hit.new.seat lookup c.after_first.new.self c.scan-hit.new.lookup first c.scan-hit.ensures.leads in
    let value : Leads V sh old lookup c.match-hit.seat c.match-hit.lookup = elim c.match-hit.branch [
      | in-Some w ↦ subst (λ (y : ReaderRecord × Lookup V). Leads V sh old lookup y.0 y.1) (λ i. (sym w.seat-is i, sym w.lookup-is i))
          (leads_trans V sh old c.scan-hit.new.seat w.read_held.new.seat lookup c.scan-hit.new.lookup w.read_held.new.lookup slots w.read_held.ensures.leads)
      | in_default w ↦ subst (λ (y : ReaderRecord × Lookup V). Leads V sh old lookup y.0 y.1) (λ i. (sym w.seat-is i, sym w.lookup-is i)) slots
    ] in
    leads_trans V sh old c.match-hit.seat c.conclude.new.seat lookup c.match-hit.lookup c.conclude.new.lookup value c.conclude.ensures.leads
