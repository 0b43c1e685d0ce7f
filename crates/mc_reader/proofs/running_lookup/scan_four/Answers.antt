use Rattle.std.proofs.Common.{rules, ◌≡◌, ◌+◌, ◌<◌, ℕ, Some, ⊎_elim, refl, ap, sym, ◌∙◌, subst, arith}
use Rattle.mc_lookup.specs.Machine.{slots_from, stage_of, shape_for, next_access}
use Rattle.mc_words.specs.Places.{item_place}
use Rattle.mc_shared.specs.declared.layout.Layout.{Layout}
use Rattle.mc_theory.specs.declared.access.Access.TheVariants as access
use Rattle.mc_lookup.specs.declared.lookup.Lookup.{Lookup}
use Rattle.mc_shared.specs.Records.{ReaderRecord}
use Rattle.mc_reader.specs.Inside.Course.{Leads}
use Rattle.mc_words.specs.declared.checked.Checked.{Checked}
use Rattle.mc_words.specs.declared.place.Place.{Place}
use Rattle.mc_lookup.specs.declared.stage.Stage.TheVariants as stage
use Rattle.mc_reader.proofs.Course.{leads_on, next_is, slot_read, slots_below, next_within}
use Rattle.mc_reader.proofs.running_lookup.scan_four.Goals as goal
use Rattle.mc_reader.proofs.running_lookup.scan_four.Goals.{in-Some+else-after_key, in_default}

pub returns-then-after_key-clause-leads : goal.returns-then-after_key-clause-leads
returns-then-after_key-clause-leads g c =
    let V = g.row.V in
    let sh = c.args.cells.now.layout.shape in
    let slot = leads_on V sh c.args.seat.now c.loop-j.seat c.read_at-word.new.reader c.args.lookup.now c.loop-j.lookup c.after_slot.new.self _ _ c.read_at-word.result
    c.loop-j.invariant.leads c.read_at-word.ensures.of c.read_at-word.ensures.number c.read_at-word.ensures.one (ap access.Slot c.place.ensures) c.after_slot.ensures.takes in
    leads_on V sh c.args.seat.now c.read_at-word.new.reader c.read_at-key.new.reader c.args.lookup.now c.after_slot.new.self c.after_key.new.self (access.Key c.in-Some.i) (access.Key c.in-Some.i) c.read_at-key.result
    slot c.read_at-key.ensures.of c.read_at-key.ensures.number c.read_at-key.ensures.one refl c.after_key.ensures.takes

pub loop-j-preserved : goal.loop-j-preserved
loop-j-preserved g c =
    let plus : c.args.from + c.loop-j.j + 1 ≡ c.args.from + (c.loop-j.j + 1) = omega arith in
    let V = g.row.V in
    let sh = c.args.cells.now.layout.shape in
    let slot = leads_on V sh c.args.seat.now c.loop-j.seat c.read_at-word.new.reader c.args.lookup.now c.loop-j.lookup c.after_slot.new.self _ _ c.read_at-word.result
    c.loop-j.invariant.leads c.read_at-word.ensures.of c.read_at-word.ensures.number c.read_at-word.ensures.one (ap access.Slot c.place.ensures) c.after_slot.ensures.takes in
    elim c.match-after_slot.branch [
      | in-Some+else-after_key w ↦ (
          let both = leads_on V sh c.args.seat.now c.read_at-word.new.reader w.read_at-key.new.reader c.args.lookup.now c.after_slot.new.self w.after_key.new.self (access.Key w.in-Some.i) (access.Key w.in-Some.i) w.read_at-key.result
          slot w.read_at-key.ensures.of w.read_at-key.ensures.number w.read_at-key.ensures.one refl w.after_key.ensures.takes in
          record {
            leads = subst (λ (y : ReaderRecord × Lookup V). Leads V sh c.args.seat.now c.args.lookup.now y.0 y.1) (λ i. (sym w.seat-is i, sym w.lookup-is i)) both;
            stage = subst (λ (y : Lookup V). stage_of y ≡ slots_from (c.args.from + c.loop-j.j + 1)) (sym w.lookup-is) w.if-after_key.ensures.goes ∙ ap slots_from plus;
          })
      | in_default w ↦ record {
        leads = subst (λ (y : ReaderRecord × Lookup V). Leads V sh c.args.seat.now c.args.lookup.now y.0 y.1) (λ i. (sym w.seat-is i, sym w.lookup-is i)) slot;
        stage = subst (λ (y : Lookup V). stage_of y ≡ slots_from (c.args.from + c.loop-j.j + 1)) (sym w.lookup-is) w.in_default.ensures.goes ∙ ap slots_from plus;
      }
    ]

pub read_at-word-requires : goal.read_at-word-requires
read_at-word-requires g c =
    let V = g.row.V in
    let sh = c.args.cells.now.layout.shape in
    let l = c.loop-j.lookup in
    let leads = c.loop-j.invariant.leads in
    let shape = ap (λ (x : Checked). x.shape) leads.shape ∙ c.requires.shape in
    let below : c.args.from + c.loop-j.j < 8 = ⊎_elim (λ (e : c.args.from ≡ 0). omega (arith, e, c.loop-j-test.true)) (λ (e : c.args.from ≡ 4). omega (arith, e, c.loop-j-test.true)) c.requires.from in
    let next = next_is V l (stage.Slot (c.args.from + c.loop-j.j)) (access.Slot c.place.result) (c.loop-j.invariant.stage ∙ slots_below (c.args.from + c.loop-j.j) below) (ap (λ (p : Place). Some (access.Slot p)) (sym c.place.ensures)) in
    let place = slot_read V sh l c.args.lookup.now.key c.args.from c.loop-j.j c.args.row c.place.result shape leads.key c.place.ensures c.requires.from c.loop-j-test.true c.requires.row
    ∙ ap (λ (n : ℕ). Some (c.args.row + n)) (sym c.from.ensures) in
    (omega arith, (leads.of ∙ c.requires.of, (place, next_within V sh l _ _ shape next place)))

pub read_at-key-requires : goal.read_at-key-requires
read_at-key-requires g c =
    let V = g.row.V in
    let sh = c.args.cells.now.layout.shape in
    let lookup = c.after_slot.new.self in
    let shape : shape_for {V = V} lookup ≡ sh = search rules in
    let next : next_access {V = V} lookup ≡ Some (access.Key c.in-Some.i) = search rules in
    let place = ap Some (ap (λ (l : Layout). item_place V l.shape c.in-Some.i 0) c.checked.ensures.layout ∙ sym c.item_from-place.ensures) in
    (omega arith, (search rules, (place, next_within V sh lookup _ _ shape next place)))
