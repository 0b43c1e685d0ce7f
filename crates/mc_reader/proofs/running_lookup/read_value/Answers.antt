use Rattle.std.proofs.Common.{rules, arith, ◌≡◌, ◌+◌, ◌∙◌, ap, refl, sym, Some}
use Rattle.mc_words.specs.Places.{item_place}
use Rattle.mc_shared.specs.declared.layout.Layout.{Layout}
use Rattle.mc_theory.specs.declared.access.Access.TheVariants as access
use Rattle.mc_lookup.specs.Machine.{shape_for, next_access}
use Rattle.mc_reader.proofs.Course.{leads_on, next_within}
use Rattle.mc_reader.proofs.running_lookup.read_value.Goals as goal

pub loop-count-preserved : goal.loop-count-preserved
loop-count-preserved g c = record {
  leads = leads_on g.row.V c.args.cells.now.layout.shape c.args.seat.now c.loop-count.seat c.read_at-word.new.reader c.args.lookup.now c.loop-count.lookup c.after_value.new.self
      (access.Value c.args.i (c.loop-count.count + 1)) (access.Value c.args.i (c.loop-count.count + 1)) c.read_at-word.result
      c.loop-count.invariant.leads c.read_at-word.ensures.of c.read_at-word.ensures.number c.read_at-word.ensures.one refl c.after_value.ensures.takes;
  stage = c.after_value.ensures.goes;
}

pub read_at-word-requires : goal.read_at-word-requires
read_at-word-requires g c =
    let V = g.row.V in
    let sh = c.args.cells.now.layout.shape in
    let lookup = c.loop-count.lookup in
    let shape : shape_for {V = V} lookup ≡ sh = search rules in
    let next : next_access {V = V} lookup ≡ Some (access.Value c.args.i (c.loop-count.count + 1)) = search rules in
    let place = ap Some (ap (λ (l : Layout). item_place V l.shape c.args.i (c.loop-count.count + 1)) c.checked.ensures.layout ∙ sym c.item_from-place.ensures) in
    (omega arith, (search rules, (place, next_within V sh lookup _ _ shape next place)))
