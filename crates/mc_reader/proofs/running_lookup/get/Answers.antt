use Rattle.std.proofs.Common.{◌+◌, ◌*◌, List, ap, sym, ◌∙◌, subst, arith, inl}
use Rattle.std.specs.Prelude.{◌↔◌}
use Rattle.mc_words.specs.Checks.{policy_of}
use Rattle.mc_words.specs.Places.{payload}
use Rattle.mc_words.specs.Shapes.{IsShape}
use Rattle.mc_words.specs.declared.history.Reply.{Reply}
use Rattle.mc_words.specs.declared.shape.Shape.{Shape}
use Rattle.mc_theory.specs.Lookups.{IsLookup}
use Rattle.mc_theory.specs.Readings.{Reading}
use Rattle.mc_lookup.specs.Machine.{IsRemainder}
use Rattle.mc_shared.specs.Records.{Opening}
use Rattle.mc_shared.specs.Views.{layout_with}
use Rattle.mc_shared.specs.declared.layout.Layout.{Layout}
use Rattle.mc_reader.proofs.Course.{sets_out, ends, tells_true}
use Rattle.mc_reader.proofs.running_lookup.get.Goals as goal

pub loop-seat-init : goal.loop-seat-init
loop-seat-init g c =
    let V = g.row.V in
    let sh = c.args.cells.now.layout.shape in
    let e = ap (λ (l : Layout). l.shape) c.checked-checked.ensures.layout in
    let lookup = c.begin-lookup.result in
    record {
      way = sets_out V sh c.args.key c.args.seat.now lookup (c.begin-lookup.ensures.shape ∙ sym e)
          (subst (λ (z : Shape). (rs : List Reading) (reply : Reply V) → IsRemainder lookup rs reply ↔ IsLookup V z c.args.key z.tries rs reply) (sym e) c.begin-lookup.ensures.left)
          (c.begin-lookup.ensures.steps ∙ ap (λ (z : Shape). z.tries * (19 + payload V) + 1) (sym e));
      key = c.begin-lookup.ensures.key;
      stage = inl c.begin-lookup.ensures.stage;
    }

pub returns : goal.returns
returns g c =
    let V = g.row.V in
    let sh = c.args.cells.now.layout.shape in
    let layout = c.checked-checked.ensures.layout in
    let e = ap (λ (l : Layout). l.shape) layout in
    let of = ap (λ (o : Opening). o.layout) (c.loop-seat.invariant.way.of ∙ c.requires.of) ∙ (layout ∙ ap (layout_with V (policy_of c.checked-checked.result.now)) (sym e)) in
    let looked = ends V sh c.args.key c.args.seat.now c.loop-seat.seat c.loop-seat.lookup c.in-Some.reply of c.known.ensures.recorded (sym c.reply.ensures.reply ∙ c.in-Some.is) c.loop-seat.invariant.way in
    let true' = tells_true V sh c.args.key c.args.seat.now c.loop-seat.seat c.in-Some.reply (subst IsShape (sym e) c.checked-checked.result.now.sound) (omega arith) of c.known.ensures.lawful looked in
    record { looked = looked; truth = true'.0; between = true'.1 }
