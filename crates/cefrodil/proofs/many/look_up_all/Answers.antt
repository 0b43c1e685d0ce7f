use Rattle.std.proofs.Common.{◌≡◌, ◌+◌, ◌*◌, ◌-◌, ◌≤◌, drop, length, length-drop, refl, take, ◌∙◌, slice_index, arith}
use Rattle.std.proofs.lemmas.List.{length-take-le}
use Rattle.std.proofs.lemmas.Nat.{row_fits}
use Rattle.mc_door.specs.Roles.{role_of}
use Rattle.cefrodil.proofs.ManyLookups.{one_more, all_looked_up}
use Rattle.cefrodil.proofs.many.look_up_all.Goals as goal

pub loop-index-preserved : goal.loop-index-preserved
loop-index-preserved g c =
    let V = g.row.V in let n = c.loop-index.index in let values = c.loop-index.values in
    let long : length values ≡ length c.args.keys.now * V = c.loop-index.auto.values ∙ c.requires.values in
    let row : n * V + V ≤ length c.args.keys.now * V = row_fits n V (length c.args.keys.now) V c.loop-index-test.true (omega arith) in
    let room : n * V + V ≤ length values = omega (arith, long, row) in
    let wide : n * V + V - n * V ≡ V = omega arith in
    let cut : length (take (n * V + V - n * V) (drop (n * V) values)) ≡ n * V + V - n * V =
    length-take-le (n * V + V - n * V) (drop (n * V) values) (omega (arith, length-drop (n * V) values, room)) in
    one_more V (role_of c.args.side.now) (role_of c.loop-index.side) (role_of c.look_up.new.side) c.args.keys.now c.args.values.now values c.loop-index.answers n (n * V + V - n * V)
    (slice_index c.args.keys.now n) c.look_up.new.value _ c.look_up.result c.loop-index.invariant c.loop-index-test.true (c.loop-index.auto.answers ∙ c.requires.answers) room refl wide
    c.look_up.ensures.looked (c.look_up.auto.value ∙ cut ∙ wide) refl

pub returns : goal.returns
returns g c =
    let V = g.row.V in
    all_looked_up V (role_of c.args.side.now) (role_of c.loop-index.side) c.args.keys.now c.args.values.now c.loop-index.values c.loop-index.answers c.loop-index.index c.loop-index.invariant
    (omega arith) c.requires.values (c.loop-index.auto.answers ∙ c.requires.answers)
