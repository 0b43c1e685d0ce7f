use Rattle.std.proofs.Common.{ℕ, ◌≡◌, ◌+◌, ◌*◌, ◌-◌, ◌≤◌, ◌∙◌, List, drop, length, refl, ap, slice_index, subst, sym, take, arith}
use Rattle.std.proofs.lemmas.List.{take_all, take_more_set}
use Rattle.mc_cache.specs.Batches.{InOrder}
use Rattle.mc_cache.proofs.InOrder.{one_more}
use Rattle.mc_door.specs.Roles.{role_of}
use Rattle.mc_door.specs.Batches.{entries_of}
use Rattle.mc_door.specs.declared.outcome.RawPut.{RawPut}
use Rattle.mc_door.proofs.ManyPuts.{entries_many, entries_more}
use Rattle.cefrodil.specs.Batches.{HasPutEntry}
use Rattle.cefrodil.proofs.batches.put_all.Goals as goal

pub loop-index-preserved : goal.loop-index-preserved
loop-index-preserved g c =
    let V = g.row.V in let n = c.loop-index.index in let keys = c.args.keys.now in let values = c.args.values.now in
    let v = take (n * V + V - n * V) (drop (n * V) values) in
    let wide : n * V + V - n * V ≡ V = omega arith in
    let more = entries_more V keys values n (slice_index keys n) v c.loop-index-test.true refl (ap (λ (m : ℕ). take m (drop (n * V) values)) (sym wide)) in
    let told = take_more_set c.loop-index.answers n c.put.result (omega (arith, c.loop-index-test.true, c.loop-index.auto.answers ∙ c.requires.answers)) in
    subst (λ (y : List (ℕ × List ℕ) × List RawPut). InOrder (HasPutEntry V) y.0 (role_of c.args.side.now) (role_of c.put.new.side) y.1) (λ j. (sym more j, sym told j))
    (one_more (HasPutEntry V) (take n (entries_of V keys values)) (slice_index keys n, v) (role_of c.args.side.now) (role_of c.loop-index.side) (role_of c.put.new.side) (take n c.loop-index.answers) c.put.result
    c.loop-index.invariant c.put.ensures)

pub returns : goal.returns
returns g c =
    let V = g.row.V in let n = c.loop-index.index in let keys = c.args.keys.now in let values = c.args.values.now in
    let ends : length keys ≤ n = omega (arith, c.loop-index-test.false) in
    subst (λ (y : List (ℕ × List ℕ) × List RawPut). InOrder (HasPutEntry V) y.0 (role_of c.args.side.now) (role_of c.loop-index.side) y.1)
    (λ j. (take_all n (entries_of V keys values) (omega (arith, ends, entries_many V keys values)) j, take_all n c.loop-index.answers (omega (arith, ends, c.loop-index.auto.answers ∙ c.requires.answers)) j)) c.loop-index.invariant
