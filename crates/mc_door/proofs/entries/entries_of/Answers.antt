use Rattle.std.proofs.Common.{◌≡◌, ◌+◌, ◌*◌, ◌++◌, ◌<◌, ◌≤◌, ◌-◌, ◌∙◌, List, ℕ, ap, drop, length, slice_index, subst, sym, take, arith}
use Rattle.std.proofs.lemmas.Nat.{row_fits}
use Rattle.mc_door.specs.Loading.{entries_in}
use Rattle.mc_door.proofs.MoreEntries.{no_more, one_more}
use Rattle.mc_door.proofs.entries.entries_of.Goals as goal

pub loop-index-preserved : goal.loop-index-preserved
loop-index-preserved g c =
    let V = g.row.V in let n = c.loop-index.index in let words = c.args.words.now in let at : ℕ = n * (1 + V) in
    let row : n * (1 + V) + (1 + V) ≤ c.args.count * (1 + V) = row_fits n (1 + V) c.args.count (1 + V) c.loop-index-test.true (omega arith) in
    let inside : at < length words = omega (arith, row, c.requires) in
    let key : ℕ = slice_index words (at + 1 - 1) in
    let is : slice_index words at ≡ key = ap (λ (k : ℕ). slice_index words k) (omega arith) in
    let behind : take V (drop (at + 1) words) ≡ c.array_of-value.result = ap (λ (k : ℕ). take k (drop (at + 1) words)) (omega arith) ∙ sym c.array_of-value.ensures in
    λ rest sum. subst (λ (es : List (ℕ × List ℕ)). es ++ entries_in V rest (drop ((n + 1) * (1 + V)) words) ≡ entries_in V c.args.count words) (sym c.in_ok-push.ensures.items)
    (one_more V c.args.count words c.loop-index.entries.items n at ((n + 1) * (1 + V)) key c.array_of-value.result c.loop-index.invariant inside is behind (omega arith) rest sum)

pub returns : goal.returns
returns g c = no_more g.row.V c.args.count c.args.words.now c.loop-index.entries.items c.loop-index.index (c.loop-index.index * (1 + g.row.V)) c.loop-index.invariant (omega arith)
