use Rattle.std.proofs.Common.{◌≡◌, ◌+◌, ◌*◌, ◌-◌, ◌≤◌, ◌∙◌, ap, drop, length, length-drop, length-set, set, sym, take, arith, ℕ, List}
use Rattle.std.proofs.lemmas.List.{length-take-le}
use Rattle.std.proofs.lemmas.Nat.{row_fits}
use borrow.Rule.Slice.PartMut.{put_mid}
use Rattle.mc_door.proofs.ListedWords.{all_stamped_written, one_stamped_written}
use Rattle.mc_door.proofs.stamped.write_stamped.Goals as goal

pub returns : goal.returns
returns g c =
    let V = g.row.V in let n = c.loop-index.index in let es = c.args.entries.now in
    let end : length es ≡ n = omega (arith, c.loop-index.auto.index-end) in
    let long : length c.loop-index.words ≡ n * (2 + V) = c.loop-index.auto.words ∙ c.requires ∙ ap (λ (m : ℕ). m * (2 + V)) end in
    all_stamped_written es c.loop-index.words n (n * (2 + V)) c.loop-index.invariant (omega (arith, end)) (omega (arith, long))

pub loop-index-preserved : goal.loop-index-preserved
loop-index-preserved g c =
    let V = g.row.V in let n = c.loop-index.index in let es = c.args.entries.now in let words = c.loop-index.words in
    let at : ℕ = n * (2 + V) in
    let k : ℕ = at + 1 + V - (at + 1) in
    let long : length words ≡ length es * (2 + V) = c.loop-index.auto.words ∙ c.requires in
    let row : n * (2 + V) + (2 + V) ≤ length es * (2 + V) = row_fits n (2 + V) (length es) (2 + V) c.loop-index-test.true (omega arith) in
    let e = c.index-entries-index.result in
    let mid : List ℕ = set words at e.key in
    let valued : List ℕ = put_mid (at + 1) k mid c.copy_from_slice.new.self in
    let room : at + 2 + k ≤ length words = omega (arith, long, row) in
    let cut : length (take k (drop (at + 1) mid)) ≡ k = length-take-le k (drop (at + 1) mid) (omega (arith, length-drop (at + 1) mid, length-set words at e.key, room)) in
    let width : k ≡ V = omega arith in
    one_stamped_written es words valued _ n at ((n + 1) * (2 + V)) k e c.loop-index.invariant c.loop-index-test.true (sym c.index-entries-index.is) room
    (ap length (sym c.copy_from_slice.ensures.after) ∙ c.copy_from_slice.ensures.len ∙ cut) (omega arith)
    (ap (λ (v : List ℕ). put_mid (at + 1) k mid v) c.copy_from_slice.ensures.after)
    (ap (λ (m : ℕ). set valued (at + 1 + m) e.since) (sym width))
