use Rattle.std.proofs.Common.{ℕ, ◌≡◌, ◌∙◌, ◌+◌, ◌*◌, ◌/◌, ◌%◌, List, below_more, refl, ap, subst, arith}
use Rattle.mc_words.specs.declared.shape.Shape.{Shape}
use Rattle.mc_words.specs.Checks.{shape_of}
use Rattle.mc_search.specs.Readable.{IsPlacedAt}
use Rattle.tests.proofs.finding.is_placed.Goals as goal

pub loop-q-preserved : goal.loop-q-preserved
loop-q-preserved c =
    let sh = shape_of c.args.checked.now in
    let q = c.loop-q.q in
    let number : 4 * (q / 4) + q % 4 ≡ q = omega arith in
    record {
      same = c.is_placed_at.ensures.same ∙ c.loop-q.invariant.same;
      long = c.loop-q.invariant.long;
      placed = below_more _ _ c.loop-q.invariant.placed
          (subst (λ (p : ℕ). IsPlacedAt 1 sh c.args.table.now.list c.args.key p) number
          (subst (λ (w : List ℕ). IsPlacedAt 1 sh w c.args.key (4 * (q / 4) + q % 4)) c.loop-q.invariant.same
          (c.if-not-is_placed_at.ensures.placed refl)));
    }

pub returns-clause-placed : goal.returns-clause-placed
returns-clause-placed c = λ t q i s.
    let all = c.loop-q-test.false in
    let shape = ap (λ (sh : Shape). sh.buckets) c.shape-q-end.ensures in
    let in_table = s.names.in_table in
    c.loop-q.invariant.placed q (omega arith) i s
