use Rattle.std.proofs.Common.{ℕ, ◌≡◌, ◌+◌, List, None, Vec, Global, ap, sym, subst, ◌∙◌, arith}
use Rattle.mc_words.specs.Checks.{shape_of}
use Rattle.mc_words.specs.Standing.{Agrees, Stands}
use Rattle.mc_words.specs.declared.shape.Shape.{Shape}
use Rattle.mc_search.proofs.EntryLists.{none_of}
use Rattle.mc_writer.specs.declared.entry.Entry.{Entry}
use Rattle.mc_cache.specs.Inside.StampedLists.{AreStampedBelow}
use Rattle.mc_cache.proofs.StampedLists.{all_stamped, no_more_stamped, one_stamped}
use Rattle.mc_cache.proofs.stamped.list_stamped.Goals as goal
use Rattle.mc_cache.proofs.stamped.list_stamped.Goals.{in-Some+in_ok-push, in_default}

pub returns-clause-entries : goal.returns-clause-entries
returns-clause-entries g c = λ h agrees.
    let V = g.row.V in
    let sh = shape_of c.args.checked.now in
    let w = g.P.Peek.words c.args.peek.now in
    let es = c.loop-item.entries.items in
    all_stamped V sh w h es agrees (subst (λ (n : ℕ). AreStampedBelow V sh w h n es) (omega (arith, c.loop-item-test.false, ap (λ (x : Shape). x.items) c.shape-item-end.ensures)) (c.loop-item.invariant.entries h agrees))

pub returns-clause-order : goal.returns-clause-order
returns-clause-order g c =
    let V = g.row.V in
    let sh = shape_of c.args.checked.now in
    let w = g.P.Peek.words c.args.peek.now in
    let h = c.requires.agrees.0 in
    let below = c.loop-item.invariant.entries h c.requires.agrees.1 in
    (subst (λ (n : ℕ). AreStampedBelow V sh w h n c.loop-item.entries.items) (omega (arith, c.loop-item-test.false, ap (λ (x : Shape). x.items) c.shape-item-end.ensures)) below).entries.order

pub loop-item-preserved : goal.loop-item-preserved
loop-item-preserved g c =
    let V = g.row.V in
    let sh = shape_of c.args.checked.now in
    let w = g.P.Peek.words c.args.peek.now in
    let n = c.loop-item.item in
    let es = c.loop-item.entries.items in
    let same : g.P.Peek.words c.loop-item.peek ≡ w = ap g.P.Peek.words c.loop-item.invariant.kept in
    record {
      kept = c.stamped_at.ensures.kept ∙ c.loop-item.invariant.kept;
      entries = λ h agrees.
          let before = c.loop-item.invariant.entries h agrees in
          let seen = subst (λ (ws : List ℕ). Agrees V sh ws None h) (sym same) agrees in
          elim c.match-stamped_at.branch [
            | in-Some+in_ok-push b ↦ (
                let e = b.in-Some.entry in
                let there = b.in-Some.ensures.stands in
                let stands = subst (λ (ws : List ℕ). Stands V sh ws e.key there.0 n) same there.1 in
                let more = one_stamped V sh w h n there.0 e es agrees before stands (b.in-Some.ensures.value h seen) (b.in-Some.ensures.holds h seen) in
                subst (AreStampedBelow V sh w h (n + 1)) (sym (ap (λ (v : Vec (Entry V) Global). v.items) b.entries-is ∙ b.in_ok-push.ensures.items)) more)
            | in_default b ↦ (
                let unused : (k q : ℕ) → Stands V sh w k q n → ⊥ = λ k q s. none_of c.stamped_at.result ((k q : ℕ) → Stands V sh (g.P.Peek.words c.loop-item.peek) k q n → ⊥) b.in_default.is c.stamped_at.ensures.none k q (subst (λ (ws : List ℕ). Stands V sh ws k q n) (sym same) s) in
                subst (AreStampedBelow V sh w h (n + 1)) (sym (ap (λ (v : Vec (Entry V) Global). v.items) b.entries-is)) (no_more_stamped V sh w h n es before unused))
          ];
    }
