use Rattle.std.proofs.Common.{ℕ, suc, ◌≡◌, ◌+◌, ◌++◌, ◌∷◌, [], List, take, arith, ap, sym, subst, ◌∙◌}
use Rattle.std.proofs.Math.Seq.{take-suc}
use Rattle.mc_check.specs.Wrong.{AreWrong}
use Rattle.mc_check.specs.declared.record.Record.{Record}
use Rattle.mc_check.proofs.WrongCounts.{true_more, wrong_more}
use Rattle.mc_check.proofs.checker.Checker.check.Goals as goal
use Rattle.mc_check.proofs.checker.Checker.check.Goals.{then-not-is_true, else-not-is_true}

pub loop-n-preserved : goal.loop-n-preserved
loop-n-preserved g c =
    let h = c.args.self.now in
    let rs = c.args.records.now in
    let r = c.index-records-n.result in
    let n = c.loop-n.n in
    let one : n + 1 ≡ suc n = omega arith in
    let next : take (n + 1) rs ≡ take n rs ++ r ∷ [] =
    ap (λ (m : ℕ). take m rs) one ∙ (take-suc rs n r c.loop-n-test.true ∙ ap (λ (x : Record g.row.V). take n rs ++ x ∷ []) (sym c.index-records-n.is)) in
    elim c.if-not-is_true.branch [
      | then-not-is_true w ↦ record {
        wrong = subst (λ (xs : List (Record g.row.V)). AreWrong h xs c.if-not-is_true.wrong) (sym next)
            (subst (AreWrong h (take n rs ++ r ∷ [])) (sym w.wrong-is) (wrong_more h (take n rs) r c.loop-n.wrong (λ t. absurd (cc (c.is_true.ensures.1 t, w.if-not-is_true.true))) c.loop-n.invariant.wrong));
        few = omega (arith, w.wrong-is, c.loop-n.invariant.few);
      }
      | else-not-is_true w ↦ record {
        wrong = subst (λ (xs : List (Record g.row.V)). AreWrong h xs c.if-not-is_true.wrong) (sym next)
            (subst (AreWrong h (take n rs ++ r ∷ [])) (sym w.wrong-is) (true_more h (take n rs) r c.loop-n.wrong (c.is_true.ensures.0 w.if-not-is_true.false) c.loop-n.invariant.wrong));
        few = omega (arith, w.wrong-is, c.loop-n.invariant.few);
      }
    ]
