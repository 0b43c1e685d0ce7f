use Rattle.std.proofs.Common.{All, ℕ, List, Err, ◌≡◌, ◌+◌, ap, arith, refl, subst}
use Rattle.std.proofs.lemmas.Bool.{false≢true}
use Rattle.mc_words.specs.Answers.{PutIsSpent}
use Rattle.mc_words.specs.Checks.{shape_of}
use Rattle.mc_words.specs.History.{IsWord}
use Rattle.mc_words.specs.Standing.{AgreesAt}
use Rattle.mc_plan.specs.WholeCalls.{PutCall, quiet_of}
use Rattle.mc_plan.specs.declared.answer.Answer.TheVariants as answer
use Rattle.mc_plan.specs.declared.answer.PutError.TheVariants as why
use Rattle.mc_plan.proofs.Calls.AfterPlan.{idle_planned, moment_in}
use Rattle.mc_plan.proofs.Deeds.QuietStates.{keys_quiet}
use Rattle.mc_plan.proofs.books.Books.next_put.Goals as goal

pub returns-then-is_spent-clause-next : goal.returns-then-is_spent-clause-next
returns-then-is_spent-clause-next g c k s old same word none =
    let b = c.args.self.now in
    let spent : PutIsSpent (shape_of b.checked) (quiet_of s) = omega (arith, c.if-is_spent.ensures.0 refl, c.most_changes.ensures.value, old.version_steps) in
    (idle_planned g.row.V b (PutCall k c.args.value.now) s (answer.Put (Err why.Spent)) old (spent, refl) tt, refl)

pub returns-clause-next : goal.returns-clause-next
returns-clause-next g c k s old same word none =
    let V = g.row.V in
    let b = c.args.self.now in
    let sh = shape_of b.checked in
    record {
      known = old;
      key = word;
      value = (c.told-value, subst (λ (x : List ℕ). All IsWord x) c.as_slice.ensures c.have_words.ensures);
      unspent = λ spent. false≢true (c.if-is_spent.ensures.1 (omega (arith, spent, c.most_changes.ensures.value, old.version_steps)));
      absent = subst (AgreesAt V sh s.words k) none (keys_quiet V sh s old.quiet k);
      next = moment_in V b s (g.P.Peek.words c.args.peek.now) old same (c.moment.result + 1) (ap (λ (n : ℕ). n + 1) c.moment.ensures.value);
    }
