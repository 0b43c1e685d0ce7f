use Rattle.std.proofs.Common.{All, ℕ, List, Err, ◌≡◌, ◌+◌, ◌-◌, ◌∙◌, ap, arith, refl, subst}
use Rattle.std.proofs.lemmas.Bool.{false≢true}
use Rattle.mc_words.specs.Answers.{PutIsSpent}
use Rattle.mc_words.specs.Checks.{shape_of}
use Rattle.mc_words.specs.History.{IsWord}
use Rattle.mc_words.specs.Places.{slot_number}
use Rattle.mc_words.specs.Standing.{Stands, IsAbsent}
use Rattle.mc_theory.specs.States.{State}
use Rattle.mc_plan.specs.WholeCalls.{PutCall, quiet_of}
use Rattle.mc_plan.specs.Books.{AreBooksOf, IsLackingKey}
use Rattle.mc_plan.specs.declared.answer.Answer.TheVariants as answer
use Rattle.mc_plan.specs.declared.answer.PutError.TheVariants as why
use Rattle.mc_plan.proofs.Calls.AfterPlan.{idle_planned, renewal_planned, placed_in, moment_in}
use Rattle.mc_plan.proofs.books.Books.decide.Goals as goal
use Rattle.mc_plan.proofs.books.Books.decide.Goals.{After-have_words, Else-is_spent}
use Rattle.mc_plan.proofs.books.Books.decide.Given.{Over}

pub returns-then-is_spent-clause-decided : goal.returns-then-is_spent-clause-decided
returns-then-is_spent-clause-decided g c s old same =
    let b = c.args.self.now in
    let spent : PutIsSpent (shape_of b.checked) (quiet_of s) = omega (arith, c.if-is_spent.ensures.0 refl, c.most_changes.ensures.value, old.version_steps) in
    (idle_planned g.row.V b (PutCall c.args.key c.args.value.now) s (answer.Put (Err why.Spent)) old (spent, refl) tt, refl)

-- the words of the value have 64 bits each
words : (g : Over) (c : After-have_words g) → All IsWord c.args.value.now
words g c = subst (λ (x : List ℕ). All IsWord x) c.as_slice.ensures c.have_words.ensures

-- the limit is far enough
unspent : (g : Over) (c : Else-is_spent g) (s : State g.row.V) → AreBooksOf g.row.V c.args.self.now s → PutIsSpent (shape_of c.args.self.now.checked) (quiet_of s) → ⊥
unspent g c s old spent =
    false≢true (c.if-is_spent.ensures.1 (omega (arith, spent, c.most_changes.ensures.value, old.version_steps)))

pub find_by-requires-clause-placed : goal.find_by-requires-clause-placed
find_by-requires-clause-placed g c =
    placed_in g.row.V c.args.self.now c.requires.books.0 _ c.requires.books.1 (ap g.P.Peek.words c.moment-at.ensures.kept ∙ c.requires.books.2) c.args.key

pub returns-in-Some-clause-decided : goal.returns-in-Some-clause-decided
returns-in-Some-clause-decided g c s old same =
    let V = g.row.V in
    let b = c.args.self.now in
    let q = slot_number c.in-Some.field-0-0 in
    let stands = subst (λ (x : List ℕ). Stands V (shape_of b.checked) x c.args.key q c.in-Some.item) (ap g.P.Peek.words c.moment-at.ensures.kept ∙ same) c.in-Some.ensures.found in
    let not_spent = unspent g (goal.at.returns-in-Some-clause-decided g c).Else-is_spent s old in
    let at = moment_in V b s (g.P.Peek.words c.args.peek.now) old same (c.moment-at.result + 1) (ap (λ (n : ℕ). n + 1) c.moment-at.ensures.value) in
    renewal_planned V b c.args.key c.args.value.now c.in-Some.item (c.moment-at.result + 1) s q b.checked.sound (omega arith) (c.told-value, words g (goal.at.returns-in-Some-clause-decided g c).After-have_words) old stands not_spent (omega (arith, not_spent)) at

pub returns-in-None-clause-decided : goal.returns-in-None-clause-decided
returns-in-None-clause-decided g c s old same =
    let V = g.row.V in
    let b = c.args.self.now in
    let absent = subst (λ (x : List ℕ). IsAbsent V (shape_of b.checked) x c.args.key) (ap g.P.Peek.words c.moment-at.ensures.kept ∙ same) c.in-None.ensures.none in
    let taken_back : b.version_steps ≡ b.version_steps + 2 - 2 = omega arith in
    subst (λ (n : ℕ). IsLackingKey V (record b { version_steps = n }) c.args.key c.args.value.now s (c.moment-at.result + 1)) taken_back (record {
      known = old;
      key = omega arith;
      value = (c.told-value, words g (goal.at.returns-in-None-clause-decided g c).After-have_words);
      unspent = unspent g (goal.at.returns-in-None-clause-decided g c).Else-is_spent s old;
      absent = absent;
      next = moment_in V b s (g.P.Peek.words c.args.peek.now) old same (c.moment-at.result + 1) (ap (λ (n : ℕ). n + 1) c.moment-at.ensures.value);
    })
