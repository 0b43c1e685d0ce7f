use Rattle.std.proofs.Common.{ℕ, List, ◌+◌, ◌∙◌, ap, arith, subst, Ok}
use Rattle.std.proofs.lemmas.Bool.{false≢true}
use Rattle.mc_words.specs.Answers.{RemoveIsSpent}
use Rattle.mc_words.specs.Checks.{shape_of}
use Rattle.mc_words.specs.Places.{moment, slot_number}
use Rattle.mc_words.specs.Standing.{Stands, IsAbsent}
use Rattle.mc_theory.specs.States.{State}
use Rattle.mc_plan.specs.WholeCalls.{RemoveCall, quiet_of}
use Rattle.mc_plan.specs.Books.{AreBooksOf}
use Rattle.mc_plan.specs.declared.answer.Answer.TheVariants as answer
use Rattle.mc_plan.specs.declared.answer.Remove.TheVariants as remove
use Rattle.mc_plan.proofs.Calls.AfterPlan.{idle_planned, nothing_found, removal_planned, placed_in, moment_in}
use Rattle.mc_plan.proofs.books.Books.decide_removal.Goals as goal
use Rattle.mc_plan.proofs.books.Books.decide_removal.Goals.{Else-is_spent}
use Rattle.mc_plan.proofs.books.Books.decide_removal.Given.{Over}

-- the limit is far enough
unspent : (g : Over) (c : Else-is_spent g) (s : State g.row.V) → AreBooksOf g.row.V c.args.self.now s → RemoveIsSpent (shape_of c.args.self.now.checked) (quiet_of s) → ⊥
unspent g c s old spent = false≢true (c.if-is_spent.ensures.1 (omega (arith, spent, old.version_steps)))

pub find_by-requires-clause-placed : goal.find_by-requires-clause-placed
find_by-requires-clause-placed g c =
    placed_in g.row.V c.args.self.now c.requires.books.0 _ c.requires.books.1 (ap g.P.Peek.words c.moment-at.ensures.kept ∙ c.requires.books.2) c.args.key

pub returns-in-Some-clause-decided : goal.returns-in-Some-clause-decided
returns-in-Some-clause-decided g c s old same =
    let V = g.row.V in
    let b = c.args.self.now in
    let p = c.in-Some.place in
    let stands = subst (λ (x : List ℕ). Stands V (shape_of b.checked) x c.args.key (slot_number p) c.in-Some.item) (ap g.P.Peek.words c.moment-at.ensures.kept ∙ same) c.in-Some.ensures.found in
    let not_spent = unspent g (goal.at.returns-in-Some-clause-decided g c).Else-is_spent s old in
    let at = moment_in V b s (g.P.Peek.words c.args.peek.now) old same (c.moment-at.result + 1) (ap (λ (n : ℕ). n + 1) c.moment-at.ensures.value) in
    removal_planned V b c.args.key c.in-Some.item (c.moment-at.result + 1) p c.give.new.self s b.checked.sound (omega arith) old c.in-Some.ensures.place.in_bucket stands not_spent (omega (arith, not_spent)) at c.give.ensures.kept c.give.ensures.policy c.give.ensures.items c.give.ensures.gives

pub returns-in-None-clause-decided : goal.returns-in-None-clause-decided
returns-in-None-clause-decided g c s old same =
    let V = g.row.V in
    let b = c.args.self.now in
    let at = c.moment-at.result in
    let absent = subst (λ (x : List ℕ). IsAbsent V (shape_of b.checked) x c.args.key) (ap g.P.Peek.words c.moment-at.ensures.kept ∙ same) c.in-None.ensures.none in
    let not_spent = unspent g (goal.at.returns-in-None-clause-decided g c).Else-is_spent s old in
    let found = nothing_found V (shape_of b.checked) s c.args.key at old.quiet not_spent absent (c.moment-at.ensures.value ∙ ap (λ (x : List ℕ). moment x) same) in
    idle_planned V b (RemoveCall c.args.key) s (answer.Remove (Ok (remove.NotThere at))) old found tt
