use Rattle.std.proofs.Common.{All, ℕ, List, ◌≡◌, ◌+◌, ◌∙◌, ap, arith, subst, sym}
use Rattle.std.proofs.lemmas.Bool.{false≢true}
use Rattle.mc_words.specs.Answers.{RenewalIsSpent}
use Rattle.mc_words.specs.Checks.{shape_of}
use Rattle.mc_words.specs.History.{IsWord}
use Rattle.mc_words.specs.Places.{item, moment, payload, slot_number}
use Rattle.mc_words.specs.Standing.{Stands, IsAbsent}
use Rattle.mc_theory.specs.States.{State}
use Rattle.mc_plan.specs.WholeCalls.{quiet_of}
use Rattle.mc_plan.specs.Books.{AreBooksOf}
use Rattle.mc_plan.proofs.Calls.AfterPlan.{placed_in, moment_in}
use Rattle.mc_plan.proofs.Calls.IfCalls.{absent_planned, changed_planned, if_renewal_planned}
use Rattle.mc_plan.proofs.books.Books.decide_if.Goals as goal
use Rattle.mc_plan.proofs.books.Books.decide_if.Goals.{After-have_words, After-stamp_at-stands, Else-is_spent}
use Rattle.mc_plan.proofs.books.Books.decide_if.Given.{Over}

-- the words of the value have 64 bits each
words : (g : Over) (c : After-have_words g) → All IsWord c.args.value.now
words g c = subst (λ (x : List ℕ). All IsWord x) c.as_slice.ensures c.have_words.ensures

-- the limit is far enough
unspent : (g : Over) (c : Else-is_spent g) (s : State g.row.V) → AreBooksOf g.row.V c.args.self.now s → RenewalIsSpent (shape_of c.args.self.now.checked) (quiet_of s) → ⊥
unspent g c s old spent = false≢true (c.if-is_spent.ensures.1 (omega (arith, spent, old.version_steps)))

pub find_by-requires-clause-placed : goal.find_by-requires-clause-placed
find_by-requires-clause-placed g c =
    placed_in g.row.V c.args.self.now c.requires.books.0 _ c.requires.books.1 (ap g.P.Peek.words c.moment-now.ensures.kept ∙ c.requires.books.2) c.args.key

-- the key stands at the item, whose stamp was read
record Found (g : Over) (c : After-stamp_at-stands g) (s : State g.row.V) : Type 0 where
  stands : Stands g.row.V (shape_of c.args.self.now.checked) s.words c.args.key (slot_number c.in-Some.field-0-0) c.in-Some.item
  stamp : item g.row.V (shape_of c.args.self.now.checked) s.words c.in-Some.item (payload g.row.V) ≡ c.stamp_at-stands.result

found : (g : Over) (c : After-stamp_at-stands g) (s : State g.row.V) → g.P.Peek.words c.args.peek.now ≡ s.words → Found g c s
found g c s same =
    let V = g.row.V in
    let sh = shape_of c.args.self.now.checked in
    let read = ap g.P.Peek.words c.moment-now.ensures.kept ∙ same in
    let there = ap g.P.Peek.words c.find_by.ensures.kept ∙ read in
    record {
      stands = subst (λ (x : List ℕ). Stands V sh x c.args.key (slot_number c.in-Some.field-0-0) c.in-Some.item) read c.in-Some.ensures.found;
      stamp = sym (c.stamp_at-stands.ensures.value ∙ ap (λ (x : List ℕ). item V sh x c.in-Some.item (payload V)) there);
    }

pub returns-in_default-clause-decided : goal.returns-in_default-clause-decided
returns-in_default-clause-decided g c s old same =
    let V = g.row.V in
    let b = c.args.self.now in
    let absent = subst (λ (x : List ℕ). IsAbsent V (shape_of b.checked) x c.args.key) (ap g.P.Peek.words c.moment-now.ensures.kept ∙ same) c.in_default.ensures.none in
    let not_spent = unspent g (goal.at.returns-in_default-clause-decided g c).Else-is_spent s old in
    absent_planned V b c.args.key c.args.since c.args.value.now s old c.moment-now.result not_spent absent (c.moment-now.ensures.value ∙ ap (λ (x : List ℕ). moment x) same)

pub returns-then-stands-since-clause-decided : goal.returns-then-stands-since-clause-decided
returns-then-stands-since-clause-decided g c s old same =
    let at = goal.at.returns-then-stands-since-clause-decided g c in
    let there = found g at.After-stamp_at-stands s same in
    let not_spent = unspent g at.Else-is_spent s old in
    changed_planned g.row.V c.args.self.now c.args.key c.args.since c.args.value.now s old (slot_number c.in-Some.field-0-0) c.in-Some.item c.stamp_at-stands.result not_spent there.stands there.stamp c.if-stands-since.true

pub returns-clause-decided : goal.returns-clause-decided
returns-clause-decided g c s old same =
    let V = g.row.V in
    let b = c.args.self.now in
    let at = goal.at.returns-clause-decided g c in
    let there = found g at.After-stamp_at-stands s same in
    let not_spent = unspent g at.Else-is_spent s old in
    let next = moment_in V b s (g.P.Peek.words c.args.peek.now) old same (c.moment-now.result + 1) (ap (λ (n : ℕ). n + 1) c.moment-now.ensures.value) in
    if_renewal_planned V b c.args.key c.args.since c.args.value.now s old (slot_number c.in-Some.field-0-0) c.in-Some.item (c.moment-now.result + 1) b.checked.sound (omega arith) (c.told-value, words g (goal.at.returns-clause-decided g c).After-have_words) not_spent there.stands (there.stamp ∙ c.if-stands-since.false) next
