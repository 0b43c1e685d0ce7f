use Rattle.std.proofs.Common.{ℕ, List, None, ◌≡◌, ◌∙◌, ap, arith, subst, sym}
use Rattle.mc_words.specs.Checks.{shape_of}
use Rattle.mc_words.specs.History.{map_value}
use Rattle.mc_words.specs.Places.{item, payload, slot_number}
use Rattle.mc_words.specs.Standing.{Stands, IsAbsent}
use Rattle.mc_theory.specs.States.{State}
use Rattle.mc_plan.specs.Books.{AreBooksOf}
use Rattle.mc_plan.proofs.Calls.AfterPlan.{placed_in}
use Rattle.mc_plan.proofs.Calls.IfCalls.{stamp_held}
use Rattle.mc_plan.proofs.Deeds.QuietStates.{absent_held}
use Rattle.mc_plan.proofs.books.Books.vacancy.Goals as goal
use Rattle.mc_plan.proofs.books.Books.vacancy.Goals.{In_default}
use Rattle.mc_plan.proofs.books.Books.vacancy.Given.{Over}

pub find_by-requires-clause-placed : goal.find_by-requires-clause-placed
find_by-requires-clause-placed g c = placed_in g.row.V c.args.self.now c.requires.books.0 _ c.requires.books.1 c.requires.books.2 c.args.key

pub returns-in-Some-clause-vacancy : goal.returns-in-Some-clause-vacancy
returns-in-Some-clause-vacancy g c s old same =
    let V = g.row.V in
    let sh = shape_of c.args.self.now.checked in
    let q = slot_number c.in-Some.field-0-0 in
    let there = ap g.P.Peek.words c.find_by.ensures.kept ∙ same in
    let stands = subst (λ (x : List ℕ). Stands V sh x c.args.key q c.in-Some.item) same c.in-Some.ensures.found in
    let stamp : item V sh s.words c.in-Some.item (payload V) ≡ c.stamp_at-since.result = sym (c.stamp_at-since.ensures.value ∙ ap (λ (x : List ℕ). item V sh x c.in-Some.item (payload V)) there) in
    let has = stamp_held V sh s c.args.key q c.in-Some.item c.stamp_at-since.result old.quiet stands stamp in
    ((q, stands), (has.value, has.held, has.size))

-- the key is absent
absent : (g : Over) (c : In_default g) (s : State g.row.V) → g.P.Peek.words c.args.peek.now ≡ s.words → IsAbsent g.row.V (shape_of c.args.self.now.checked) s.words c.args.key
absent g c s same = subst (λ (x : List ℕ). IsAbsent g.row.V (shape_of c.args.self.now.checked) x c.args.key) same c.in_default.ensures.none

-- and not in the map
held : (g : Over) (c : In_default g) (s : State g.row.V) → AreBooksOf g.row.V c.args.self.now s → g.P.Peek.words c.args.peek.now ≡ s.words → map_value s.history c.args.key ≡ None
held g c s old same = absent_held g.row.V (shape_of c.args.self.now.checked) s c.args.key old.quiet (absent g c s same)

pub returns-in-Some-next_put-clause-vacancy : goal.returns-in-Some-next_put-clause-vacancy
returns-in-Some-next_put-clause-vacancy g c s old same =
    let none = held g (goal.at.returns-in-Some-next_put-clause-vacancy g c).In_default s old same in
    (none, c.in-Some-next_put.ensures.next c.args.key s old (ap g.P.Peek.words c.find_by.ensures.kept ∙ same) (omega arith) none)

pub returns-in-None-clause-vacancy : goal.returns-in-None-clause-vacancy
returns-in-None-clause-vacancy g c s old same =
    let none = held g (goal.at.returns-in-None-clause-vacancy g c).In_default s old same in
    (none, c.in-None.ensures.next c.args.key s old (ap g.P.Peek.words c.find_by.ensures.kept ∙ same) (omega arith) none)
