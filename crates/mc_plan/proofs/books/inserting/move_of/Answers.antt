use Rattle.std.proofs.Common.{◌≡◌, ◌∙◌, List, ap, arith, ℕ}
use Rattle.mc_words.specs.Checks.{shape_of}
use Rattle.mc_words.specs.Keys.{item_in}
use Rattle.mc_words.specs.Places.{item}
use Rattle.mc_plan.specs.Plans.{key_named, move_acts}
use Rattle.mc_plan.proofs.Puts.PathSteps.{named_at}
use Rattle.mc_plan.proofs.books.inserting.move_of.Goals as goal
use Rattle.mc_plan.proofs.books.inserting.move_of.Goals.{After-key_in-key}
use Rattle.mc_plan.proofs.books.inserting.move_of.Given.{Over}

pub key_in-key-requires-clause-named : goal.key_in-key-requires-clause-named
key_in-key-requires-clause-named g c =
    let named = named_at (shape_of c.args.checked.now) (g.P.Peek.words c.args.peek.now) c.args.one.from c.requires.filled c.requires.taken in
    rw c.slot_at-word.ensures.value named

-- the key is the one that the slot names
named : (g : Over) (c : After-key_in-key g) → c.key_in-key.result ≡ key_named g.row.V (shape_of c.args.checked.now) (g.P.Peek.words c.args.peek.now) c.args.one.from
named g c =
    let sh = shape_of c.args.checked.now in
    let w = g.P.Peek.words c.args.peek.now in
    c.key_in-key.ensures.value
    ∙ ap (λ (x : List ℕ). item g.row.V sh x (item_in c.slot_at-word.result) 0) (ap g.P.Peek.words c.slot_at-word.ensures.kept)
    ∙ ap (λ (n : ℕ). item g.row.V sh w (item_in n) 0) c.slot_at-word.ensures.value

pub returns-clause-moves : goal.returns-clause-moves
returns-clause-moves g c =
    let m = c.args.one in
    let key = named g (goal.at.returns-clause-moves g c).After-key_in-key in
    ap (λ (k : ℕ). move_acts k c.slot_at-word.result m.from m.hole) key
    ∙ ap (λ (n : ℕ). move_acts (key_named g.row.V (shape_of c.args.checked.now) (g.P.Peek.words c.args.peek.now) m.from) n m.from m.hole) c.slot_at-word.ensures.value

pub returns-clause-keys : goal.returns-clause-keys
returns-clause-keys g c =
    let key = named g (goal.at.returns-clause-keys g c).After-key_in-key in
    (omega (arith, c.key_in-key.type_inv, key), tt)
