use Rattle.std.proofs.Common.{◌≡◌, ◌<◌, ◌∙◌, ℕ, List, [], ◌∷◌, ◌⊎◌, inl, inr, refl, ap, sym, subst, arith}
use Rattle.mc_words.specs.Chains.{Leads}
use Rattle.mc_words.specs.Checks.{shape_of}
use Rattle.mc_words.specs.declared.place.Place.{Place}
use Rattle.mc_words.specs.declared.shape.Shape.{Shape}
use Rattle.mc_search.specs.Inside.Readable.{IsFull}
use Rattle.mc_search.specs.Paths.{IsCrowded, IsLeastPath, path_of_move}
use Rattle.mc_search.specs.declared.room.OneMove.{OneMove}
use Rattle.mc_search.proofs.SingleMoves.{least_move, none_short}
use Rattle.mc_search.proofs.Shortest.{first_full, second_full}
use Rattle.mc_search.proofs.room.find_move.Goals as goal
use Rattle.mc_search.proofs.room.find_move.Goals.{Start, After-shape, After-move_from}
use Rattle.mc_search.proofs.room.find_move.Given.{Over}

-- both buckets of a key with these parts are full
full_in : (g : Over) (c : Start g) → IsFull (shape_of c.args.checked.now) (g.P.Peek.words c.args.peek.now) c.args.parts.first × IsFull (shape_of c.args.checked.now) (g.P.Peek.words c.args.peek.now) c.args.parts.second
full_in g c =
    let sh = shape_of c.args.checked.now in
    let w = g.P.Peek.words c.args.peek.now in
    let k = c.requires.crowded.0 in
    let full = c.requires.crowded.1.full in
    let parts = c.requires.crowded.1.has in
    (first_full sh w k c.args.parts.first parts.first parts.first_in_table full, second_full sh w k c.args.parts.second parts.second parts.second_in_table full)

-- the words after the first look
read : (g : Over) (c : After-move_from g) → g.P.Peek.words c.move_from.new.peek ≡ g.P.Peek.words c.args.peek.now
read g c = ap g.P.Peek.words (c.move_from.ensures.kept ∙ c.touch_moves.ensures.kept)

-- a move from a bucket of the key is a least path
least : (g : Over) (c : After-shape g) (m : OneMove) (k : ℕ) → IsCrowded (shape_of c.args.checked.now) (g.P.Peek.words c.args.peek.now) k c.args.parts → (c.shape.result.depth ≡ 0 → ⊥)
    → Leads (shape_of c.args.checked.now) (g.P.Peek.words c.args.peek.now) c.args.parts.first (m.from ∷ []) m.hole ⊎ Leads (shape_of c.args.checked.now) (g.P.Peek.words c.args.peek.now) c.args.parts.second (m.from ∷ []) m.hole
    → IsLeastPath (shape_of c.args.checked.now) (g.P.Peek.words c.args.peek.now) k (path_of_move m)
least g c m k crowded some moves =
    let sh = shape_of c.args.checked.now in
    let depth = ap (λ (s : Shape). s.depth) c.shape.ensures in
    let deep : 0 < sh.depth = omega (arith, some) in
    least_move sh (g.P.Peek.words c.args.peek.now) k c.args.parts.first c.args.parts.second (path_of_move m) m.from c.args.checked.now.sound crowded.has.first crowded.has.second refl moves deep crowded.full

pub touch_moves-requires-clause-full : goal.touch_moves-requires-clause-full
touch_moves-requires-clause-full g c = (full_in g (goal.at.touch_moves-requires-clause-full g c).Start).0

pub move_from-requires-clause-full : goal.move_from-requires-clause-full
move_from-requires-clause-full g c =
    subst (λ (w : List ℕ). IsFull (shape_of c.args.checked.now) w c.args.parts.first) (sym (ap g.P.Peek.words c.touch_moves.ensures.kept)) (full_in g (goal.at.move_from-requires-clause-full g c).Start).0

pub move_from-requires-2-clause-full : goal.move_from-requires-2-clause-full
move_from-requires-2-clause-full g c =
    let at = goal.at.move_from-requires-2-clause-full g c in
    subst (λ (w : List ℕ). IsFull (shape_of c.args.checked.now) w c.args.parts.second) (sym (read g at.After-move_from)) (full_in g at.Start).1

pub returns-in-Some-clause-found : goal.returns-in-Some-clause-found
returns-in-Some-clause-found g c k crowded =
    let sh = shape_of c.args.checked.now in
    let m = c.in-Some.found in
    let leads = subst (λ (w : List ℕ). Leads sh w c.args.parts.first (m.from ∷ []) m.hole) (ap g.P.Peek.words c.touch_moves.ensures.kept) c.in-Some.ensures.found in
    least g (goal.at.returns-in-Some-clause-found g c).After-shape m k crowded c.if-shape-eq0.false (inl leads)

pub returns-in-Some-move_from-clause-found : goal.returns-in-Some-move_from-clause-found
returns-in-Some-move_from-clause-found g c k crowded =
    let at = goal.at.returns-in-Some-move_from-clause-found g c in
    let sh = shape_of c.args.checked.now in
    let m = c.in-Some-move_from.found in
    let leads = subst (λ (w : List ℕ). Leads sh w c.args.parts.second (m.from ∷ []) m.hole) (read g at.After-move_from) c.in-Some-move_from.ensures.found in
    least g at.After-shape m k crowded c.if-shape-eq0.false (inr leads)

pub returns-clause-none : goal.returns-clause-none
returns-clause-none g c k crowded _ =
    let at = goal.at.returns-clause-none g c in
    let sh = shape_of c.args.checked.now in
    let None_from : ℕ → List ℕ → Type 0 = λ b v. (from hole : Place) → Leads sh v b (from ∷ []) hole → ⊥ in
    none_short sh (g.P.Peek.words c.args.peek.now) k c.args.parts.first c.args.parts.second crowded.has.first crowded.has.second
    (subst (λ (v : List ℕ). None_from c.args.parts.first v) (ap g.P.Peek.words c.touch_moves.ensures.kept) c.in_default.ensures.none)
    (subst (λ (v : List ℕ). None_from c.args.parts.second v) (read g at.After-move_from) c.in_default-move_from.ensures.none)
    crowded.full
