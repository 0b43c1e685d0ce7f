use Rattle.std.proofs.Common.{ℕ, List, inl, inr, ap, subst, refl}
use Rattle.mc_words.specs.Checks.{shape_of}
use Rattle.mc_search.specs.Paths.{direct_path}
use Rattle.mc_search.specs.Inside.Readable.{IsFull, IsHoleIn}
use Rattle.mc_search.proofs.Shortest.{least_direct, none_near}
use Rattle.mc_search.proofs.room.find_hole.Goals as goal

pub returns-in-Some-clause-found : goal.returns-in-Some-clause-found
returns-in-Some-clause-found g c k has =
    least_direct (shape_of c.args.checked.now) (g.P.Peek.words c.args.peek.now) k c.args.parts.first c.args.parts.second (direct_path c.in-Some.hole) has.first has.second refl (inl c.in-Some.ensures.found)

pub returns-in-Some-hole_in-clause-found : goal.returns-in-Some-hole_in-clause-found
returns-in-Some-hole_in-clause-found g c k has =
    let sh = shape_of c.args.checked.now in
    let hole = c.in-Some-hole_in.hole in
    let there = subst (λ (w : List ℕ). IsHoleIn sh w c.args.parts.second hole) (ap g.P.Peek.words c.hole_in.ensures.kept) c.in-Some-hole_in.ensures.found in
    least_direct sh (g.P.Peek.words c.args.peek.now) k c.args.parts.first c.args.parts.second (direct_path hole) has.first has.second refl (inr there)

pub returns-clause-none : goal.returns-clause-none
returns-clause-none g c k has =
    let sh = shape_of c.args.checked.now in
    let there = subst (λ (w : List ℕ). IsFull sh w c.args.parts.second) (ap g.P.Peek.words c.hole_in.ensures.kept) c.in_default-hole_in.ensures.found in
    none_near sh (g.P.Peek.words c.args.peek.now) k c.args.parts.first c.args.parts.second has.first has.second c.in_default.ensures.found there
