-- The notes of acts that are made while a reader makes no step.
use Rattle.std.proofs.Common.{◌≡◌, ℕ, zero, suc, ◌+◌, ◌<◌, ◌≤◌, List, [], ◌∷◌, ◌++◌, length, length-append, ap, sym, ◌∙◌, subst, arith}
use mathlib.Core.Option.{some, some-injective, some-ne-none}
use lib.ListN.{get_elem?}
use Rattle.mc_theory.specs.Lists.{Made}
use Rattle.mc_theory.specs.Readings.{Reading}
use Rattle.mc_shared.specs.Views.{Note}
use Rattle.mc_shared.specs.ExactFronts.{steps_by, StepsRise, made_by, IsReading, StandAt, InOneOrder}
use Rattle.mc_shared.specs.ExactLaws.{MeetingsAgree, IdleActsAreNoted}
use Rattle.mc_shared.proofs.ExactSteps.{rise_end}
use Rattle.mc_shared.proofs.ExactReadings.{load_stands}
use Rattle.mc_shared.proofs.OrderedLookups.{stand_drop}

-- the acts that were made by then, of two lists one after the other, are those of each
made_parts : (a n : ℕ) (xs ys : List Note) → made_by a n (xs ++ ys) ≡ made_by a n xs + made_by a n ys
made_parts a n [] ys = omega arith
made_parts a n (x ∷ xs) ys = let h = made_parts a n xs ys in omega (arith, h)

-- if none was made by then, each has a later note
made_later : (a n : ℕ) (ts : List Note) (k : ℕ) (t : Note) → made_by a n ts ≡ 0 → get_elem? ts k ≡ some t → n < steps_by a t
made_later a n [] k t none e = absurd (some-ne-none t (sym e))
made_later a n (x ∷ xs) zero t none e = let same : steps_by a x ≡ steps_by a t = ap (steps_by a) (some-injective _ _ e) in omega (arith, same, none)
made_later a n (x ∷ xs) (suc k) t none e = made_later a n xs k t (omega (arith, none)) e

-- no note is later than the end of a list that rises
rise_at : (a f : ℕ) (xs ts : List Note) (g k : ℕ) (t : Note) → StepsRise a f (xs ++ ts) g → get_elem? ts k ≡ some t → steps_by a t ≤ g
rise_at a f [] [] g k t r e = absurd (some-ne-none t (sym e))
rise_at a f [] (y ∷ ys) g zero t r e = let same : steps_by a y ≡ steps_by a t = ap (steps_by a) (some-injective _ _ e) in omega (arith, same, rise_end a (steps_by a y) ys g r.1)
rise_at a f [] (y ∷ ys) g (suc k) t r e = rise_at a (steps_by a y) [] ys g k t r.1 e
rise_at a f (x ∷ xs) ts g k t r e = rise_at a (steps_by a x) xs ts g k t r.1 e

-- where a reading stands, according to a list of notes
stood : (acts : List Made) (notes : List Note) (number : ℕ) (done rest : List Reading) (r : Reading) → InOneOrder acts notes number (done ++ r ∷ rest) → IsReading r.access → r.front ≡ made_by number (length done) notes
stood acts notes number done rest r order reads =
    let here : StandAt number notes (length done) (r ∷ rest) = subst (λ (j : ℕ). StandAt number notes j (r ∷ rest)) (omega arith) (stand_drop number 0 notes done (r ∷ rest) order.exact.fronts) in
    load_stands r.access r.front (made_by number (length done) notes) reads here.0

pub meetings_agree : MeetingsAgree
meetings_agree acts later notes more number done rest rest' r was is reads = sym (stood acts notes number done rest r was reads) ∙ stood later (notes ++ more) number done rest' r is reads

pub idle_acts_are_noted : IdleActsAreNoted
idle_acts_are_noted acts later notes more number done marks last k note was is reads at =
    let n : ℕ = length done in
    let here = stood acts notes number done marks last was reads in
    let there = stood later (notes ++ more) number done marks last is reads in
    let none : made_by number n more ≡ 0 = omega (arith, here, there, made_parts number n notes more) in (
      omega (arith, made_later number n more k note none at, length-append done (last ∷ [])),
      rise_at number 0 notes more (length (done ++ last ∷ marks)) k note is.exact.rise at,
    )
