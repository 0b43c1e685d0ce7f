use Rattle.std.proofs.Common.{◌≡◌, List, [], Some, Ok, Err, Result, sym, subst, rules}
use Rattle.mc_words.specs.Checks.{policy_of, shape_of}
use Rattle.mc_words.specs.declared.checked.Checked.{Checked}
use Rattle.mc_theory.specs.declared.act.Act.{Act}
use Rattle.mc_plan.specs.WholeCalls.{IsSweepOf, state_after_sweep}
use Rattle.mc_plan.specs.Books.{IsPlanned}
use Rattle.mc_plan.specs.declared.answer.Answer.TheVariants as answer
use Rattle.mc_plan.specs.declared.answer.Put.{Put}
use Rattle.mc_plan.specs.declared.answer.PutError.{PutError}
use Rattle.mc_plan.specs.Deciding.{IsReplaced}
use Rattle.mc_plan.specs.Decisions.{replacement_acts, storing_told}
use Rattle.mc_plan.proofs.listing.finish_put.Goals as goal

pub add_replacement-requires : goal.add_replacement-requires
add_replacement-requires g c =
    let r = c.requires.over in
    let decided = c.in_ok-taken.ensures.finished r.0 r.1 r.2 r.3 r.4 r.5 in
    (search rules, (r.3.waits.known.width, (c.requires.plan, decided.in_items)))

pub returns-in_err-taken-clause-planned : goal.returns-in_err-taken-clause-planned
returns-in_err-taken-clause-planned g c call s rs on over same =
    let V = g.row.V in
    let b = c.finish.new.self in
    let old = c.args.books.now.checked in
    let why = c.in_err-taken.field-0.0 in
    let is : c.from_residual.result ≡ Err why = search rules in
    let Done : Checked → List Act → Result Put PutError → Type 0 = λ x xs told. IsPlanned V b xs call s (state_after_sweep V (shape_of x) s rs) (answer.Put told) × IsSweepOf V (shape_of x) (policy_of x) s rs (answer.Put told) in
    let decided : Done b.checked [] (Err why) = c.in_err-taken.ensures.finished call s rs on over same in
    subst (Done old c.args.plan.now.items) (sym is) (subst (λ (xs : List Act). Done old xs (Err why)) (sym c.requires.plan) (subst (λ (x : Checked). Done x [] (Err why)) c.finish.ensures.shape decided))

pub returns-clause-planned : goal.returns-clause-planned
returns-clause-planned g c call s rs on over same =
    let V = g.row.V in
    let b = c.finish.new.self in
    let old = c.args.books.now.checked in
    let r = c.in_ok-taken.taken in
    let list = replacement_acts (policy_of b.checked) b.far.value.moves.items (shape_of b.checked) c.args.waiting.key c.args.waiting.value r in
    let told = storing_told b.far.value.moves.items r.storing (Some r.victim.key) in
    let Done : Checked → List Act → Put → Type 0 = λ x xs p. IsPlanned V b xs call s (state_after_sweep V (shape_of x) s rs) (answer.Put (Ok p)) × IsSweepOf V (shape_of x) (policy_of x) s rs (answer.Put (Ok p)) in
    let decided : IsReplaced V b c.args.waiting.key c.args.waiting.value call s rs r = c.in_ok-taken.ensures.finished call s rs on over same in
    let was : Done old list told = subst (λ (x : Checked). Done x list told) c.finish.ensures.shape (decided.planned, decided.sweeps) in
    subst (Done old c.add_replacement.new.acts.items) (sym c.told.ensures) (subst (λ (xs : List Act). Done old xs told) (sym c.add_replacement.ensures.items) was)
