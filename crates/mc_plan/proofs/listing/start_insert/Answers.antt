use Rattle.std.proofs.Common.{arith, length, Err, List, [], None, Ok, ◌∙◌, ap, refl, sym, subst}
use Rattle.mc_words.specs.Checks.{policy_of, shape_of}
use Rattle.mc_theory.specs.declared.act.Act.{Act}
use Rattle.mc_plan.specs.WholeCalls.{IsSweepOf, PutCall}
use Rattle.mc_plan.specs.Books.{IsPlanned}
use Rattle.mc_plan.specs.Decisions.{storing_acts, storing_told}
use Rattle.mc_plan.specs.declared.answer.Answer.TheVariants as answer
use Rattle.mc_plan.specs.declared.answer.Put.{Put}
use Rattle.mc_plan.specs.declared.answer.PutError.TheVariants as why
use Rattle.mc_plan.proofs.Deeds.Values.{plan_is}
use Rattle.mc_plan.proofs.listing.start_insert.Goals as goal

pub insert-requires : goal.insert-requires
insert-requires g c =
    let r = c.requires.books in
    let v = c.args.value.now in
    record { room = (v, r.0, c.in-Some.ensures.room c.args.key c.args.at v r.0 r.1 c.requires.parts r.2, ap g.P.Peek.words c.room.ensures.kept ∙ r.2) }

pub returns-in-Some-insert-clause-started : goal.returns-in-Some-insert-clause-started
returns-in-Some-insert-clause-started g c s lacks same =
    let V = g.row.V in
    let b = c.insert.new.self in
    let call = PutCall c.args.key c.args.value.now in
    let storing = c.in-Some-insert.storing in
    let told = answer.Put (Ok (storing_told b.far.value.moves.items storing None)) in
    let inserted = c.in-Some-insert.ensures.inserted c.args.value.now s (c.in-Some.ensures.room c.args.key c.args.at c.args.value.now s lacks c.requires.parts same) (ap g.P.Peek.words c.room.ensures.kept ∙ same) in
    let acts = plan_is _ _ _ c.add_storing.ensures.items c.requires.plan in (
      subst (λ (xs : List Act). IsPlanned V b xs call s s (answer.Put (Ok c.told.result))) (sym acts)
          (subst (λ (x : Put). IsPlanned V b (storing_acts (policy_of b.checked) b.far.value.moves.items (shape_of b.checked) c.args.key c.args.value.now storing) call s s (answer.Put (Ok x))) (sym c.told.ensures) inserted.1),
      subst (λ (x : Put). IsSweepOf V (shape_of b.checked) (policy_of b.checked) s [] (answer.Put (Ok x))) (sym c.told.ensures) refl,
    )

pub returns-in-None-clause-started : goal.returns-in-None-clause-started
returns-in-None-clause-started g c s lacks same =
    let v = c.args.value.now in
    (c.requires.plan, c.in-None.ensures.inserted v s (c.in-Some.ensures.room c.args.key c.args.at v s lacks c.requires.parts same) (ap g.P.Peek.words c.room.ensures.kept ∙ same))

pub returns-in_default-clause-started : goal.returns-in_default-clause-started
returns-in_default-clause-started g c s lacks same =
    let planned = c.in_default.ensures.room c.args.key c.args.at c.args.value.now s lacks c.requires.parts same in
    (subst (λ (xs : List Act). IsPlanned g.row.V c.room.new.self xs (PutCall c.args.key c.args.value.now) s s (answer.Put (Err why.NoPath))) (sym c.requires.plan) planned, refl)

pub add_storing-requires : goal.add_storing-requires
add_storing-requires g c =
    let r = c.requires.books in
    let v = c.args.value.now in
    let inserted = c.in-Some-insert.ensures.inserted v r.0 (c.in-Some.ensures.room c.args.key c.args.at v r.0 r.1 c.requires.parts r.2) (ap g.P.Peek.words c.room.ensures.kept ∙ r.2) in
    let width = r.1.known.width in
    (omega (arith, width.most), (width, (omega (arith, ap length c.requires.plan), inserted.0)))
