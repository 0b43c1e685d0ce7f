use Rattle.std.proofs.Common.{[], Err, arith, refl}
use Rattle.mc_plan.specs.Books.{IsLackingKey}
use Rattle.mc_plan.specs.WholeCalls.{KeptCall}
use Rattle.mc_plan.specs.declared.answer.Answer.TheVariants as answer
use Rattle.mc_plan.specs.declared.answer.PutError.TheVariants as refusal
use Rattle.mc_plan.specs.declared.answer.Why.TheVariants as left
use Rattle.mc_plan.proofs.Calls.KeptCalls.{kept_planned}
use Rattle.mc_writer.specs.Inside.Pens.{state_at}
use Rattle.mc_writer.proofs.WholeCalls.{known_there, layout_rested, not_turned, parts_there, refused_now, still_there}
use Rattle.mc_writer.proofs.pen.Pen.put_kept_absent.Goals as goal

pub returns-in-None-clause-called : goal.returns-in-None-clause-called
returns-in-None-clause-called g c =
    let V = g.row.V in
    let pen = c.args.self.now in
    let b = c.args.books.now in
    let decided = c.in-None.ensures.next c.args.key (state_at V pen) (known_there V pen b c.requires.rested) refl (omega arith) c.requires.absent in
    let planned = kept_planned V b [] c.args.key c.args.value.now (state_at V pen) (Err refusal.Spent) decided.1 decided.0 in
    (refused_now V pen c.next_put.new.peek b b (KeptCall c.args.key c.args.value.now) (answer.Kept (Err left.Spent)) [] (layout_rested V pen b c.requires.rested) refl (not_turned V pen c.next_put.new.peek c.next_put.ensures.kept) planned refl).1

pub put_kept_new-requires : goal.put_kept_new-requires
put_kept_new-requires g c =
    let V = g.row.V in
    let pen = c.args.self.now in
    let b = c.args.books.now in
    let known = known_there V pen b c.requires.rested in
    let lacks = c.in-Some.ensures.next c.args.key (state_at V pen) known refl (omega arith) c.requires.absent in
    (omega arith, (omega (arith, known.width.most), still_there V pen c.next_put.new.peek b b c.args.key c.parts-parts.result (λ s. IsLackingKey V b c.args.key c.args.value.now s c.in-Some.at) c.next_put.ensures.kept (layout_rested V pen b c.requires.rested) refl c.parts-parts.ensures lacks))
