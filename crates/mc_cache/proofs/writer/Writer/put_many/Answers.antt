use Rattle.std.proofs.Common.{ℕ, ◌≡◌, ◌+◌, ◌<◌, ◌∙◌, ◌++◌, [], ◌∷◌, List, Result, ap, arith, length, subst, sym, take}
use Rattle.std.proofs.lemmas.List.{take_all, take_more, take_more_set}
use Rattle.mc_plan.specs.declared.answer.Put.{Put}
use Rattle.mc_plan.specs.declared.answer.PutError.{PutError}
use Rattle.mc_cache.specs.Batches.{HasPutEntry, HavePut, PutsMean}
use Rattle.mc_cache.specs.Plain.{PutMeans, history}
use Rattle.mc_cache.proofs.InOrder.{one_more}
use Rattle.mc_cache.proofs.writer.Writer.put_many.Goals as goal

pub loop-index-preserved : goal.loop-index-preserved
loop-index-preserved g c =
    let V = g.row.V in
    let sh = c.args.cache.now.layout.shape in
    let es = c.args.entries.now in
    let i = c.loop-index.index in
    let e = c.index-entries-index.result in
    let below : i < length es = omega (arith, c.loop-index-test.true) in
    let more : take (i + 1) es ≡ take i es ++ e ∷ [] = take_more es i e below ∙ ap (λ (x : ℕ × List ℕ). take i es ++ x ∷ []) (sym c.index-entries-index.is) in
    let told = take_more_set c.loop-index.answers i c.put.result (omega arith) in
    record {
      of = c.put.ensures.called.of ∙ c.loop-index.invariant.of;
      put = subst (λ (y : List (ℕ × List ℕ) × List (Result Put PutError)). HavePut V sh y.0 c.args.self.now c.put.new.self y.1) (λ j. (sym more j, sym told j))
          (one_more (HasPutEntry V sh) (take i es) e c.args.self.now c.loop-index.self c.put.new.self (take i c.loop-index.answers) c.put.result c.loop-index.invariant.put
          (record { called = c.put.ensures.called; fails = c.put.ensures.fails }));
      plain = subst (λ (y : List (ℕ × List ℕ) × List (Result Put PutError)). PutsMean V (history V c.args.self.now) (history V c.put.new.self) y.0 y.1) (λ j. (sym more j, sym told j))
          (one_more (λ entry h h' answer. PutMeans V h h' entry.0 entry.1 answer) (take i es) e (history V c.args.self.now) (history V c.loop-index.self) (history V c.put.new.self) (take i c.loop-index.answers) c.put.result
          c.loop-index.invariant.plain c.put.ensures.plain);
    }

pub returns-clause-put : goal.returns-clause-put
returns-clause-put g c =
    let es = c.args.entries.now in let i = c.loop-index.index in
    subst (λ (y : List (ℕ × List ℕ) × List (Result Put PutError)). HavePut g.row.V c.args.cache.now.layout.shape y.0 c.args.self.now c.loop-index.self y.1)
    (λ j. (take_all i es (omega (arith, c.loop-index-test.false)) j, take_all i c.loop-index.answers (omega arith) j)) c.loop-index.invariant.put

pub returns-clause-plain : goal.returns-clause-plain
returns-clause-plain g c =
    let es = c.args.entries.now in let i = c.loop-index.index in
    subst (λ (y : List (ℕ × List ℕ) × List (Result Put PutError)). PutsMean g.row.V (history g.row.V c.args.self.now) (history g.row.V c.loop-index.self) y.0 y.1)
    (λ j. (take_all i es (omega (arith, c.loop-index-test.false)) j, take_all i c.loop-index.answers (omega arith) j)) c.loop-index.invariant.plain
