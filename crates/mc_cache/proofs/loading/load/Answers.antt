use Rattle.std.proofs.Common.{ℕ, ◌≡◌, ◌+◌, ◌<◌, ◌≤◌, ◌∙◌, List, ◌++◌, [], ◌∷◌, Vec, Global, Result, take, length, ap, sym, subst, arith, append-nil}
use Rattle.std.specs.Prelude.{vec_capacity, vec_len}
use Rattle.std.proofs.lemmas.List.{length-take-le, take_more}
use Rattle.mc_plan.specs.declared.answer.Why.{Why}
use Rattle.mc_plan.specs.declared.answer.Put.{Put}
use Rattle.mc_plan.specs.Loads.{left_by}
use Rattle.mc_cache.proofs.LoadedEntries.{HasLoaded, loaded_more}
use Rattle.mc_cache.proofs.loading.load.Goals as goal
use Rattle.mc_cache.proofs.loading.load.Goals.{in-Err, in_default}

pub loop-index-preserved : goal.loop-index-preserved
loop-index-preserved g c =
    let V = g.row.V in
    let sh = c.args.cache.now.layout.shape in
    let start = c.args.writer.now in
    let es = c.args.entries.now in
    let i = c.loop-index.index in
    let below : i < length es = omega (arith, c.loop-index-test.true) in
    let e = c.index-entries-index.result in
    let told = c.put_kept.result in
    let after = c.put_kept.new.self in
    let more : take (i + 1) es ≡ take i es ++ e ∷ [] = take_more es i e below ∙ ap (λ (x : ℕ × List ℕ). take i es ++ x ∷ []) (sym c.index-entries-index.is) in
    let index : i ≡ length (take i es) = sym (length-take-le i es (omega (arith, below))) in
    let so : HasLoaded V sh start after (take i es ++ e ∷ []) (c.loop-index.left.items ++ left_by i told) =
    loaded_more V sh start c.loop-index.writer after (take i es) i e.0 e.1 c.loop-index.left.items told index c.loop-index.invariant.of c.loop-index.invariant.loaded c.put_kept.ensures.called in
    let all = subst (λ (xs : List (ℕ × List ℕ)). HasLoaded V sh start after xs (c.loop-index.left.items ++ left_by i told)) (sym more) so in
    let at : HasLoaded V sh start after (take (i + 1) es) c.match-put_kept.left.items = elim c.match-put_kept.branch [
      | in-Err w ↦
          subst (λ (xs : List (ℕ × Why)). HasLoaded V sh start after (take (i + 1) es) xs)
          (ap (λ (r : Result Put Why). c.loop-index.left.items ++ left_by i r) w.in-Err.is ∙ (sym w.name.ensures.items ∙ ap (λ (x : Vec (ℕ × Why) Global). x.items) (sym w.left-is))) all
      | in_default w ↦
          subst (λ (xs : List (ℕ × Why)). HasLoaded V sh start after (take (i + 1) es) xs)
          (ap (λ (r : Result Put Why). c.loop-index.left.items ++ left_by i r) w.in_default.is ∙ (append-nil c.loop-index.left.items ∙ ap (λ (x : Vec (ℕ × Why) Global). x.items) (sym w.left-is))) all
    ] in
    let few : vec_len c.match-put_kept.left ≤ i + 1 = elim c.match-put_kept.branch [
      | in-Err w ↦ omega (arith, c.loop-index.invariant.few, w.name.ensures.len, ap (λ (x : Vec (ℕ × Why) Global). vec_len x) w.left-is)
      | in_default w ↦ omega (arith, c.loop-index.invariant.few, ap (λ (x : Vec (ℕ × Why) Global). vec_len x) w.left-is)
    ] in
    let room : length es ≤ vec_capacity c.match-put_kept.left = elim c.match-put_kept.branch [
      | in-Err w ↦ omega (arith, c.loop-index.invariant.room, w.name.ensures.room, ap (λ (x : Vec (ℕ × Why) Global). vec_capacity x) w.left-is)
      | in_default w ↦ omega (arith, c.loop-index.invariant.room, ap (λ (x : Vec (ℕ × Why) Global). vec_capacity x) w.left-is)
    ] in
    record { of = c.put_kept.ensures.called.of ∙ c.loop-index.invariant.of; loaded = at; few = few; room = room }
