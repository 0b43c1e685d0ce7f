use Rattle.std.proofs.Common.{ℕ, ◌≡◌, ◌+◌, ◌<◌, ◌∙◌, List, ◌++◌, [], ◌∷◌, Vec, Global, Result, take, length, ap, sym, subst, arith, append-nil}
use Rattle.std.specs.List.{All}
use Rattle.std.proofs.lemmas.List.{length-map, length-take-le, take_all, take_more}
use Rattle.std.proofs.lemmas.List.Elements.{All-push}
use Rattle.mc_words.specs.Keys.{shard_of}
use Rattle.mc_plan.specs.declared.answer.Answer.TheVariants as answer
use Rattle.mc_plan.specs.declared.answer.Put.{Put}
use Rattle.mc_plan.specs.declared.answer.Why.{Why}
use Rattle.mc_plan.specs.Loads.{left_by}
use Rattle.mc_plan.specs.WholeCalls.{KeptCall}
use Rattle.mc_shared.specs.Records.{WriterRecord}
use Rattle.mc_writer.specs.WriterCalls.{HasCalled}
use Rattle.mc_shards.specs.Loadings.{ShardsLoad}
use Rattle.mc_shards.specs.Sharded.{ChangesAt}
use Rattle.mc_shards.proofs.LoadedShards.{IsWide, shards_more}
use Rattle.mc_shards.proofs.loading.load.Goals as goal
use Rattle.mc_shards.proofs.loading.load.Goals.{in-Err+in_ok-push_to, in_default}

pub loop-index-preserved : goal.loop-index-preserved
loop-index-preserved g c =
    let V = g.row.V in
    let sh = c.args.shape in
    let was = c.loop-index.invariant in
    let start = c.args.writers.now.items in
    let now = c.loop-index.writers.items in
    let after = c.put_one.new.writers.items in
    let es = c.args.entries.now in
    let i = c.loop-index.index in
    let e = c.index-entries-index.result in
    let told = c.put_one.result in
    let left = c.loop-index.left.items in
    let below : i < length es = omega (arith, c.loop-index-test.true) in
    let more : take (i + 1) es ≡ take i es ++ e ∷ [] = take_more es i e below ∙ ap (λ (x : ℕ × List ℕ). take i es ++ x ∷ []) (sym c.index-entries-index.is) in
    let index : i ≡ length (take i es) = sym (length-take-le i es (omega (arith, below))) in
    let many : length c.args.caches.now.items ≡ length now = ap length (sym was.of) ∙ length-map now (λ (w : WriterRecord). w.of) in
    let called : ChangesAt (shard_of sh.mix (length now) e.0) now after (λ w w'. HasCalled V sh (KeptCall e.0 e.1) w w' (answer.Kept told)) =
    subst (λ (m : ℕ). ChangesAt (shard_of sh.mix m e.0) now after (λ w w'. HasCalled V sh (KeptCall e.0 e.1) w w' (answer.Kept told))) many c.put_one.ensures.called in
    let so : ShardsLoad V sh start 0 (take i es ++ e ∷ []) after (left ++ left_by i told) = shards_more V sh start now after 0 i (take i es) e.0 e.1 left told was.loaded (omega (arith, index)) called in
    let all = subst (λ (xs : List (ℕ × List ℕ)). ShardsLoad V sh start 0 xs after (left ++ left_by i told)) (sym more) so in
    let at : ShardsLoad V sh start 0 (take (i + 1) es) after c.match-put_one.left.items = elim c.match-put_one.branch [
      | in-Err+in_ok-push_to w ↦
          subst (λ (xs : List (ℕ × Why)). ShardsLoad V sh start 0 (take (i + 1) es) after xs)
          (ap (λ (r : Result Put Why). left ++ left_by i r) w.in-Err.is ∙ (sym w.in_ok-push_to.ensures.ok ∙ ap (λ (x : Vec (ℕ × Why) Global). x.items) (sym w.left-is))) all
      | in_default w ↦
          subst (λ (xs : List (ℕ × Why)). ShardsLoad V sh start 0 (take (i + 1) es) after xs)
          (ap (λ (r : Result Put Why). left ++ left_by i r) w.in_default.is ∙ (append-nil left ∙ ap (λ (x : Vec (ℕ × Why) Global). x.items) (sym w.left-is))) all
    ] in
    let wide : All (IsWide V) (take (i + 1) es) = subst (λ (xs : List (ℕ × List ℕ)). All (IsWide V) xs) (sym more) (All-push (IsWide V) (take i es) e was.wide c.put_one.ensures.wide) in
    record { of = c.put_one.ensures.of; wide = wide; loaded = at }

pub returns-clause-wide : goal.returns-clause-wide
returns-clause-wide g c =
    let es = c.args.entries.now in
    let all : take c.loop-index.index es ≡ es = take_all c.loop-index.index es (omega (arith, c.loop-index-test.false)) in
    subst (λ (xs : List (ℕ × List ℕ)). All (IsWide g.row.V) xs) all c.loop-index.invariant.wide
