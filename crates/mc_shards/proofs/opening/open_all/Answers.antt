use Rattle.std.proofs.Common.{◌≡◌, ◌-◌, [], ◌∷◌, ◌++◌, List, ap, arith, length, subst, sym, ◌∙◌}
use Rattle.std.specs.List.{All, AllZip}
use Rattle.std.proofs.lemmas.List.{length_push, map-append}
use Rattle.std.proofs.lemmas.List.Elements.{All-push, All-same, All-weaker}
use Rattle.mc_shared.specs.Records.{Opening, ReaderRecord, WriterRecord, writer_record}
use Rattle.mc_shared.specs.Views.{layout_with}
use Rattle.mc_shards.specs.Inside.Dealt.{AreDealt}
use Rattle.mc_shards.specs.Loadings.{new_writers}
use Rattle.mc_shards.proofs.Spared.{OfTable, Readers, zip_push}
use Rattle.mc_shards.proofs.opening.open_all.Goals as goal

pub loop-shard-preserved : goal.loop-shard-preserved
loop-shard-preserved g c =
    let was = c.loop-shard.invariant in
    let cache : Opening = c.in_ok-cache.cache in
    let tables : List Opening = c.loop-shard.caches.items in
    let Shaped : Opening → Type 0 = λ o. o.layout ≡ layout_with g.row.V c.args.policy c.args.shape in
    let grown : c.push_to.new.list.items ≡ tables ++ cache ∷ [] = c.in_ok-push_to.ensures.ok in
    let Left : Opening → Readers → Type 0 = λ o list. (length list.items ≡ c.args.all - c.args.passes) × OfTable o list in
    let lists = c.in_ok-push_to-3.ensures.ok in
    let writers : c.push_to-in-loop-shard.new.list.items ≡ c.loop-shard.writers.items ++ c.in_ok-cache.writer ∷ [] = c.in_ok-push_to-2.ensures.ok in
    record {
      count = omega (arith, was.count, ap length grown ∙ length_push tables cache);
      shapes = All-same Shaped c.push_to.new.list.items (tables ++ cache ∷ []) grown (All-push Shaped tables cache was.shapes c.in_ok-cache.ensures.refused);
      writers = writers ∙ (ap (λ (z : List WriterRecord). z ++ c.in_ok-cache.writer ∷ []) was.writers ∙ (ap (λ (w : WriterRecord). new_writers tables ++ w ∷ []) c.in_ok-cache.ensures.writer
          ∙ (sym (map-append (λ (o : Opening). writer_record o [] []) tables (cache ∷ [])) ∙ ap new_writers (sym grown))));
      many = c.in_ok-cache.ensures.many ∙ was.many;
      dealt = subst (λ (ts : List Opening). All (AreDealt ts) c.in_ok-cache.dealt.items) (sym grown) c.in_ok-cache.ensures.dealt;
      lists = subst (λ (p : List Opening × List Readers). AllZip Left p.0 p.1) (λ i. (sym grown i, sym lists i))
          (zip_push Left tables c.loop-shard.lists.items cache c.in_ok-cache.left was.lists (omega (arith, c.in_ok-cache.ensures.rest, was.many), All-weaker (λ (r : ReaderRecord). (r.of ≡ cache) × (r.front ≡ [])) (λ (r : ReaderRecord). r.of ≡ cache) (λ r is. is.0) c.in_ok-cache.left.items c.in_ok-cache.ensures.left));
    }
