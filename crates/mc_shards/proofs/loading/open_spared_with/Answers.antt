use Rattle.std.proofs.Common.{◌≡◌, ◌∙◌, List, All, ap, arith, map, subst, sym}
use Rattle.mc_words.specs.Shapes.{HasShards}
use Rattle.mc_shared.specs.Records.{Opening, WriterRecord}
use Rattle.mc_cache.specs.Plain.{IsLegal, history}
use Rattle.mc_shards.specs.Loadings.{ShardsLoad}
use Rattle.mc_shards.proofs.LoadedShards.{all_seen, held_all, shaped_tables, shaped_writers, tables_go_by, tables_of_new}
use Rattle.mc_shards.proofs.loading.open_spared_with.Goals as goal

pub load-requires : goal.load-requires
load-requires g c = (
  omega arith,
  (
    omega arith,
    (
      omega arith,
      (
        subst HasShards (sym c.in_ok-caches.ensures.refused) c.in_ok-check_opening.ensures.0,
        (
          shaped_tables g.row.V c.args.policy c.args.shape c.in_ok-caches.caches.items c.in_ok-caches.ensures.shapes,
          (ap (map (λ (w : WriterRecord). w.of)) c.in_ok-caches.ensures.writers ∙ tables_of_new c.in_ok-caches.caches.items, c.new-left.ensures.items),
        ),
      ),
    ),
  ),
)

pub returns-clause-policy : goal.returns-clause-policy
returns-clause-policy g c = tables_go_by g.row.V c.args.policy c.args.shape c.in_ok-caches.caches.items c.in_ok-caches.ensures.shapes

pub returns-clause-plain : goal.returns-clause-plain
returns-clause-plain g c =
    let V = g.row.V in
    let sh = c.args.shape in
    let es = c.args.entries.now in
    let tables = c.in_ok-caches.caches.items in
    let ws = c.load.new.writers.items in
    let left = c.load.new.left.items in
    let of : map (λ (w : WriterRecord). w.of) ws ≡ tables = c.load.ensures.of in
    let shapes : All (λ o. o.layout.shape ≡ sh) tables = shaped_tables V c.args.policy sh tables c.in_ok-caches.ensures.shapes in
    let loaded : ShardsLoad V sh c.in_ok-caches.writers.items 0 es ws left = c.in_ok-load.ensures.loaded in
    let legal : All (λ w. IsLegal w.of.layout.shape.items (history V w)) ws =
    subst (λ (xs : List WriterRecord). All (λ w. IsLegal w.of.layout.shape.items (history V w)) xs) c.meet_all.ensures.writers c.in_ok-lenders.ensures.legal in (
      map (history V) ws,
      held_all V sh tables es ws left shapes (shaped_writers sh ws (subst (λ (os : List Opening). All (λ o. o.layout.shape ≡ sh) os) (sym of) shapes)) c.in_ok-load.ensures.wide legal
          (subst (λ (xs : List WriterRecord). ShardsLoad V sh xs 0 es ws left) c.in_ok-caches.ensures.writers loaded),
      all_seen V tables ws c.meet_all.new.passes.items of c.meet_all.ensures.passes c.meet_all.ensures.met,
    )
