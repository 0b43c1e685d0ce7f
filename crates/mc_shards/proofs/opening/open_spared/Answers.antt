use Rattle.std.proofs.Common.{◌∙◌, ap, map, subst, sym}
use Rattle.mc_words.specs.Shapes.{HasShards}
use Rattle.mc_shared.specs.Records.{WriterRecord}
use Rattle.mc_shards.proofs.Dealt.{passes_new}
use Rattle.mc_shards.proofs.LoadedShards.{tables_go_by, tables_of_new}
use Rattle.mc_shards.proofs.opening.open_spared.Goals as goal

pub invariant_of-shards : goal.invariant_of-shards
invariant_of-shards g c = record {
  many = subst HasShards (sym c.in_ok-caches.ensures.refused) c.in_ok-check_opening.ensures.0;
  policy = c.args.policy;
  shapes = c.in_ok-caches.ensures.shapes;
  lenders = c.in_ok-lenders.ensures.lenders ∙ (ap (map (λ (w : WriterRecord). w.of)) c.in_ok-caches.ensures.writers ∙ tables_of_new c.in_ok-caches.caches.items);
}

pub returns-clause-policy : goal.returns-clause-policy
returns-clause-policy g c = tables_go_by g.row.V c.args.policy c.args.shape c.in_ok-caches.caches.items c.in_ok-caches.ensures.shapes

pub returns-clause-plain : goal.returns-clause-plain
returns-clause-plain g c = passes_new g.row.V c.in_ok-caches.caches.items c.in_ok-caches.passes.items c.in_ok-caches.ensures.dealt
