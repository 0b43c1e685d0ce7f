use Rattle.std.proofs.Common.{◌∙◌, ◌∷◌, ◌++◌, [], Ok, arith, subst}
use Rattle.mc_writer.specs.declared.entry.Evict.{Evict}
use Rattle.mc_cache.specs.Plain.{history}
use Rattle.mc_cache.specs.Taking.{EvictMeans}
use Rattle.mc_cache.proofs.HistoryLaws.{absent_evicted}
use Rattle.mc_cache.proofs.writer.Writer.put_absent.Goals as goal

pub evict-requires : goal.evict-requires
evict-requires g c =
    let width = c.requires.width in
    (omega arith, (omega arith, (omega (arith, width.most), c.requires.of)))

pub put_kept_absent-requires : goal.put_kept_absent-requires
put_kept_absent-requires g c =
    let width = c.requires.width in
    let old = c.in-Ok-Evicted.old in
    let left = subst (λ (told : Evict g.row.V). EvictMeans g.row.V (history g.row.V c.args.self.now) (history g.row.V c.evict.new.self) (Ok told)) c.in-Ok-Evicted.field-0-is c.in-Ok-Evicted.ensures.plain in
    (omega arith, (omega arith, (omega (arith, width.most), (c.evict.ensures.of ∙ c.requires.of, absent_evicted _ _ c.args.key old.key (old.value ++ old.since ∷ []) c.requires.absent left.0.1 left.1))))
