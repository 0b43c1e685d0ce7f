use Rattle.std.proofs.Common.{ℕ, ◌∙◌, below_more, get_or, subst, sym}
use Rattle.std.proofs.lemmas.List.{get_or_default}
use Rattle.mc_shards.specs.Sharded.{Sharded}
use Rattle.mc_load.specs.Inside.Handles.{place_of}
use Rattle.mc_load.specs.Inside.Lasts.{AreLasts, HasLast}
use Rattle.mc_load.specs.declared.dated.Dated.{Dated}
use Rattle.mc_load.proofs.lasts.note_lasts.Goals as goal

pub loop-n-preserved : goal.loop-n-preserved
loop-n-preserved g c =
    let V = g.row.V in
    let s = place_of c.args.handle.now in
    let was = c.loop-n.invariant in
    let n = c.loop-n.n in
    let journal = c.args.journal.now in
    let new = c.note_last.new.lasts in
    let x = c.index-journal-n.result in
    let here = λ (all : AreLasts V s c.args.mix c.args.shards c.args.lasts.now). subst (λ (p : Sharded). AreLasts V p c.args.mix c.args.shards c.loop-n.lasts) (sym was.place) (was.lasts all) in
    record {
      place = c.note_last.ensures.place ∙ was.place;
      lasts = λ all. subst (λ (p : Sharded). AreLasts V p c.args.mix c.args.shards new) was.place (c.note_last.ensures.lasts (here all));
      looked = λ all k d few.
          below_more (λ (j : ℕ). (e : Dated V) → HasLast V s new (get_or journal j e)) n
          (λ j under e. subst (λ (p : Sharded). HasLast V p new (get_or journal j e)) was.place
          (c.note_last.ensures.kept (here all) (get_or journal j e) (subst (λ (p : Sharded). HasLast V p c.loop-n.lasts (get_or journal j e)) (sym was.place) (was.looked all j e under))))
          (λ e. subst (λ (y : Dated V). HasLast V s new y) (c.index-journal-n.is ∙ get_or_default journal n x e c.loop-n-test.true)
          (subst (λ (p : Sharded). HasLast V p new x) was.place (c.note_last.ensures.looked (here all))))
          k few d;
    }
