use Rattle.std.proofs.Common.{rules, List, All, arith, refl, subst, sym, ◌∙◌}
use Rattle.mc_theory.specs.Lists.{IsLawful}
use Rattle.mc_theory.proofs.Lists.Fronts.{lawful_none}
use Rattle.mc_load.specs.Inside.Workers.{CanWrite}
use Rattle.mc_load.specs.declared.writer_thread.WriterThread.{WriterThread}
use Rattle.mc_load.proofs.Each.{each_more}
use Rattle.mc_load.proofs.Histories.{history_none, made_none}
use Rattle.mc_load.proofs.ready.writer_thread_of.Goals as goal

pub returns-clause-can : goal.returns-clause-can
returns-clause-can g c =
    let V = g.row.V in
    let load = c.args.load in
    let sh = c.args.cache.now.layout.shape in
    let none = c.in_ok-writer_threads.ensures.len in
    subst (λ (z : List (WriterThread V)). All (CanWrite V load) z) (sym c.push_reserved.ensures.items)
    (each_more (λ k (x : WriterThread V). CanWrite V load x) c.in_ok-writer_threads.writer_threads.items _ (λ n d low. absurd (omega (arith, low, none, c.in_ok-writer_threads.writer_threads.ok.0)))
    (record {
      shape = c.requires.shape;
      writing = record {
        of = c.requires.of;
        lawful = subst (IsLawful V sh) (sym c.requires.fresh) (lawful_none V sh);
        kept = c.in_ok-journal.ensures.items ∙ sym (history_none V sh c.args.writer.acts c.requires.fresh);
      };
      written = record { drawn = c.new-draws.ensures; made = made_none V load c.args.writer c.requires.fresh };
      empty = c.in_ok-journal.ensures.len;
      room = search rules;
      refused = refl;
    }))
