use Rattle.std.proofs.Common.{List, ap, sym, ◌∙◌, ◌++◌}
use Rattle.mc_words.specs.declared.history.Change.{Change}
use Rattle.mc_load.specs.Inside.Journals.{put_changes}
use Rattle.mc_load.proofs.Histories.{put_told}
use Rattle.mc_load.proofs.writer_thread.WriterThread.put.Goals as goal

pub returns-clause-writing : goal.returns-clause-writing
returns-clause-writing g c =
    let told = put_told g.row.V c.args.self.now.cache.now.layout.shape c.args.self.now.writer c.put-told.new.self c.args.key c.args.value c.put-told.result c.requires.writing.lawful c.put-told.ensures.called in
    record {
      of = c.put-told.ensures.called.of ∙ c.requires.writing.of;
      lawful = told.0;
      kept = c.note_put.ensures.items ∙ (ap (λ (h : List (Change g.row.V)). h ++ put_changes c.args.key c.args.value c.put-told.result) c.requires.writing.kept ∙ sym told.1);
    }
