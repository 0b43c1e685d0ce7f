use Rattle.std.proofs.Common.{List, ap, sym, ◌∙◌, ◌++◌}
use Rattle.mc_words.specs.declared.history.Change.{Change}
use Rattle.mc_load.specs.Inside.Journals.{remove_changes}
use Rattle.mc_load.proofs.Histories.{remove_told}
use Rattle.mc_load.proofs.writer_thread.WriterThread.remove.Goals as goal

pub returns-clause-writing : goal.returns-clause-writing
returns-clause-writing g c =
    let told = remove_told g.row.V c.args.self.now.cache.now.layout.shape c.args.self.now.writer c.remove-told.new.self c.args.key c.remove-told.result c.requires.writing.lawful c.remove-told.ensures.called in
    record {
      of = c.remove-told.ensures.called.of ∙ c.requires.writing.of;
      lawful = told.0;
      kept = c.note_removal.ensures.items ∙ (ap (λ (h : List (Change g.row.V)). h ++ remove_changes c.args.key c.remove-told.result) c.requires.writing.kept ∙ sym told.1);
    }
