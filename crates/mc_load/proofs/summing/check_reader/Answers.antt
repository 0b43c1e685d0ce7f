use Rattle.std.proofs.Common.{List, subst}
use Rattle.mc_words.specs.declared.history.Change.{Change}
use Rattle.mc_check.proofs.WrongCounts.{none_wrong}
use Rattle.mc_check.specs.Wrong.{AreWrong}
use Rattle.mc_load.specs.Loads.{history_after}
use Rattle.mc_load.proofs.Readers.{told_of_cache}
use Rattle.mc_load.proofs.summing.check_reader.Goals as goal

pub returns-clause-wrong : goal.returns-clause-wrong
returns-clause-wrong g c =
    let w = c.args.writer.now in
    let records = c.args.thread.records.items in
    let now = history_after g.row.V w.of.layout.shape w.acts in
    none_wrong now records c.check.result
    (told_of_cache c.args.thread.handle _ w records c.in-Cache.is c.requires.of c.catch_up.ensures.begins c.requires.told)
    (subst (λ (h : List (Change g.row.V)). AreWrong h records c.check.result) c.requires.history (subst (λ rs. AreWrong c.args.checker.now rs c.check.result) c.as_slice.ensures.value c.check.ensures))

pub returns-clause-told : goal.returns-clause-told
returns-clause-told g c = told_of_cache c.args.thread.handle _ c.args.writer.now c.args.thread.records.items c.in-Cache.is c.requires.of c.catch_up.ensures.begins c.requires.told
