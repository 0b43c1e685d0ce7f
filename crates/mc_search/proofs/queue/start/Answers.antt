use Rattle.mc_search.proofs.Levels.{start-full, searching-start}
use Rattle.mc_search.proofs.queue.start.Goals as goal

pub returns-clause-full : goal.returns-clause-full
returns-clause-full c = λ sh w fa fb.
    start-full sh w c.args.first c.args.second c.args.queue.now.items c.add.new.queue.items c.add-2.new.queue.items c.add.result c.add-2.result c.requires.queue c.add.ensures.added c.add-2.ensures.added fa fb

pub returns-clause-searching : goal.returns-clause-searching
returns-clause-searching c = λ sh w k ea eb.
    searching-start sh w k c.args.first c.args.second c.args.queue.now.items c.add.new.queue.items c.add-2.new.queue.items c.add.result c.add-2.result c.requires.queue c.add.ensures.added c.add-2.ensures.added ea eb
