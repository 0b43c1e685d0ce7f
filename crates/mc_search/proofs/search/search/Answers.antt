use Rattle.std.proofs.Common.{◌≡◌, ◌<◌, ◌≤◌, length, ap, arith}
use Rattle.mc_words.specs.declared.shape.Shape.{Shape}
use Rattle.mc_words.specs.Checks.{shape_of}
use Rattle.mc_search.specs.Inside.Search.{entry_at}
use Rattle.mc_search.proofs.QueueEntries.{entry_read}
use Rattle.mc_search.proofs.Shortest.{none_queued, none_above}
use Rattle.mc_search.proofs.search.search.Goals as goal
use Rattle.mc_search.proofs.search.search.Goals.{After-index-entry}
use Rattle.mc_search.proofs.search.search.Given.{Over}

-- the entry is in the queue
queued : (g : Over) (c : After-index-entry g) → c.levels.front < length c.levels.queue.items
queued g c = let is = c.levels.queue.ok.0 in omega arith

-- it is the one that was read
read : (g : Over) (c : After-index-entry g) → c.index-entry.result.now ≡ entry_at c.levels.queue.items c.levels.front
read g c = entry_read c.levels.queue.items c.levels.front c.index-entry.result.now c.index-entry.ensures (queued g c)

pub expand-requires-clause-front : goal.expand-requires-clause-front
expand-requires-clause-front g c = read g (goal.at.expand-requires-clause-front g c).After-index-entry

pub returns-then-entry-depth-clause-none : goal.returns-then-entry-depth-clause-none
returns-then-entry-depth-clause-none g c =
    let a = (goal.at.returns-then-entry-depth-clause-none g c).After-index-entry in
    let depth = ap (λ (sh : Shape). sh.depth) c.shape-depth.ensures in
    let reached : (shape_of c.args.checked.now).depth ≤ c.index-entry.result.now.depth = omega (arith, c.if-entry-depth.true) in
    λ k s.
    none_above (shape_of c.args.checked.now) (g.P.Peek.words c.args.peek.now) k c.levels.front c.index-entry.result.now c.levels.queue.items c.levels.invariant.full (c.levels.invariant.searching k s) (queued g a) (read g a) reached

pub returns-clause-none : goal.returns-clause-none
returns-clause-none g c =
    let is = c.levels.queue.ok.0 in
    let end : length c.levels.queue.items ≤ c.levels.front = omega arith in
    λ k s.
    none_queued (shape_of c.args.checked.now) (g.P.Peek.words c.args.peek.now) k c.levels.front c.levels.queue.items c.levels.invariant.full (c.levels.invariant.searching k s) end
