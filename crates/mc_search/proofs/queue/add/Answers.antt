use Rattle.std.proofs.Common.{◌≡◌, [], ◌∷◌, ◌++◌, false, true, get_or, set, sym, ◌∙◌, arith, length-set}
use Rattle.std.proofs.lemmas.List.{get_or_default}
use Rattle.mc_search.specs.Inside.Search.{IsQueue}
use Rattle.mc_search.proofs.QueueEntries.{queue-push, length-push}
use Rattle.mc_search.proofs.queue.add.Goals as goal
use Rattle.mc_search.proofs.queue.add.Goals.{After-push}

-- the bucket was not marked
unseen : (c : After-push) → get_or c.args.seen.now.items c.args.entry.bucket false ≡ false
unseen c =
    let l = c.requires.in_table in
    get_or_default c.args.seen.now.items c.args.entry.bucket false c.index.result.now l ∙ sym c.index.ensures ∙ c.if-index.false

-- the queue with the bucket, and its mark
pushed : (c : After-push) → IsQueue (c.args.queue.now.items ++ c.args.entry ∷ []) (set c.args.seen.now.items c.args.entry.bucket true)
pushed c = queue-push c.args.queue.now.items c.args.seen.now.items c.args.entry c.requires.queue c.requires.in_table (unseen c)

pub unreachable-requires : goal.unreachable-requires
unreachable-requires c =
    let many = (pushed (goal.at.unreachable-requires c).After-push).count in
    let len = length-push c.args.queue.now.items c.args.entry in
    let marks = length-set c.args.seen.now.items c.args.entry.bucket true in
    let room = c.requires.room in
    let full = c.in-Err.ensures.full in
    let is = c.args.queue.now.ok.0 in
    omega arith

pub returns-clause-queue : goal.returns-clause-queue
returns-clause-queue c = let e = c.in-Ok.ensures.items in rw e (pushed (goal.at.returns-clause-queue c).After-push)
