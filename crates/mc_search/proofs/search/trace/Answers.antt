use Rattle.std.proofs.Common.{◌≡◌, ◌<◌, List, length, ap, arith, lit<}
use Rattle.mc_words.specs.declared.place.Place.{Place}
use Rattle.mc_search.specs.Inside.Search.{entry_at, depth_at}
use Rattle.mc_search.proofs.Trace.{follows_step, chain_here}
use Rattle.mc_search.proofs.search.trace.Goals as goal

pub offset_bounds-queue-entry : goal.offset_bounds-queue-entry
unfolding entry_at
offset_bounds-queue-entry c =
    let s = (c.requires.back c.back.at c.back.invariant.queued c.back-test.true).0 in
    let q = c.back.invariant.queued in
    let small = c.requires.small in
    omega arith

pub bounds-queue-entry : goal.bounds-queue-entry
unfolding entry_at
bounds-queue-entry c =
    let s = (c.requires.back c.back.at c.back.invariant.queued c.back-test.true).0 in
    let q = c.back.invariant.queued in
    omega arith

pub insert-requires : goal.insert-requires
unfolding entry_at
insert-requires c =
    let m = c.back.invariant.many in
    let t = c.back-test.true in
    let s = c.requires.shallow in
    let room : length c.back.places.items < 8 = omega arith in
    (lit< tt, (omega arith, room))

pub back-smaller : goal.back-smaller
unfolding entry_at
back-smaller c = (c.requires.back c.back.at c.back.invariant.queued c.back-test.true).0

pub back-preserved : goal.back-preserved
unfolding entry_at
back-preserved c =
    let s = c.requires.back c.back.at c.back.invariant.queued c.back-test.true in
    let below = s.0 in
    let less = s.1 in
    let old = c.back.invariant.many in
    let q = c.back.invariant.queued in
    let items = c.insert.ensures.items in
    let many = ap (λ (ps : List Place). length ps) items in
    record {
      queued = omega arith;
      many = omega arith;
      follows = λ sh w k seen h j size t o e. rw items (follows_step sh w k c.args.queue.now seen c.back.at c.back.places.items h j size t c.back.invariant.queued c.back-test.true (c.back.invariant.follows sh w k seen h j size t o e));
    }

pub returns-clause-many : goal.returns-clause-many
unfolding entry_at
returns-clause-many c =
    let old = c.back.invariant.many in
    let t = c.back-test.false in
    omega arith

pub returns-clause-chain : goal.returns-clause-chain
unfolding entry_at
returns-clause-chain c = λ sh w k seen h j size f.
    let t = c.back-test.false in
    let z : depth_at c.args.queue.now c.back.at ≡ 0 = omega arith in
    chain_here sh w k c.args.queue.now seen c.back.at c.back.places.items h j f.tree c.back.invariant.queued z (c.back.invariant.follows sh w k seen h j size f.tree f.hole f.in_bucket)
