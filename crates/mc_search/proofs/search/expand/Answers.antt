use Rattle.std.proofs.Common.{ℕ, ◌≡◌, ◌≢◌, ◌∙◌, ◌+◌, ◌*◌, List, ap, subst, arith}
use Rattle.mc_words.specs.Checks.{shape_of}
use Rattle.mc_words.specs.Places.{slot}
use Rattle.mc_search.specs.Inside.Readable.{IsFull, IsHoleIn}
use Rattle.mc_search.specs.Inside.Search.{next_bucket, IsExpanding, IsSearching}
use Rattle.mc_search.proofs.Levels.{taken_at, bucket_read, expanding-added, full-added, full-old, searching-after}
use Rattle.mc_search.proofs.Shortest.{found_added}
use Rattle.mc_search.proofs.search.expand.Goals as goal
use Rattle.mc_search.proofs.search.expand.Goals.{After-add, then-add+in_default, else-add}
use Rattle.mc_search.proofs.search.expand.Given.{Over}

-- the slot is taken
taken : (g : Over) (c : After-add g) → slot (shape_of c.args.checked.now) (g.P.Peek.words c.args.peek.now) (4 * c.args.entry.bucket + c.loop-slot.slot) ≢ 0
taken g c = taken_at (shape_of c.args.checked.now) (g.P.Peek.words c.args.peek.now) c.args.front c.args.entry c.loop-slot.slot c.args.queue.now.items c.requires.full c.requires.queued c.requires.front c.loop-slot-test.true

-- the bucket is that to which the slot's item can move
bucket : (g : Over) (c : After-add g) → c.other_bucket-bucket.result ≡ next_bucket (shape_of c.args.checked.now) (g.P.Peek.words c.args.peek.now) c.args.entry.bucket c.loop-slot.slot
bucket g c = bucket_read (shape_of c.args.checked.now) (g.P.Peek.words c.args.peek.now) (g.P.Peek.words c.loop-slot.peek) c.args.entry c.loop-slot.slot c.slot_at-word.result c.other_bucket-bucket.result c.loop-slot.invariant.same c.slot_at-word.ensures.value c.other_bucket-bucket.ensures.value

-- the words are the same after the read
same : (g : Over) (c : After-add g) → g.P.Peek.words c.slot_at-word.new.peek ≡ g.P.Peek.words c.args.peek.now
same g c = ap g.P.Peek.words c.slot_at-word.ensures.kept ∙ c.loop-slot.invariant.same

-- and so is the view
kept : (g : Over) (c : After-add g) → c.slot_at-word.new.peek ≡ c.args.peek.now
kept g c = c.slot_at-word.ensures.kept ∙ c.loop-slot.invariant.kept

pub returns-in-Some-clause-found : goal.returns-in-Some-clause-found
returns-in-Some-clause-found g c =
    let a = (goal.at.returns-in-Some-clause-found g c).After-add in
    let sh = shape_of c.args.checked.now in
    let w = g.P.Peek.words c.args.peek.now in
    λ k s.
    found_added sh w k c.args.front c.args.entry c.loop-slot.slot c.other_bucket-bucket.result c.loop-slot.queue.items c.add.new.queue.items c.add.result c.in-Some.hole c.loop-slot.invariant.full (c.loop-slot.invariant.expanding k s) c.loop-slot-test.true (taken g a) c.requires.shallow (bucket g a) c.if-add.true c.add.ensures.added
    (subst (λ (v : List ℕ). IsHoleIn sh v c.other_bucket-bucket.result c.in-Some.hole) (same g a) c.in-Some.ensures.found)

pub loop-slot-preserved : goal.loop-slot-preserved
loop-slot-preserved g c =
    let a = (goal.at.loop-slot-preserved g c).After-add in
    let sh = shape_of c.args.checked.now in
    let words = g.P.Peek.words in
    let w = words c.args.peek.now in
    let b = c.other_bucket-bucket.result in
    let q = c.loop-slot.queue.items in
    let r = c.add.new.queue.items in
    let expanding : (k : ℕ) → IsSearching sh w k c.args.front c.args.queue.now.items → IsExpanding sh w k c.args.front c.args.entry (4 * c.args.front + (c.loop-slot.slot + 1)) r =
    λ k s. expanding-added sh w k c.args.front c.args.entry c.loop-slot.slot b q r c.add.result (c.loop-slot.invariant.expanding k s) c.loop-slot-test.true (taken g a) c.requires.shallow (bucket g a) c.add.ensures.added in
    elim c.if-add.branch [
      | then-add+in_default u ↦ record {
        same = ap words u.peek-is ∙ ap g.P.Peek.words u.in_default.ensures.kept ∙ same g a;
        kept = u.peek-is ∙ u.in_default.ensures.kept ∙ kept g a;
        queue = c.add.ensures.queue;
        room = c.add.ensures.room;
        size = c.add.ensures.size ∙ c.loop-slot.invariant.size;
        full = full-added sh w q r _ c.add.result c.add.ensures.added c.loop-slot.invariant.full (subst (λ (v : List ℕ). IsFull sh v b) (same g a) u.in_default.ensures.found);
        expanding = expanding;
      }
      | else-add u ↦ record {
        same = ap words u.peek-is ∙ same g a;
        kept = u.peek-is ∙ kept g a;
        queue = c.add.ensures.queue;
        room = c.add.ensures.room;
        size = c.add.ensures.size ∙ c.loop-slot.invariant.size;
        full = full-old sh w q r _ c.add.result u.if-add.false c.add.ensures.added c.loop-slot.invariant.full;
        expanding = expanding;
      }
    ]

pub returns-clause-none : goal.returns-clause-none
returns-clause-none g c =
    let sh = shape_of c.args.checked.now in
    let w = g.P.Peek.words c.args.peek.now in
    let last = c.loop-slot-test.false in
    let end = c.loop-slot.auto.slot-end in
    let four : c.loop-slot.slot ≡ 4 = omega arith in
    λ k s. searching-after sh w k c.args.front c.args.entry c.loop-slot.queue.items (subst (λ (j : ℕ). IsExpanding sh w k c.args.front c.args.entry (4 * c.args.front + j) c.loop-slot.queue.items) four (c.loop-slot.invariant.expanding k s))
