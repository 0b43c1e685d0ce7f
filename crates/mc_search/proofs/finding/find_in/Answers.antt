use Rattle.std.proofs.Common.{◌∙◌, ap, arith, below_more}
use Rattle.mc_words.specs.Checks.{shape_of}
use Rattle.mc_words.specs.Keys.{tag_of}
use Rattle.mc_search.proofs.KeySlots.{not_at-none, not_at-other, stands_at}
use Rattle.mc_search.proofs.finding.find_in.Goals as goal
use Rattle.mc_search.proofs.finding.find_in.Goals.{in-Some+else-stored-key, in_default}

pub loop-slot-preserved : goal.loop-slot-preserved
loop-slot-preserved g c =
    let words = g.P.Peek.words in
    let w = words c.args.peek.now in
    let sh = shape_of c.args.checked.now in
    let read = c.slot_at-word.ensures in
    elim c.match-tag_match.branch [
      | in-Some+else-stored-key u ↦ record {
        same = ap words (u.peek-is ∙ u.key_at-stored.ensures.kept ∙ read.kept) ∙ c.loop-slot.invariant.same;
        kept = u.peek-is ∙ u.key_at-stored.ensures.kept ∙ read.kept ∙ c.loop-slot.invariant.kept;
        none = below_more _ _ c.loop-slot.invariant.none
            (not_at-other g.row.V sh w (words c.loop-slot.peek) (words c.slot_at-word.new.peek) c.args.key _ c.slot_at-word.result _ _ c.args.checked.now.sound c.loop-slot.invariant.same read.value (u.in-Some.ensures (tag_of sh c.args.key) c.requires.base) (ap words read.kept) u.key_at-stored.ensures.value u.if-stored-key.false);
      }
      | in_default u ↦ record {
        same = ap words (u.peek-is ∙ read.kept) ∙ c.loop-slot.invariant.same;
        kept = u.peek-is ∙ read.kept ∙ c.loop-slot.invariant.kept;
        none = below_more _ _ c.loop-slot.invariant.none
            (not_at-none g.row.V sh w (words c.loop-slot.peek) c.args.key _ c.slot_at-word.result c.loop-slot.invariant.same read.value (u.in_default.ensures (tag_of sh c.args.key) c.requires.base));
      }
    ]

pub returns-then-stored-key-clause-found : goal.returns-then-stored-key-clause-found
returns-then-stored-key-clause-found g c =
    let sh = shape_of c.args.checked.now in
    let words = g.P.Peek.words in
    let read = c.slot_at-word.ensures in
    let names = c.in-Some.ensures {u = tt} (tag_of sh c.args.key) c.requires.base in
    stands_at g.row.V sh (words c.args.peek.now) (words c.loop-slot.peek) (words c.slot_at-word.new.peek) c.args.key _ c.slot_at-word.result _ _ (omega arith) (omega (arith, c.requires.in_table)) c.loop-slot.invariant.same read.value names (ap words read.kept) c.key_at-stored.ensures.value c.if-stored-key.true
