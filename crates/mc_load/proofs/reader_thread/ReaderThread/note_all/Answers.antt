use Rattle.std.proofs.Common.{ℕ, List, [], ◌∷◌, ◌≡◌, ◌+◌, ◌<◌, ◌++◌, ◌∙◌, append_assoc, arith, ap, ap₂, get_or, length, slice_index_or, subst, sym, take}
use Rattle.std.proofs.lemmas.List.{take_more}
use Rattle.mc_words.specs.declared.history.Reply.{Reply}
use Rattle.mc_load.specs.Draws.{drawn_key}
use Rattle.mc_load.specs.Inside.Handles.{IsTold}
use Rattle.mc_load.specs.Lookups.{keys_in, replies_in}
use Rattle.mc_load.specs.declared.handle.Handle.{Handle}
use Rattle.mc_load.proofs.reader_thread.ReaderThread.note_all.Goals as goal

-- one more is taken
one_more : {X : Type 0} (n : ℕ) (was from now all : List X) (d : X) → n < length all → was ≡ from ++ take n all → now ≡ was ++ get_or all n d ∷ [] → now ≡ from ++ take (n + 1) all
one_more {X} n was from now all d low before e =
    e ∙ (ap (λ (z : List X). z ++ get_or all n d ∷ []) before ∙ (append_assoc from (take n all) (get_or all n d ∷ []) ∙ ap (λ (z : List X). from ++ z) (sym (take_more all n d low))))

pub loop-n-preserved : goal.loop-n-preserved
loop-n-preserved g c =
    let n = c.loop-n.n in
    let kept = c.loop-n.invariant in
    record {
      told = λ before all.
          c.note.ensures.told (kept.told before all)
          (subst (λ (p : Handle g.row.V × Reply g.row.V). IsTold g.row.V p.0 (slice_index_or c.args.keys.now n 0) p.1) (λ i. (sym kept.handle i, sym c.index-replies-n.is i)) (all n 0 c.index-replies-n.result c.loop-n-test.true));
      drawn = λ load drawn next.
          c.note.ensures.drawn load (kept.drawn load drawn next)
          (next n _ c.loop-n-test.true ∙ ap₂ (drawn_key load) (ap (λ (r : ℕ). r + 1) (sym kept.number)) (sym kept.len));
      keys = one_more c.loop-n.n (keys_in c.loop-n.self.records.items) (keys_in c.args.self.now.records.items) (keys_in c.note.new.self.records.items) c.args.keys.now 0 c.loop-n-test.true kept.keys c.note.ensures.key;
      replies = one_more c.loop-n.n (replies_in c.loop-n.self.records.items) (replies_in c.args.self.now.records.items) (replies_in c.note.new.self.records.items) c.args.replies.now c.index-replies-n.result (omega (arith, c.requires.many, c.loop-n-test.true)) kept.replies (c.note.ensures.reply ∙ ap (λ (r : Reply g.row.V). replies_in c.loop-n.self.records.items ++ r ∷ []) c.index-replies-n.is);
      len = omega (arith, c.note.ensures.len, kept.len);
      capacity = omega (arith, c.note.ensures.capacity, kept.capacity);
      number = c.note.ensures.kept.0 ∙ kept.number;
      refused = c.note.ensures.kept.1 ∙ kept.refused;
      handle = c.note.ensures.others.0 ∙ kept.handle;
      draws = c.note.ensures.others.1 ∙ kept.draws;
    }
