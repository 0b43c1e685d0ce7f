use Rattle.std.proofs.Common.{ℕ, ◌<◌, ◌∙◌, [], ◌∷◌, arith, below_more, get_or, length, set, subst, sym}
use Rattle.std.proofs.Math.ListN.{length-set}
use Rattle.std.proofs.lemmas.List.{get_or-set_other, get_or-set_same, get_or_default}
use Rattle.mc_words.specs.declared.history.Reply.{Reply}
use Rattle.mc_reader.proofs.ManyLookups.{grown}
use Rattle.mc_shards.specs.Sharded.{Sharded}
use Rattle.mc_load.specs.Inside.Handles.{IsTold, place_of, records_of}
use Rattle.mc_load.specs.Lookups.{HasLookedIn, HaveLookedIn}
use Rattle.mc_load.specs.declared.handle.Handle.{Handle}
use Rattle.mc_load.proofs.Batches.{answer_is_true}
use Rattle.mc_load.proofs.Histories.{true_later}
use Rattle.mc_load.proofs.Looked.{looked_alone, looked_written}
use Rattle.mc_load.proofs.handle.Handle.get_many.Goals as goal

pub returns-in-Cache-clause-told : goal.returns-in-Cache-clause-told
returns-in-Cache-clause-told g c = λ n d e low. answer_is_true _ _ _ c.args.keys.now c.get_many.new.replies n d e c.get_many.ensures.truth low

pub returns-in-Cache-clause-later : goal.returns-in-Cache-clause-later
returns-in-Cache-clause-later g c = λ k reply told.
    let held = c.in-Cache.held in
    let sh = held.cache.now.layout.shape in
    let after = c.get_many.new.self in
    true_later g.row.V sh held.reader.front after.front k reply (grown g.row.V sh c.args.keys.now held.reader after c.get_many.new.replies c.get_many.ensures.looked).begins
    (subst (λ (h : Handle g.row.V). IsTold g.row.V h k reply) c.in-Cache.is told)

pub returns-in-Cache-clause-looked : goal.returns-in-Cache-clause-looked
returns-in-Cache-clause-looked g c =
    let V = g.row.V in
    let held = c.in-Cache.held in
    let after = c.get_many.new.self in
    subst (λ (h : Handle V). HaveLookedIn V (place_of h) c.args.keys.now (records_of h) (after ∷ []) c.get_many.new.replies) (sym c.in-Cache.is)
    (looked_alone V held.cache.now c.args.keys.now held.reader after c.get_many.new.replies c.get_many.ensures.looked)

pub loop-n-preserved : goal.loop-n-preserved
loop-n-preserved g c =
    let V = g.row.V in
    let n = c.loop-n.n in
    let keys = c.args.keys.now in
    let replies = c.loop-n.replies in
    let was = c.loop-n.invariant in
    let new = c.get.new.self in
    let r = c.get.result in
    let low = c.loop-n-test.true in
    let under : n < length replies = omega (arith, low, was.many) in
    record {
      many = length-set {A = Reply V} replies n r ∙ was.many;
      cache = c.get.ensures.cache ∙ was.cache;
      place = c.get.ensures.place ∙ was.place;
      looked = looked_written V (place_of c.args.self.now) keys n (records_of c.args.self.now) (records_of c.loop-n.self) (records_of new) replies r low under was.looked
          (subst (λ (s : Sharded). HasLookedIn V s (get_or keys n 0) (records_of c.loop-n.self) (records_of new) r) was.place c.get.ensures.looked);
      told = λ k d e few.
          below_more (λ (j : ℕ). (d' : ℕ) (e' : Reply V) → IsTold V new (get_or keys j d') (get_or (set replies n r) j e')) n
          (λ j less d' e'. subst (λ (q : Reply V). IsTold V new (get_or keys j d') q) (sym (get_or-set_other replies n j r e' (λ same. absurd (omega (arith, same, less))))) (c.get.ensures.later (get_or keys j d') (get_or replies j e') (was.told j d' e' less)))
          (λ d' e'. subst (λ (q : Reply V). IsTold V new (get_or keys n d') q) (sym (get_or-set_same replies n r e' under)) (subst (λ (k' : ℕ). IsTold V new k' r) (get_or_default keys n 0 d' low) c.get.ensures.told))
          k few d e;
      later = λ k reply told. c.get.ensures.later k reply (was.later k reply told);
    }
