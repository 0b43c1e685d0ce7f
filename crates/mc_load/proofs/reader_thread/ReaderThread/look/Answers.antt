use Rattle.std.proofs.Common.{List, ℕ, subst, sym}
use Rattle.mc_words.specs.declared.history.Reply.{Reply}
use Rattle.mc_load.specs.Inside.Handles.{place_of, records_of}
use Rattle.mc_load.specs.Lookups.{HaveLookedIn, keys_in, replies_in}
use Rattle.mc_load.specs.declared.handle.Handle.{Handle}
use Rattle.mc_load.proofs.Looked.{looked_more}
use Rattle.mc_load.proofs.reader_thread.ReaderThread.look.Goals as goal

pub returns-clause-told : goal.returns-clause-told
returns-clause-told g c = c.note_all.ensures.told (λ n d low. c.get_many.ensures.later _ _ (c.requires.told n d low)) c.get_many.ensures.told

pub returns-clause-looked : goal.returns-clause-looked
returns-clause-looked g c before so_far =
    let V = g.row.V in
    let s = place_of c.args.self.now.handle in
    let old = c.args.self.now.records.items in
    subst (λ (h : Handle V). HaveLookedIn V s (keys_in c.note_all.new.self.records.items) before (records_of h) (replies_in c.note_all.new.self.records.items)) (sym c.note_all.ensures.others.0)
    (subst (λ (p : List ℕ × List (Reply V)). HaveLookedIn V s p.0 before (records_of c.get_many.new.self) p.1) (λ i. (sym c.note_all.ensures.keys i, sym c.note_all.ensures.replies i))
    (looked_more V s (keys_in old) c.args.keys.now before (records_of c.args.self.now.handle) (records_of c.get_many.new.self) (replies_in old) c.get_many.new.replies so_far c.get_many.ensures.looked))
