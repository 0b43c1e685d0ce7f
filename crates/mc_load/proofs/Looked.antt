-- Lookups by a pass of shards, one after the other.
use Rattle.std.proofs.Common.{ℕ, ◌+◌, ◌<◌, List, [], ◌∷◌, ◌++◌, length, get_or, set, take, ap, inl, refl, subst, sym, ◌∙◌, arith}
use Rattle.std.specs.Prelude.{All}
use Rattle.std.proofs.lemmas.List.{get_or-map, length-map, take_more, take_more_set}
use Rattle.mc_words.specs.declared.history.Reply.{Reply}
use Rattle.mc_shared.specs.Records.{Opening, ReaderRecord}
use Rattle.mc_reader.specs.Records.{HaveLooked}
use Rattle.mc_check.specs.declared.record.Record.{Record}
use Rattle.mc_cache.specs.Turns.{HasLookedOrMet}
use Rattle.mc_shards.specs.Sharded.{ArePassOf, Sharded}
use Rattle.mc_load.specs.Inside.Handles.{records_of}
use Rattle.mc_load.specs.Inside.Workers.{AreReadersIn, HasLooked, HasLookedFrom, HaveAllGot, answers_of}
use Rattle.mc_load.specs.Inside.Works.{HaveRun}
use Rattle.mc_load.specs.Lookups.{HasGot, HasLookedIn, HaveLookedIn, one_shard}
use Rattle.mc_load.specs.declared.asked.Load.{Load}
use Rattle.mc_load.specs.declared.reader_thread.ReaderThread.{ReaderThread}
use Rattle.mc_load.proofs.OneShard.{belongs, one_changes}
use Rattle.mc_load.proofs.Readers.{some_element}

-- some, and then others
pub looked_more : (V : ℕ) (s : Sharded) (ks ls : List ℕ) (a b c : List ReaderRecord) (rs qs : List (Reply V)) → HaveLookedIn V s ks a b rs → HaveLookedIn V s ls b c qs → HaveLookedIn V s (ks ++ ls) a c (rs ++ qs)
looked_more V s [] ls a b c [] qs first next = subst (λ (p : List ReaderRecord). HaveLookedIn V s ls p c qs) first next
looked_more V s (k ∷ ks) ls a b c (r ∷ rs) qs first next = (first.0, first.1, looked_more V s ks ls first.0 b c rs qs first.2 next)
looked_more V s [] ls a b c (r ∷ rs) qs first next = absurd first
looked_more V s (k ∷ ks) ls a b c [] qs first next = absurd first

-- one of as many places, whose reply is written
pub looked_written : (V : ℕ) (s : Sharded) (ks : List ℕ) (n : ℕ) (a b c : List ReaderRecord) (rs : List (Reply V)) (r : Reply V) → n < length ks → n < length rs → HaveLookedIn V s (take n ks) a b (take n rs) → HasLookedIn V s (get_or ks n 0) b c r
    → HaveLookedIn V s (take (n + 1) ks) a c (take (n + 1) (set rs n r))
looked_written V s ks n a b c rs r low under first one =
    subst (λ (p : List ℕ × List (Reply V)). HaveLookedIn V s p.0 a c p.1) (λ i. (sym (take_more ks n 0 low) i, sym (take_more_set rs n r under) i))
    (looked_more V s (take n ks) (get_or ks n 0 ∷ []) a b c (take n rs) (r ∷ []) first (c, one, refl))

-- a reader of one cache looks up as one of the single shard
pub looked_alone : (V : ℕ) (o : Opening) (ks : List ℕ) (r r' : ReaderRecord) (replies : List (Reply V)) → HaveLooked V o.layout.shape ks r r' replies → HaveLookedIn V (one_shard o) ks (r ∷ []) (r' ∷ []) replies
looked_alone V o [] r r' [] looked = ap (λ (x : ReaderRecord). x ∷ []) looked
looked_alone V o (k ∷ ks) r r' (reply ∷ replies) looked =
    let sh = o.layout.shape in (
      looked.0 ∷ [],
      one_changes sh.mix k r looked.0 (λ x y. HasLookedOrMet V sh k x y reply) (inl looked.1),
      looked_alone V o ks looked.0 r' replies looked.2,
    )
looked_alone V o [] r r' (reply ∷ replies) looked = absurd looked
looked_alone V o (k ∷ ks) r r' [] looked = absurd looked

-- ---- readers that have ended
pub still_in : {V : ℕ} (may : ℕ → ℕ → Type 0) (load : Load) (s : Sharded) (before after : List (ReaderThread V)) → AreReadersIn s before → HaveRun (HasLooked V may load) before after → AreReadersIn s after
still_in {V} may load s before after in_s run = λ n d low.
    let many = run.0 in
    let under : n < length before = omega (arith, low, many) in (run.1 n d under).place ∙ in_s n d under

-- each has got its answers by lookups
pub all_got : {V : ℕ} (may : ℕ → ℕ → Type 0) (load : Load) (s : Sharded) (before after : List (ReaderThread V)) → AreReadersIn s before → HaveRun (HasLooked V may load) before after → HaveAllGot s after
all_got {V} may load s before after in_s run = λ n d low.
    let many = run.0 in
    let under : n < length before = omega (arith, low, many) in
    let was = get_or before n d in
    let now = get_or after n d in
    let place = in_s n d under in
    record {
      before = records_of was.handle;
      after = records_of now.handle;
      of = subst (λ (p : Sharded). ArePassOf p (records_of now.handle)) ((run.1 n d under).place ∙ place) (belongs now.handle);
      looked = subst (λ (p : Sharded). HasLookedFrom V p (records_of was.handle) now) place (run.1 n d under).looked;
    }

-- the answers by themselves
pub got_answers : {V : ℕ} (s : Sharded) (ls : List (ReaderThread V)) → HaveAllGot s ls → All (λ (records : List (Record V)). HasGot s records) (answers_of ls)
got_answers {V} s ls all = λ n e low.
    let under : n < length ls = omega (arith, low, length-map ls (λ (l : ReaderThread V). l.records.items)) in
    let d = some_element ls n under in
    subst (λ (records : List (Record V)). HasGot s records) (sym (get_or-map (λ (l : ReaderThread V). l.records.items) ls n d e under)) (all n d under)
