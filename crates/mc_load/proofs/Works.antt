-- Workers that were ready, each by its place, and have run.
use Rattle.std.proofs.Common.{ℕ, zero, suc, ◌≡◌, ◌+◌, ◌<◌, ◌≤◌, All, List, [], ◌∷◌, ◌++◌, ap, get_or, length, length-append, refl, subst, sym, ◌∙◌, arith}
use Rattle.std.proofs.Math.Seq.{get_or-append_seam}
use Rattle.std.specs.Prelude.{IfSome}
use Rattle.mc_words.specs.Readers.{most_readers}
use Rattle.mc_shared.specs.Records.{Opening, new_readers, reader_record}
use Rattle.mc_shards.specs.Sharded.{Sharded}
use Rattle.mc_load.specs.ShardLoads.{most_writers}
use Rattle.mc_load.specs.Inside.Handles.{place_of}
use Rattle.mc_load.specs.Inside.Refusals.{AreRefusedBy, AreTriesRefusedBy}
use Rattle.mc_load.specs.Inside.Tries.{CanAllTry, CanBegin, CanTry, HasTried, HasTriedAll, HaveAllTried}
use Rattle.mc_load.specs.Inside.Workers.{AreReadersOf, AreReady, CanLook, HasEnded, HasEndedWriting, HasLooked, HaveEnded, IsReady}
use Rattle.mc_load.specs.Inside.Works.{HaveRun}
use Rattle.mc_load.specs.declared.asked.Load.{Load}
use Rattle.mc_load.specs.declared.reader_thread.ReaderThread.{ReaderThread}
use Rattle.mc_load.specs.declared.turn_thread.TurnThread.{TurnThread}
use Rattle.mc_load.specs.declared.writer_thread.WriterThread.{WriterThread}

-- ---- readers
-- of a new cache there are as many as requested
pub new_length : (o : Opening) (n : ℕ) → length (new_readers o n) ≡ n
new_length o zero = refl
new_length o (suc n) = let h = new_length o n in omega (arith, h, length-append (new_readers o n) (reader_record o n [] [] ∷ []))

pub all_can_look : {V : ℕ} (load : Load) (ls : List (ReaderThread V)) → length ls ≤ most_readers → AreReady V load ls → All (CanLook V load) ls
all_can_look {V} load ls few ready = λ n d low.
    let one = ready n d low in
    let place = one.number in (subst (λ (k : ℕ). IsReady V load k (get_or ls n d)) (sym place) one, omega (arith, place, low, few))

pub all_ended : {V : ℕ} (may : ℕ → ℕ → Type 0) (load : Load) (before after : List (ReaderThread V)) → AreReady V load before → HaveRun (HasLooked V may load) before after → HaveEnded V load after
all_ended {V} may load before after ready run = λ n d low.
    let many = run.0 in
    let under : n < length before = omega (arith, low, many) in
    subst (λ (k : ℕ). HasEnded V load k (get_or after n d)) (ready n d under).number (run.1 n d under).ended

pub all_refused : {V : ℕ} (may : ℕ → ℕ → Type 0) (load : Load) (before after : List (ReaderThread V)) → AreReady V load before → HaveRun (HasLooked V may load) before after → AreRefusedBy may after
all_refused {V} may load before after ready run = λ n d low.
    let many = run.0 in
    let under : n < length before = omega (arith, low, many) in
    subst (λ (k : ℕ). IfSome (get_or after n d).refused (λ call. may (k + 1) call)) (ready n d under).number (run.1 n d under).refused

pub still_readers : {V : ℕ} (may : ℕ → ℕ → Type 0) (load : Load) (o : Opening) (before after : List (ReaderThread V)) → AreReadersOf o before → HaveRun (HasLooked V may load) before after → AreReadersOf o after
still_readers {V} may load o before after of run = λ n d low.
    let many = run.0 in
    let under : n < length before = omega (arith, low, many) in (run.1 n d under).cache ∙ of n d under

-- ---- writers that take turns
pub all_can_try : {V : ℕ} (s : Sharded) (load : Load) (ts : List (TurnThread V)) → length ts ≤ most_writers → CanAllTry V s load ts → All (CanBegin V load) ts
all_can_try {V} s load ts few can = λ n d low.
    let one = can n d low in
    let place = one.trying.number in (
      subst (λ (k : ℕ). CanTry V (place_of (get_or ts n d).handle) load k (get_or ts n d)) (sym place) (subst (λ (p : Sharded). CanTry V p load n (get_or ts n d)) (sym one.trying.of) one),
      omega (arith, place, low, few),
    )

pub all_have_tried : {V : ℕ} (may : ℕ → ℕ → Type 0) (s : Sharded) (load : Load) (before after : List (TurnThread V)) → CanAllTry V s load before → HaveRun (HasTried V may load) before after → HaveAllTried V s load after
all_have_tried {V} may s load before after can run = λ n d low.
    let many = run.0 in
    let under : n < length before = omega (arith, low, many) in
    let was = (can n d under).trying in
    subst (λ (k : ℕ). HasTriedAll V s load k (get_or after n d)) was.number (subst (λ (p : Sharded). HasTriedAll V p load (get_or before n d).number (get_or after n d)) was.of (run.1 n d under).tried)

pub all_tries_refused : {V : ℕ} (may : ℕ → ℕ → Type 0) (load : Load) (before after : List (TurnThread V)) → HaveRun (HasTried V may load) before after → AreTriesRefusedBy may after
all_tries_refused may load before after run = λ n d low.
    let many = run.0 in (run.1 n d (omega (arith, low, many))).refused

-- ---- a single writer, taken out of its list
pub only_one : {X : Type 0} (xs rest : List X) (x : X) → xs ≡ rest ++ x ∷ [] → length xs ≡ 1 → get_or xs 0 x ≡ x
only_one {X} xs rest x e one =
    let none : length rest ≡ 0 = omega (arith, one, ap length e, length-append rest (x ∷ [])) in
    ap (λ (z : List X). get_or z 0 x) e ∙ (ap (λ (k : ℕ). get_or (rest ++ x ∷ []) k x) (sym none) ∙ get_or-append_seam rest x [] x)

-- it has ended
pub writer_ended : {V : ℕ} (may : ℕ → ℕ → Type 0) (load : Load) (before after rest : List (WriterThread V)) (x : WriterThread V) → length before ≡ 1 → after ≡ rest ++ x ∷ [] → HaveRun (HasEndedWriting V may load) before after
    → HasEndedWriting V may load (get_or before 0 x) x
writer_ended {V} may load before after rest x one e run =
    let many = run.0 in
    let low : 0 < length before = omega (arith, one) in
    subst (λ (y : WriterThread V). HasEndedWriting V may load (get_or before 0 x) y) (only_one after rest x e (many ∙ one)) (run.1 0 x low)
