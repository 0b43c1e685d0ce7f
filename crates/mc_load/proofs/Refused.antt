-- What the gate refused, and what was done if it refused nothing.
use Rattle.std.proofs.Common.{ℕ, ◌≡◌, ◌+◌, ◌≤◌, List, get_or, length, Option, inl, inr, subst, sym, ◌∙◌, arith}
use Rattle.std.specs.Prelude.{IfSome}
use Rattle.mc_shards.specs.Sharded.{ArePassOf, Sharded}
use Rattle.mc_load.specs.declared.asked.Load.{Load}
use Rattle.mc_load.specs.declared.error.LoadError.{LoadError}
use Rattle.mc_load.specs.declared.error.LoadError.TheVariants as error
use Rattle.mc_words.specs.Readers.{HasReaders}
use Rattle.mc_words.specs.declared.shape.Shape.{Shape}
use Rattle.mc_cache.specs.Openings.{RefusesOpening}
use Rattle.mc_cache.specs.declared.opening.OpenError.{OpenError}
use Rattle.mc_cache.specs.declared.opening.OpenError.TheVariants as opening
use Rattle.mc_load.specs.ShardLoads.{CanTakeTurns, HasSeats, HasWriters, IsCallInTurns, RefusesSeats, RefusesTurns}
use Rattle.mc_load.specs.declared.reader_thread.ReaderThread.{ReaderThread}
use Rattle.mc_load.specs.declared.turn_thread.TurnThread.{TurnThread}
use Rattle.mc_load.specs.Inside.Refusals.{AreRefusedBy, AreTriesLetThrough, AreTriesRefusedBy, IsFirstRefusal, IsRefusedTry, IsTryRefusal}
use Rattle.mc_load.specs.Inside.Handles.{records_of}
use Rattle.mc_load.proofs.OneShard.{belongs}
use Rattle.mc_load.proofs.Readers.{reader_seat}
use Rattle.mc_load.specs.Inside.Sums.{HaveAllMade}
use Rattle.mc_load.specs.Inside.Tries.{HasTriedAll, HaveAllTried, HaveTriedWhole}
use Rattle.mc_load.specs.Inside.Workers.{HaveEnded}

-- ---- if it refused nothing
pub all_tried : {V : ℕ} (s : Sharded) (load : Load) (ts : List (TurnThread V)) → HaveAllTried V s load ts → AreTriesLetThrough ts (length ts) → HaveTriedWhole load ts
all_tried s load ts tried through = λ n d low. record {
  counted = (tried n d low).whole (through n d low);
  few = (tried n d low).few;
}

pub all_made : {V : ℕ} (s : Sharded) (load : Load) (ts : List (TurnThread V)) → HaveAllTried V s load ts → AreTriesLetThrough ts (length ts) → HaveAllMade V s load ts
all_made s load ts tried through = λ n d low. record {
  of = subst (λ (s : Sharded). ArePassOf s (records_of (get_or ts n d).handle)) (tried n d low).trying.of (belongs (get_or ts n d).handle);
  made = (tried n d low).made (through n d low);
}

-- ---- what it refused
-- the call is one of the writer's
try_call : {V : ℕ} (s : Sharded) (may : ℕ → ℕ → Type 0) (load : Load) (writers : ℕ) (ts : List (TurnThread V)) (n who call : ℕ) → length ts ≡ writers → HaveAllTried V s load ts → AreTriesRefusedBy may ts → IsRefusedTry ts n who call
    → IsCallInTurns load writers who call × may who call
try_call {V} s may load writers ts n who call many tried by r =
    let below = r.below in
    let end = subst (HasTriedAll V s load n) (sym r.is) (tried n r.writer below) in
    let made : (1 ≤ call) × (call ≤ load.writes) = subst (λ (x : Option ℕ). IfSome x (λ c. (1 ≤ c) × (c ≤ load.writes))) r.refused end.refused in
    let mine = subst (λ (t : TurnThread V). IfSome t.refused (λ c. may t.who c)) (sym r.is) (by n r.writer below) in
    let told : may r.writer.who call = subst (λ (x : Option ℕ). IfSome x (λ c. may r.writer.who c)) r.refused mine in
    ((made.0, inr ((n, omega (arith, below, many), r.named ∙ end.trying.who), made.1)), subst (λ (w : ℕ). may w call) (sym r.named) told)

-- the gate's refusal is one of the load's
pub refused_try_told : {V : ℕ} (s : Sharded) (may : ℕ → ℕ → Type 0) (load : Load) (shards writers : ℕ) (ts : List (TurnThread V)) (why : LoadError)
    → CanTakeTurns load shards writers → length ts ≡ writers → HaveAllTried V s load ts → AreTriesRefusedBy may ts → IsTryRefusal ts why → RefusesTurns may load shards writers why
refused_try_told s may load shards writers ts (error.Gate who call) asked many tried by r =
    let one = try_call s may load writers ts r.0 who call many tried by r.1 in (asked, one.0, one.1)
refused_try_told s may load shards writers ts (error.Open x) asked many tried by r = absurd r
refused_try_told s may load shards writers ts error.NoMemory asked many tried by r = absurd r
refused_try_told s may load shards writers ts error.Keys asked many tried by r = absurd r
refused_try_told s may load shards writers ts error.Writers asked many tried by r = absurd r
refused_try_told s may load shards writers ts error.Shards asked many tried by r = absurd r

pub refused_lookup_told : {V : ℕ} (may : ℕ → ℕ → Type 0) (load : Load) (shards writers : ℕ) (ls : List (ReaderThread V)) (why : LoadError)
    → CanTakeTurns load shards writers → length ls ≡ load.readers → HaveEnded V load ls → AreRefusedBy may ls → IsFirstRefusal ls why → RefusesTurns may load shards writers why
refused_lookup_told may load shards writers ls (error.Gate who call) asked many ended by r =
    let one = reader_seat may load ls r.0 call who many ended by r.1 r.2 in (asked, (one.0, inl one.1), one.2)
refused_lookup_told may load shards writers ls (error.Open x) asked many ended by r = absurd r
refused_lookup_told may load shards writers ls error.NoMemory asked many ended by r = absurd r
refused_lookup_told may load shards writers ls error.Keys asked many ended by r = absurd r
refused_lookup_told may load shards writers ls error.Writers asked many ended by r = absurd r
refused_lookup_told may load shards writers ls error.Shards asked many ended by r = absurd r

-- what no gate refuses is refused whatever the gate may refuse
pub refused_by_no_gate : (may : ℕ → ℕ → Type 0) (load : Load) (shards writers : ℕ) (why : LoadError) → RefusesTurns (λ who call. ⊥) load shards writers why → RefusesTurns may load shards writers why
refused_by_no_gate may load shards writers (error.Gate who call) r = absurd r.2
refused_by_no_gate may load shards writers (error.Open x) r = r
refused_by_no_gate may load shards writers error.NoMemory r = r
refused_by_no_gate may load shards writers error.Keys r = r
refused_by_no_gate may load shards writers error.Writers r = r
refused_by_no_gate may load shards writers error.Shards r = r

-- a cache is refused for as many readers as there are readers and writers
pub seats_refused : (sh : Shape) (readers writers seats : ℕ) (why : OpenError) → HasWriters writers → (HasReaders seats → (1 ≤ readers) × (seats ≡ readers + writers)) → (HasSeats readers writers → seats ≡ readers + writers) → RefusesOpening sh seats why → RefusesSeats sh readers writers why
seats_refused sh readers writers seats (opening.Shape why) some asked had r = r
seats_refused sh readers writers seats opening.Readers some asked had r = (r.0, λ all. let many = had all in let one = some.0 in let most = all.1 in r.1 (omega (arith, many, one), omega (arith, many, most)))
seats_refused sh readers writers seats opening.NoMemory some asked had r = let told = asked r.1 in let many = told.1 in let most = r.1.1 in (r.0, (told.0, omega (arith, many, most)))
