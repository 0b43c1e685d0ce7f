-- When the answers of `get_many` of a pass are true.
use mathlib.Core.Logic.{dite}
use native.Mathlib.Decide.{ℕ_discrete}
use Rattle.std.proofs.Common.{◌≡◌, ◌≢◌, ℕ, zero, suc, ◌^◌, ◌<◌, ◌≤◌, List, [], ◌∷◌, ◌++◌, append-nil, append_assoc, ap, refl, sym, ◌∙◌, subst, arith}
use Rattle.std.proofs.lemmas.Option.{same_Some}
use Rattle.std.specs.Prelude.{Some, slice_get, slice_set}
use Rattle.mc_words.specs.declared.policy.Policy.{Policy}
use Rattle.mc_words.specs.declared.history.Reply.{Reply}
use Rattle.mc_theory.specs.Readings.{Reading}
use Rattle.mc_shared.specs.Records.{ReaderRecord}
use Rattle.mc_shared.specs.Views.{layout_with}
use Rattle.mc_reader.specs.Records.{HasLooked}
use Rattle.mc_shards.specs.Sharded.{ChangesAt, HaveLookedAt, Sharded, shard_in}
use Rattle.mc_shards.proofs.ListedShards.{get_set_same}
use Rattle.mc_executions.specs.Executions.{HasReader, HasRecord}
use Rattle.mc_executions.specs.RunningCalls.{IsTimedWithin}
use Rattle.mc_executions.specs.RunningShards.{PassManyAreTimed, Together}
use Rattle.mc_executions.proofs.ExecutionRuns.{records_pass}
use Rattle.mc_executions.proofs.Fallbacks.{reads}
use Rattle.mc_executions.proofs.RunningShards.{between_shards}
use Rattle.mc_executions.proofs.TimedLookups.{gets_are_timed}

get_set_other : {A : Type 0} (xs : List A) (n m : ℕ) (y : A) → m ≢ n → slice_get (slice_set xs n y) m ≡ slice_get xs m
get_set_other [] n m y ne = refl
get_set_other (x ∷ xs) zero zero y ne = absurd (ne refl)
get_set_other (x ∷ xs) zero (suc m) y ne = refl
get_set_other (x ∷ xs) (suc n) zero y ne = refl
get_set_other (x ∷ xs) (suc n) (suc m) y ne = get_set_other xs n m y (λ e. ne (ap suc e))

-- the record of one reader, and what it is later
record Grows (r r' : ReaderRecord) : Type 0 where
  number : r'.number ≡ r.number
  more : List Reading
  done : r'.done ≡ r.done ++ more

-- readings that were added after others
then_grows : (r r' r'' : ReaderRecord) → Grows r r' → Grows r' r'' → Grows r r''
then_grows r r' r'' x y = record {
  number = y.number ∙ x.number;
  more = x.more ++ y.more;
  done = y.done ∙ (ap (λ (z : List Reading). z ++ y.more) x.done ∙ append_assoc r.done x.more y.more);
}

same_grows : (r r' : ReaderRecord) → r' ≡ r → Grows r r'
same_grows r r' e = record { number = ap (λ (x : ReaderRecord). x.number) e; more = []; done = ap (λ (x : ReaderRecord). x.done) e ∙ sym (append-nil r.done) }

-- a lookup in one shard leaves the records of the others, and adds to its own
one_grows : (V : ℕ) (of : Sharded) (k s : ℕ) (old new : List ReaderRecord) (reply : Reply V) (r : ReaderRecord) → ChangesAt (shard_in of k) old new (λ a b. HasLooked V of.shape k a b reply) → slice_get old s ≡ Some r →
    (r' : ReaderRecord) × (slice_get new s ≡ Some r') × Grows r r'
one_grows V of k s old new reply r at was = dite (ℕ_discrete s (shard_in of k))
    (λ here.
    let before : at.before ≡ r = same_Some at.before r (sym at.was ∙ (ap (λ (n : ℕ). slice_get old n) (sym here) ∙ was)) in
    let looked = subst (λ (x : ReaderRecord). HasLooked V of.shape k x at.after reply) before at.goes in (
      at.after,
      ap (λ (n : ℕ). slice_get new n) here ∙ (ap (λ (xs : List ReaderRecord). slice_get xs (shard_in of k)) at.is ∙ get_set_same old (shard_in of k) at.before at.after at.was),
      record { number = looked.number; more = looked.rs; done = looked.done },
    ))
    (λ other. (r, ap (λ (xs : List ReaderRecord). slice_get xs s) at.is ∙ (get_set_other old (shard_in of k) s at.after other ∙ was), same_grows r r refl))

all_grow : (V : ℕ) (of : Sharded) (s : ℕ) (keys : List ℕ) (old new : List ReaderRecord) (replies : List (Reply V)) (r r' : ReaderRecord) → HaveLookedAt V of keys old new replies → slice_get old s ≡ Some r → slice_get new s ≡ Some r' → Grows r r'
all_grow V of s [] old new [] r r' looked was is = same_grows r r' (same_Some r' r (sym is ∙ (ap (λ (xs : List ReaderRecord). slice_get xs s) looked ∙ was)))
all_grow V of s (k ∷ ks) old new (y ∷ ys) r r' looked was is =
    let one = one_grows V of k s old looked.0 y r looked.1 was in
    then_grows r one.0 r' one.2 (all_grow V of s ks looked.0 new ys one.0 r' looked.2 one.1 is)
all_grow V of s [] old new (y ∷ ys) r r' looked was is = absurd looked
all_grow V of s (k ∷ ks) old new [] r r' looked was is = absurd looked

-- one of the lookups: what its reader's record was before it and after it
record LooksAmid (V : ℕ) (of : Sharded) (k : ℕ) (r r' : ReaderRecord) (reply : Reply V) : Type 0 where
  before : ReaderRecord
  after : ReaderRecord
  earlier : Grows r before
  looked : HasLooked V of.shape k before after reply
  later : Grows after r'

looks_amid : (V : ℕ) (of : Sharded) (n k : ℕ) (keys : List ℕ) (old new : List ReaderRecord) (replies : List (Reply V)) (reply : Reply V) (r r' : ReaderRecord) → HaveLookedAt V of keys old new replies →
    slice_get keys n ≡ Some k → slice_get replies n ≡ Some reply → slice_get old (shard_in of k) ≡ Some r → slice_get new (shard_in of k) ≡ Some r' → LooksAmid V of k r r' reply
looks_amid V of n k [] old new replies reply r r' looked key said was is = absurd (cc)
looks_amid V of n k (x ∷ xs) old new [] reply r r' looked key said was is = absurd looked
looks_amid V of zero k (x ∷ xs) old new (y ∷ ys) reply r r' looked key said was is =
    let at : ChangesAt (shard_in of k) old looked.0 (λ a b. HasLooked V of.shape k a b reply) =
    subst (λ (z : ℕ × Reply V). ChangesAt (shard_in of z.0) old looked.0 (λ a b. HasLooked V of.shape z.0 a b z.1)) (λ i. (same_Some x k key i, same_Some y reply said i)) looked.1 in
    let before : at.before ≡ r = same_Some at.before r (sym at.was ∙ was) in
    let mid : slice_get looked.0 (shard_in of k) ≡ Some at.after = ap (λ (rs : List ReaderRecord). slice_get rs (shard_in of k)) at.is ∙ get_set_same old (shard_in of k) at.before at.after at.was in
    record {
      before = at.before;
      after = at.after;
      earlier = same_grows r at.before before;
      looked = at.goes;
      later = all_grow V of (shard_in of k) xs looked.0 new ys at.after r' looked.2 mid is;
    }
looks_amid V of (suc n) k (x ∷ xs) old new (y ∷ ys) reply r r' looked key said was is =
    let one = one_grows V of x (shard_in of k) old looked.0 y r looked.1 was in
    let rest = looks_amid V of n k xs looked.0 new ys reply one.0 r' looked.2 key said one.1 is in
    record { before = rest.before; after = rest.after; earlier = then_grows r one.0 rest.before one.2 rest.earlier; looked = rest.looked; later = rest.later }

-- such a lookup is true at a moment of its own
amid_is_timed : (V : ℕ) (policy : Policy) (of : Sharded) (k : ℕ) (r r' : ReaderRecord) (reply : Reply V) (all : Together V policy of) → k < 2 ^ 64 → LooksAmid V of k r r' reply → (i j : ℕ) → i ≤ j →
    HasReader r (all.states (shard_in of k) i) → HasReader r' (all.states (shard_in of k) j) → IsTimedWithin V of.shape (all.states (shard_in of k)) (all.runs (shard_in of k)) i j k reply
amid_is_timed V policy of k r r' reply all small x i j le had has =
    let states = all.states (shard_in of k) in
    let run = all.runs (shard_in of k) in
    let first = x.earlier in
    let look = x.looked in
    let last = x.later in
    let number : r'.number ≡ r.number = last.number ∙ (look.number ∙ first.number) in
    let seen : List Reading = r.done ++ first.more in
    let done : r'.done ≡ (seen ++ look.rs) ++ last.more = last.done ∙ ap (λ (z : List Reading). z ++ last.more) (look.done ∙ ap (λ (z : List Reading). z ++ look.rs) first.done) in
    let end : HasRecord r.number (states j) ((seen ++ look.rs) ++ last.more) = subst (λ (z : ℕ × List Reading). HasRecord z.0 (states j) z.1) (λ n. (number n, done n)) (reads r' (states j) has) in
    let whole : HasRecord r.number (states j) (seen ++ (look.rs ++ last.more)) = subst (HasRecord r.number (states j)) (append_assoc seen look.rs last.more) end in
    let p = records_pass (layout_with V policy of.shape) states run i j r.number r.done first.more (look.rs ++ last.more) le (reads r (states i) had) whole in
    let q = records_pass (layout_with V policy of.shape) states run p.0 j r.number seen look.rs last.more p.2 p.3 end in
    let from : HasRecord x.before.number (states p.0) x.before.done = subst (λ (z : ℕ × List Reading). HasRecord z.0 (states p.0) z.1) (λ n. (sym first.number n, sym first.done n)) p.3 in
    let until : HasRecord x.after.number (states q.0) x.after.done =
    subst (λ (z : ℕ × List Reading). HasRecord z.0 (states q.0) z.1) (λ n. (sym (look.number ∙ first.number) n, sym (look.done ∙ ap (λ (z : List Reading). z ++ look.rs) first.done) n)) q.3 in
    let y = gets_are_timed V policy of.shape states run p.0 q.0 k x.before x.after reply all.shape small q.1 from until look in
    (y.0, y.1, omega (arith, p.1, y.2), y.3, omega (arith, y.4, q.2), y.5)

pub pass_many_are_timed : (V : ℕ) (of : Sharded) (keys : List ℕ) (old new : List ReaderRecord) (replies : List (Reply V)) → ((n k : ℕ) → slice_get keys n ≡ Some k → k < 2 ^ 64) → HaveLookedAt V of keys old new replies → PassManyAreTimed V of keys old new replies
pass_many_are_timed V of keys old new replies small looked n k reply r r' key said was is policy all =
    between_shards V policy of k (HasReader r) (HasReader r') reply all
    (amid_is_timed V policy of k r r' reply all (small n k key) (looks_amid V of n k keys old new replies reply r r' looked key said was is))
