-- When the answers of running calls of shards are true.
use Rattle.std.proofs.Common.{◌≡◌, ⊎_elim, inl, ℕ, zero, suc, ◌+◌, ◌-◌, ◌^◌, ◌<◌, ◌≤◌, List, [], length, ap, sym, ◌∙◌, subst, arith}
use Rattle.std.proofs.lemmas.Option.{get_or_from_slice_get, slice_get-map, slice_get_within}
use Rattle.std.specs.Prelude.{Some, map, option_map, slice_get, slice_index_or}
use Rattle.mc_words.specs.Keys.{shard_of}
use Rattle.mc_words.specs.declared.mix.Mix.{Mix}
use Rattle.mc_words.specs.declared.policy.Policy.{Policy}
use Rattle.mc_words.specs.declared.history.Reply.{Reply}
use Rattle.mc_words.specs.declared.history.Change.{Change}
use Rattle.mc_words.specs.declared.shape.Shape.{Shape}
use Rattle.mc_theory.specs.Lists.{state_of}
use Rattle.mc_shared.specs.Records.{Opening, ReaderRecord, WriterRecord}
use Rattle.mc_shared.specs.declared.layout.Layout.{Layout}
use Rattle.mc_reader.specs.Records.{HasLooked}
use Rattle.mc_writer.specs.WriterCalls.{HasGot}
use Rattle.mc_cache.specs.Plain.{TellsNow, history}
use Rattle.mc_cache.specs.Turns.{HasLookedOrMet}
use Rattle.mc_shards.specs.Holding.{Holding, IsHolderOf, histories}
use Rattle.mc_shards.specs.Plain.{Tells, history_of}
use Rattle.mc_shards.specs.Sharded.{ChangesAt, Sharded, shard_in}
use Rattle.mc_shards.proofs.HeldCalls.{as_many_histories}
use Rattle.mc_shards.proofs.ListedShards.{get_set_same}
use Rattle.mc_executions.specs.Executions.{TableState, HasActs, HasReader}
use Rattle.mc_executions.specs.RunningCalls.{IsTimedWithin}
use Rattle.mc_executions.specs.RunningShards.{HeldCallIsTimed, HeldPeekIsTimed, HolderIsTimed, PassIsTimed, Together}
use Rattle.mc_executions.specs.ShardedTime.{AreStepsOf}
use Rattle.mc_executions.proofs.RunningCalls.{looked_or_met_is_timed, told_by, told_throughout}
use Rattle.mc_executions.proofs.ShardedTime.{shards_are_timed}
use Rattle.mc_executions.proofs.TimedChanges.{changes_are_steps}
use Rattle.mc_executions.proofs.TimedLookups.{writers_gets_are_timed}

shard_below : (mix : Mix) (n k : ℕ) → 0 < n → shard_of mix n k < n
unfolding shard_of
shard_below mix n k some = omega (arith, some)

-- a shard's steps only grow in number
rise : (steps : ℕ → ℕ → ℕ) (s : ℕ) → AreStepsOf steps → (d i : ℕ) → steps i s ≤ steps (i + d) s
rise steps s are zero i = let here : i ≡ i + 0 = omega arith in subst (λ (n : ℕ). steps i s ≤ steps n s) here (omega arith)
rise steps s are (suc d) i =
    let more = rise steps s are d i in
    let one : steps (i + d) s ≤ steps (suc (i + d)) s = ⊎_elim (λ same. omega (arith, same)) (λ next. omega (arith, next)) (are.one (i + d) s) in
    let here : suc (i + d) ≡ i + suc d = omega arith in
    subst (λ (n : ℕ). steps i s ≤ steps n s) here (omega (arith, more, one))

pub steps_rise : (steps : ℕ → ℕ → ℕ) (s : ℕ) → AreStepsOf steps → (i j : ℕ) → i ≤ j → steps i s ≤ steps j s
steps_rise steps s are i j le = let here : i + (j - i) ≡ j = omega (arith, le) in subst (λ (n : ℕ). steps i s ≤ steps n s) here (rise steps s are (j - i) i)

-- a reply that is true within the key's shard is what the one map held
pub between_shards : (V : ℕ) (policy : Policy) (of : Sharded) (k : ℕ) (Before After : TableState → Type 0) (reply : Reply V) (all : Together V policy of) →
    ((i j : ℕ) → i ≤ j → Before (all.states (shard_in of k) i) → After (all.states (shard_in of k) j) → IsTimedWithin V of.shape (all.states (shard_in of k)) (all.runs (shard_in of k)) i j k reply) →
    (i j : ℕ) → i ≤ j → Before (all.states (shard_in of k) (all.steps i (shard_in of k))) → After (all.states (shard_in of k) (all.steps j (shard_in of k))) →
    (n : ℕ) × (i ≤ n) × (n ≤ j) × Tells of.shape.mix (all.histories n) k reply
between_shards V policy of k Before After reply all timed i j le had has =
    let s : ℕ = shard_in of k in
    let x = timed (all.steps i s) (all.steps j s) (steps_rise all.steps s all.in_order i j le) had has in
    let y = shards_are_timed V policy of.shape (length of.tables) all.states all.runs all.steps all.histories i j k x.0 x.1 reply all.in_order all.are le (shard_below of.shape.mix (length of.tables) k all.some) x.2 x.4 x.5 in
    (y.0, y.1, y.2, y.5)

-- ---- a pass
pub pass_is_timed : (V : ℕ) (of : Sharded) (k : ℕ) (old new : List ReaderRecord) (reply : Reply V) → k < 2 ^ 64 → ChangesAt (shard_in of k) old new (λ r r'. HasLookedOrMet V of.shape k r r' reply) → PassIsTimed V of k old new reply
pass_is_timed V of k old new reply small at = record {
  before = at.before;
  after = at.after;
  was = at.was;
  is = at.is;
  goes = λ policy all. between_shards V policy of k (HasReader at.before) (HasReader at.after) reply all
      (λ i j le had has. looked_or_met_is_timed V of.shape k at.before at.after reply all.shape small at.goes policy (all.states (shard_in of k)) (all.runs (shard_in of k)) i j le had has);
}

pub looked_or_met : (V : ℕ) (of : Sharded) (k : ℕ) (old new : List ReaderRecord) (reply : Reply V) → ChangesAt (shard_in of k) old new (λ r r'. HasLooked V of.shape k r r' reply) → ChangesAt (shard_in of k) old new (λ r r'. HasLookedOrMet V of.shape k r r' reply)
looked_or_met V of k old new reply at = record { before = at.before; after = at.after; was = at.was; is = at.is; goes = inl at.goes }

-- ---- a holder
-- the writer of a shard is that of a table of the one shape
shape_at : (V : ℕ) (policy : Policy) (of : Sharded) (all : Together V policy of) (n : ℕ) (ws : List WriterRecord) (w : WriterRecord) → map (λ (x : WriterRecord). x.of) ws ≡ of.tables → slice_get ws n ≡ Some w → w.of.layout.shape ≡ of.shape
shape_at V policy of all n ws w are at =
    let here : slice_get of.tables n ≡ Some w.of = ap (λ (os : List Opening). slice_get os n) (sym are) ∙ (slice_get-map (λ (x : WriterRecord). x.of) ws n ∙ ap (option_map (λ (x : WriterRecord). x.of)) at) in
    ap (λ (o : Opening). o.layout.shape) (sym (get_or_from_slice_get of.tables n w.of w.of here)) ∙ ap (λ (l : Layout). l.shape) (all.tables n w.of (slice_get_within of.tables n w.of here))

pub holder_is_timed : (V : ℕ) (of : Sharded) (k : ℕ) (h h' : Holding) (reply : Reply V) → IsHolderOf of h' → ChangesAt (shard_in of k) h.writers h'.writers (λ w w'. HasGot V w.of.layout.shape k w w' reply) → HolderIsTimed V of k h h' reply
holder_is_timed V of k h h' reply holds at = record {
  before = at.before;
  after = at.after;
  was = at.was;
  is = at.is;
  goes = λ policy all. between_shards V policy of k (λ s. HasActs s at.before.acts) (λ s. HasActs s at.after.acts) reply all
      (λ i j le had has.
      let s : ℕ = shard_in of k in
      let here : slice_get h'.writers s ≡ Some at.after = ap (λ (ws : List WriterRecord). slice_get ws s) at.is ∙ get_set_same h.writers s at.before at.after at.was in
      let shape = ap (λ (o : Opening). o.layout.shape) (sym at.goes.of) ∙ shape_at V policy of all s h'.writers at.after holds.writers here in
      let got = subst (λ (sh : Shape). HasGot V sh k at.before at.after reply) shape at.goes in
      (i, i, omega arith, omega arith, le, writers_gets_are_timed V policy of.shape (all.states s) (all.runs s) i j k at.before at.after reply had has got i (omega arith) le));
}

pub held_peek_is_timed : (V : ℕ) (of : Sharded) (k : ℕ) (h : Holding) (reply : Reply V) → IsHolderOf of h → TellsNow (history_of of.shape.mix (histories V h) k) k reply → HeldPeekIsTimed V of k h reply
held_peek_is_timed V of k h reply holds told w at policy all =
    let s : ℕ = shard_in of k in
    let many : length (histories V h) ≡ length of.tables = as_many_histories V of h holds in
    let own : slice_get (histories V h) s ≡ Some (history V w) = slice_get-map (history V) h.writers s ∙ ap (option_map (history V)) at in
    let read : history_of of.shape.mix (histories V h) k ≡ history V w = ap (λ (n : ℕ). slice_index_or (histories V h) (shard_of of.shape.mix n k) []) many ∙ get_or_from_slice_get (histories V h) s (history V w) [] own in
    let now = subst (λ (sh : Shape). TellsNow (state_of V sh w.acts).history k reply) (shape_at V policy of all s h.writers w holds.writers at) (told_by V w k reply (subst (λ (z : List (Change V)). TellsNow z k reply) read told)) in
    between_shards V policy of k (λ x. HasActs x w.acts) (λ x. HasActs x w.acts) reply all
    (λ i j le had has. (i, i, omega arith, omega arith, le, told_throughout V of.shape k w.acts reply now policy (all.states s) (all.runs s) i j had has i (omega arith) le))

pub held_call_is_timed : (V : ℕ) (of : Sharded) (k : ℕ) (h h' : Holding) (Goes : WriterRecord → WriterRecord → Type 0) → ChangesAt (shard_in of k) h.writers h'.writers Goes → HeldCallIsTimed V of k h h'
held_call_is_timed V of k h h' Goes at = record {
  before = at.before;
  after = at.after;
  was = at.was;
  is = at.is;
  goes = λ policy states run i j n le had has low high. changes_are_steps V policy of.shape states run i j n at.before.acts at.after.acts le had has low high;
}
