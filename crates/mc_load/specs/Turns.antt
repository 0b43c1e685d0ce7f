-- What a writer of shards draws, what its tries for turns count as, and what they do.
use Rattle.std.specs.Prelude.{ℕ, zero, suc, ◌≡◌, ◌==◌, ◌+◌, ◌*◌, ◌^◌, ◌++◌, List, [], filter, flat_map, Result, Ok, Err, if◌then◌else◌}
use Rattle.std.specs.List.Sorted.{IsPermutation}
use Rattle.mc_words.specs.Keys.{shard_of}
use Rattle.mc_words.specs.declared.history.Change.{Change}
use Rattle.mc_words.specs.declared.mix.Mix.{Mix}
use Rattle.mc_plan.specs.WholeCalls.{Call}
use Rattle.mc_plan.specs.WholeCalls.Call.{PutCall, PutIfCall, RemoveCall, KeptCall}
use Rattle.mc_plan.specs.declared.answer.Answer.{Answer}
use Rattle.mc_plan.specs.declared.answer.Answer.TheVariants as answer
use Rattle.mc_shared.specs.Records.{ReaderRecord}
use Rattle.mc_check.specs.Changes.{key_in}
use Rattle.mc_cache.specs.Turns.{HasTried}
use Rattle.mc_cache.specs.declared.desk.DeskError.{DeskError}
use Rattle.mc_cache.specs.declared.desk.DeskError.TheVariants as desk
use Rattle.mc_shards.specs.Sharded.{ArePassOf, ChangesAt, Sharded, shard_in}
use Rattle.mc_load.specs.Draws.{call_drawn}
use Rattle.mc_load.specs.declared.asked.Load.{Load}
use Rattle.mc_load.specs.Dates.{AreMoments, changes_of, put_dated, removal_dated}
use Rattle.mc_load.specs.declared.dated.Dated.{Dated}
use Rattle.mc_load.specs.declared.turns.Turns.{Turns}

-- the stream of a writer's draws, by its number, which no other worker has
abbrev pub stream_of : ℕ → ℕ
stream_of writer = if writer == 0 then 0 else 2 ^ 32 + writer

-- call n of a writer, counted from 0: the words of a value name the call and the writer
abbrev pub drawn_turn : ℕ → Load → ℕ → ℕ → Call
drawn_turn V load writer n = call_drawn V load (stream_of writer) n (n + 1 + writer * 2 ^ 32)

-- what a try counts as
abbrev pub held_of : {T E : Type 0} → Result T (DeskError E) → ℕ
held_of (Ok done) = 0
held_of (Err desk.Held) = 1
held_of (Err (desk.Call why)) = 0

abbrev pub answered_of : {T E : Type 0} → Result T (DeskError E) → ℕ
answered_of (Ok done) = 1
answered_of (Err desk.Held) = 0
answered_of (Err (desk.Call why)) = 1

-- a writer's tries so far: the records of its pass, what they counted as, and the changes that their answers reported
pub record Tries (V : ℕ) : Type 0 where
  pub pass : List ReaderRecord
  pub turns : Turns
  pub journal : List (Dated V)

-- one try more, to make this call for this key: it was one at the key's shard, its outcome was counted, and what its answer reports was
-- written down
pub record HasTriedCall {T E : Type 0} (V : ℕ) (s : Sharded) (k : ℕ) (call : Call) (answered_by : Result T E → Answer) (changes : Result T (DeskError E) → List (Dated V)) (before after : Tries V) : Type 0 where
  pub told : Result T (DeskError E)
  pub turn : ChangesAt (shard_in s k) before.pass after.pass (λ r r'. HasTried V s.shape call answered_by r r' told)
  pub held : after.turns.held ≡ before.turns.held + held_of told
  pub answered : after.turns.answered ≡ before.turns.answered + answered_of told
  pub journal : after.journal ≡ before.journal ++ changes told

abbrev pub IsTryOf : (V : ℕ) → Sharded → Call → Tries V → Tries V → Type 0
IsTryOf V s (PutCall k v) before after = HasTriedCall V s k (PutCall k v) answer.Put (put_dated k v) before after
IsTryOf V s (RemoveCall k) before after = HasTriedCall V s k (RemoveCall k) answer.Remove (removal_dated k) before after
IsTryOf V s (PutIfCall k since v) before after = ⊥
IsTryOf V s (KeptCall k v) before after = ⊥

-- this many tries of a writer, one after the other, each to make the call that was drawn
unfoldable pub HasTriedDrawn : (V : ℕ) → Sharded → Load → ℕ → ℕ → Tries V → Type 0
HasTriedDrawn V s load writer zero t = (t.turns.held ≡ 0) × (t.turns.answered ≡ 0) × (t.journal ≡ [])
HasTriedDrawn V s load writer (suc n) t = (before : Tries V) × HasTriedDrawn V s load writer n before × IsTryOf V s (drawn_turn V load writer n) before t

-- a writer of these shards has made all its tries
pub record HasMadeTries (V : ℕ) (s : Sharded) (load : Load) (writer : ℕ) (t : Tries V) : Type 0 where
  pub of : ArePassOf s t.pass
  pub made : HasTriedDrawn V s load writer load.writes t

-- the changes of a shard's keys
abbrev pub changes_in : {V : ℕ} → Mix → ℕ → ℕ → List (Dated V) → List (Dated V)
changes_in {V} mix shards n all = filter (λ (d : Dated V). shard_of mix shards (key_in d.change) == n) all

-- those of all writers
abbrev pub journals_in : {V : ℕ} → Mix → ℕ → ℕ → List (Tries V) → List (Dated V)
journals_in {V} mix shards n tries = flat_map (λ (t : Tries V). changes_in mix shards n t.journal) tries

-- changes are this history: in the order of their moments there is one for each moment
pub record AreOneHistory {V : ℕ} (all : List (Dated V)) (h : List (Change V)) : Type 0 where
  pub ordered : List (Dated V)
  pub those : IsPermutation all ordered
  pub moments : AreMoments ordered
  pub changes : h ≡ changes_of ordered
