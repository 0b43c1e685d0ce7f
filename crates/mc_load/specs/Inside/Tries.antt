-- A writer that tries for turns between two calls.
use Rattle.std.specs.Prelude.{ℕ, ◌≡◌, ◌+◌, ◌*◌, ◌≤◌, ◌<◌, List, None, IfSome, length, slice_index_or, vec_capacity, vec_len}
use Rattle.mc_shards.specs.Sharded.{Sharded}
use Rattle.mc_load.specs.Inside.Handles.{place_of, records_of}
use Rattle.mc_load.specs.ShardLoads.{most_writers, who_of}
use Rattle.mc_load.specs.Turns.{HasTriedDrawn, Tries, stream_of}
use Rattle.mc_load.specs.Drawn.{HasDrawn}
use Rattle.mc_load.specs.declared.asked.Load.{Load}
use Rattle.mc_load.specs.declared.turn_thread.TurnThread.{TurnThread}

-- a writer's tries so far
abbrev pub tries_of : {V : ℕ} → TurnThread V → Tries V
tries_of t = record { pass = records_of t.handle; turns = t.turns; journal = t.journal.items }

-- writer n has a handle of these shards
pub record IsTrying (V : ℕ) (s : Sharded) (load : Load) (n : ℕ) (t : TurnThread V) : Type 0 where
  pub of : place_of t.handle ≡ s
  pub number : t.number ≡ n
  pub who : t.who ≡ who_of load.readers n

-- it has made one try, which was counted, and the changes that its answer reported were written down
pub record HasTriedOnce (V : ℕ) (before after : TurnThread V) : Type 0 where
  pub number : after.number ≡ before.number
  pub who : after.who ≡ before.who
  pub refused : after.refused ≡ before.refused
  pub counted : after.turns.held + after.turns.answered ≡ before.turns.held + before.turns.answered + 1
  pub few : vec_len after.journal + 2 * before.turns.answered ≤ vec_len before.journal + 2 * after.turns.answered
  pub capacity : vec_capacity before.journal ≤ vec_capacity after.journal

-- `calls` of its tries were counted, and no more changes were written down than they can have made
pub record HasTriedTimes (V : ℕ) (load : Load) (calls : ℕ) (t : TurnThread V) : Type 0 where
  pub drawn : HasDrawn load (stream_of t.number) (2 * calls) t.draws
  pub counted : t.turns.held + t.turns.answered ≡ calls
  pub few : vec_len t.journal ≤ 2 * t.turns.answered

-- writer n may begin: there is room for what its calls can change
pub record CanTry (V : ℕ) (s : Sharded) (load : Load) (n : ℕ) (t : TurnThread V) : Type 0 where
  pub trying : IsTrying V s load n t
  pub tried : HasTriedTimes V load 0 t
  pub made : HasTriedDrawn V s load n 0 (tries_of t)
  pub refused : t.refused ≡ None
  pub room : 2 * load.writes ≤ vec_capacity t.journal

-- writer n has made all its calls, or the gate refused one
pub record HasTriedAll (V : ℕ) (s : Sharded) (load : Load) (n : ℕ) (t : TurnThread V) : Type 0 where
  pub trying : IsTrying V s load n t
  pub few : vec_len t.journal ≤ 2 * t.turns.answered
  pub most : t.turns.held + t.turns.answered ≤ load.writes
  pub whole : t.refused ≡ None → t.turns.held + t.turns.answered ≡ load.writes
  pub made : t.refused ≡ None → HasTriedDrawn V s load n load.writes (tries_of t)
  pub refused : IfSome t.refused (λ call. (1 ≤ call) × (call ≤ load.writes))

-- so it may begin, and has ended, by its own number
abbrev pub CanBegin : (V : ℕ) → Load → TurnThread V → Type 0
CanBegin V load t = CanTry V (place_of t.handle) load t.number t × (t.number < most_writers)

pub record HasTried (V : ℕ) (may : ℕ → ℕ → Type 0) (load : Load) (before after : TurnThread V) : Type 0 where
  pub tried : HasTriedAll V (place_of before.handle) load before.number after
  pub refused : IfSome after.refused (λ call. may after.who call)

abbrev pub CanAllTry : (V : ℕ) → Sharded → Load → List (TurnThread V) → Type 0
CanAllTry V s load ts = (n : ℕ) (d : TurnThread V) → n < length ts → CanTry V s load n (slice_index_or ts n d)

abbrev pub HaveAllTried : (V : ℕ) → Sharded → Load → List (TurnThread V) → Type 0
HaveAllTried V s load ts = (n : ℕ) (d : TurnThread V) → n < length ts → HasTriedAll V s load n (slice_index_or ts n d)

-- it has made all its calls
pub record IsWholeTry {V : ℕ} (load : Load) (t : TurnThread V) : Type 0 where
  pub counted : t.turns.held + t.turns.answered ≡ load.writes
  pub few : vec_len t.journal ≤ 2 * t.turns.answered

-- so have all of these
abbrev pub HaveTriedWhole : {V : ℕ} → Load → List (TurnThread V) → Type 0
HaveTriedWhole {V} load ts = (n : ℕ) (d : TurnThread V) → n < length ts → IsWholeTry load (slice_index_or ts n d)
