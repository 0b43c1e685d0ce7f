-- The workers of a load in turns that may begin.
use Rattle.std.specs.Prelude.{ℕ, ◌≡◌, ◌*◌, ◌≤◌, vec_capacity, vec_len}
use Rattle.mc_shards.specs.Sharded.{Sharded}
use Rattle.mc_load.specs.declared.asked.Load.{Load}
use Rattle.mc_load.specs.declared.turns_ready.Audit.{Audit}
use Rattle.mc_load.specs.declared.turns_ready.Seated.{Seated}
use Rattle.mc_load.specs.Inside.Tries.{CanAllTry}
use Rattle.mc_load.specs.Inside.Workers.{AreReadersIn, AreReady}

-- there is room for all changes that `writers` writers can make, and for the answers of one reader
pub record CanAudit (V : ℕ) (load : Load) (writers : ℕ) (a : Audit V) : Type 0 where
  pub dated : 2 * load.writes * writers ≤ vec_capacity a.dated
  pub history : 2 * load.writes * writers ≤ vec_capacity a.history
  pub told : load.lookups ≤ vec_capacity a.told

-- the workers have handles of these shards, and they can be checked
pub record AreSeated (V : ℕ) (s : Sharded) (load : Load) (writers : ℕ) (w : Seated V) : Type 0 where
  pub many : vec_len w.turn_threads ≡ writers
  pub can : CanAllTry V s load w.turn_threads.items
  pub readers : vec_len w.reader_threads ≡ load.readers
  pub ready : AreReady V load w.reader_threads.items
  pub places : AreReadersIn s w.reader_threads.items
  pub audit : CanAudit V load writers w.audit
