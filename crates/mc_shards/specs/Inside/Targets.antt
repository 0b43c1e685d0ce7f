-- Where lookups of keys in shards look.
use Rattle.std.specs.Prelude.{ℕ, ◌<◌, length}
use Rattle.mc_reader.specs.Aims.{IsAimIn}
use Rattle.mc_shards.specs.Sharded.{Sharded}
use Rattle.mc_shards.specs.declared.ahead.Target.{Target}

-- the shard is one of these, and the place is within its table: all of them have one shape
pub record IsTarget (V : ℕ) (s : Sharded) (t : Target) : Type 0 where
  pub shard : t.shard < length s.tables
  pub aim : IsAimIn V s.shape t.aim
