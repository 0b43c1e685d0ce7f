-- What contracts see of a side, whatever the width of its values.
use Rattle.std.specs.Prelude.{ℕ, List}
use Rattle.mc_shared.specs.Records.{ReaderRecord}
use Rattle.mc_shards.specs.Holding.{Holding}
use Rattle.mc_shards.specs.Sharded.{Sharded}
use Rattle.mc_door.specs.declared.side.Hand.{Hand}
use Rattle.mc_door.specs.declared.side.Hand.TheVariants as hand
use Rattle.mc_door.specs.declared.side.Side.{Side}

pub data Role : Type 0 where
  -- it looks up, and tries for turns: the shards, and its record of each
  Tries : Sharded → List ReaderRecord → Role
  -- it holds the turn of every shard
  Holds : Sharded → Holding → Role
  -- that of no side
  Idle : Role

abbrev pub role_of_hand : {V : ℕ} → Hand V → Role
role_of_hand (hand.Pass s) = Tries s.shared.value.shards s.pass
role_of_hand (hand.Holder s) = Holds s.shared.value.shards s.holder
role_of_hand hand.Nothing = Idle

abbrev pub role_of : {V : ℕ} → Side V → Role
role_of s = role_of_hand s.hand
