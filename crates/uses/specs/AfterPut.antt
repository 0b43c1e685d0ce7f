-- A put by a pass of shards, and a lookup after it.
use Rattle.std.specs.Prelude.{ℕ, ◌≡◌, List, [], ◌∷◌, Some}
use Rattle.mc_cache.specs.Change.{Change}
use Rattle.mc_cache.specs.Reply.{Reply}
use Rattle.mc_shards.specs.Plain.{AllBegin, Tells, plain_of}
use Rattle.mc_shards.specs.Sharded.{Sharded}

-- at one instant the one map held 70 under the key, and the reply is what it held then or at a later instant
pub record IsAfterPut (s : Sharded) (now : List (List (Change 1))) (k : ℕ) (reply : Reply 1) : Type 0 where
  pub put : List (List (Change 1))
  pub stamp : ℕ
  pub held : plain_of s.shape.mix put k ≡ Some (70 ∷ stamp ∷ [])
  pub then : List (List (Change 1))
  pub later : AllBegin put then
  pub seen : AllBegin then now
  pub tells : Tells s.shape.mix then k reply
