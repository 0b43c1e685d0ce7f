-- What the calls of a side mean that write nothing.
use Rattle.std.specs.Prelude.{ℕ, ◌≡◌, ◌*◌, List, length, min}
use Rattle.mc_cache.specs.Plain.{HasAnswered}
use Rattle.mc_cache.specs.Turns.{HasLookedOrMet}
use Rattle.mc_reader.specs.Records.{HasLooked}
use Rattle.mc_words.specs.declared.history.Reply.{Reply}
use Rattle.mc_door.specs.declared.looked.Looked.{Looked}
use Rattle.mc_door.specs.Looks.{reply_of, LeavesUnlessFound}
use Rattle.mc_shards.specs.Counted.{changes_in_all}
use Rattle.mc_shards.specs.Holding.{histories}
use Rattle.mc_shards.specs.Plain.{seens}
use Rattle.mc_door.specs.AtShards.{IsAtShard, LooksHeld}
use Rattle.mc_door.specs.Roles.{Role, Tries, Holds}
use Rattle.mc_door.specs.Tellings.{lookup_told}
use Rattle.mc_door.specs.Tells.{HasTold, Tells}
use Rattle.mc_door.specs.declared.outcome.Outcome.{Outcome}

-- a lookup by a holder returns what the map holds now. By a pass it is one in the key's shard, true of what the pass has seen
abbrev pub Looks : (V : ℕ) → Role → Role → ℕ → Reply V → Type 0
Looks V (Tries s rs) (Tries s' rs') key reply = (s' ≡ s) × IsAtShard V s key rs rs' (λ r r'. HasLooked V s.shape key r r' reply) (λ h h'. HasAnswered V h h' key reply)
Looks V (Holds s h) (Holds s' h') key reply = (s' ≡ s) × LooksHeld V s h h' key reply
Looks V _ _ key reply = ⊥

-- and by a pass that tries for the turn if the lookup is busy
abbrev pub LooksOrTries : (V : ℕ) → Role → Role → ℕ → Reply V → Type 0
LooksOrTries V (Tries s rs) (Tries s' rs') key reply = (s' ≡ s) × IsAtShard V s key rs rs' (λ r r'. HasLookedOrMet V s.shape key r r' reply) (λ h h'. HasAnswered V h h' key reply)
LooksOrTries V (Holds s h) (Holds s' h') key reply = (s' ≡ s) × LooksHeld V s h h' key reply
LooksOrTries V _ _ key reply = ⊥

-- a lookup whose value is written beside its answer
abbrev pub GetMeans : (V : ℕ) → Role → Role → ℕ → List ℕ → List ℕ → Looked → Type 0
GetMeans V role role' key old new told = (length old ≡ V) × Looks V role role' key (reply_of V new told) × LeavesUnlessFound old new told

abbrev pub GetOrTurnMeans : (V : ℕ) → Role → Role → ℕ → List ℕ → List ℕ → Looked → Type 0
GetOrTurnMeans V role role' key old new told = (length old ≡ V) × LooksOrTries V role role' key (reply_of V new told) × LeavesUnlessFound old new told

-- what lookups return. `Same`: the side is unchanged
abbrev pub GetTells : (V : ℕ) → Role → Role → Type 0 → ℕ → List ℕ → List ℕ → Outcome → Type 0
GetTells V role role' Same key old new told = Tells V (length old) (Same × (new ≡ old)) (HasTold lookup_told (GetMeans V role role' key old new) told) told

abbrev pub GetOrTurnTells : (V : ℕ) → Role → Role → Type 0 → ℕ → List ℕ → List ℕ → Outcome → Type 0
GetOrTurnTells V role role' Same key old new told = Tells V (length old) (Same × (new ≡ old)) (HasTold lookup_told (GetOrTurnMeans V role role' key old new) told) told

-- the number of changes in all shards that a holder has made or a pass has seen, up to the greatest number that there is
abbrev pub MomentIs : (V : ℕ) → Role → ℕ → Type 0
MomentIs V (Tries s rs) n = n ≡ min (changes_in_all (seens V rs)) 18446744073709551615
MomentIs V (Holds s h) n = n ≡ min (changes_in_all (histories V h)) 18446744073709551615
MomentIs V role n = ⊥

-- the number of items, of shards all together
abbrev pub CapacityIs : (V : ℕ) → Role → ℕ → Type 0
CapacityIs V (Tries s rs) n = n ≡ s.shape.items * length s.tables
CapacityIs V (Holds s h) n = n ≡ s.shape.items * length s.tables
CapacityIs V role n = ⊥
