-- Why no shards are opened, and what new passes have seen.
use Rattle.std.specs.Prelude.{ℕ, ◌≡◌, [], All, List}
use Rattle.mc_words.specs.Shapes.{HasShards}
use Rattle.mc_words.specs.declared.policy.Policy.{Policy}
use Rattle.mc_words.specs.declared.shape.Shape.{Shape}
use Rattle.mc_shared.specs.Records.{Opening, ReaderRecord}
use Rattle.mc_cache.specs.Openings.{RefusesOpening}
use Rattle.mc_shards.specs.Plain.{seens}
use Rattle.mc_shards.specs.declared.opening.OpenShardsError.{OpenShardsError}
use Rattle.mc_shards.specs.declared.opening.OpenShardsError.TheVariants as error

-- the first fault of the request; if there is none, memory was refused
abbrev pub RefusesShards : Shape → ℕ → ℕ → OpenShardsError → Type 0
RefusesShards sh shards passes error.Shards = ¬ HasShards shards
RefusesShards sh shards passes (error.Open why) = HasShards shards × RefusesOpening sh passes why

-- each table goes by this policy
abbrev pub GoBy : Policy → List Opening → Type 0
GoBy policy tables = All (λ o. o.layout.policy ≡ policy) tables

-- the pass has seen no change of any shard
abbrev pub HasSeenNothing : (V : ℕ) → List ReaderRecord → Type 0
HasSeenNothing V rs = All (λ h. h ≡ []) (seens V rs)
