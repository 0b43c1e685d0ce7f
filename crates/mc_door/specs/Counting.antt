-- The keys of a cache are counted.
use Rattle.std.specs.Prelude.{ℕ, ◌≡◌}
use Rattle.mc_door.specs.Roles.{Role, Tries, Holds}
use Rattle.mc_shards.specs.Counted.{keys_in_all}
use Rattle.mc_shards.specs.Holding.{histories}
use Rattle.mc_shards.specs.Plain.{AllBegin, seens}

-- there are this many keys after the changes that the holder has made, or that the pass has seen now
abbrev pub Counts : (V : ℕ) → Role → Role → ℕ → Type 0
Counts V (Tries s rs) (Tries s' rs') many = (s' ≡ s) × AllBegin (seens V rs) (seens V rs') × (many ≡ keys_in_all (seens V rs'))
Counts V (Holds s h) (Holds s' h') many = (s' ≡ s) × (h' ≡ h) × (many ≡ keys_in_all (histories V h))
Counts V _ _ many = ⊥
