-- A handle takes the turn of every shard and holds them, or gives them back.
use Rattle.std.specs.Prelude.{ℕ, ◌≡◌}
use Rattle.mc_shards.specs.Holding.{HasBegunToHold, histories}
use Rattle.mc_shards.specs.Loadings.{HaveMet}
use Rattle.mc_shards.specs.Plain.{AllBegin, seens}
use Rattle.mc_shards.specs.Sharded.{ArePassOf}
use Rattle.mc_door.specs.Roles.{Role, Tries, Holds}
use Rattle.mc_door.specs.declared.holding.HoldError.{HoldError}
use Rattle.mc_door.specs.declared.holding.HoldError.TheVariants as why

abbrev pub IsTrying : Role → Type 0
IsTrying (Tries s rs) = Unit {0}
IsTrying _ = ⊥

abbrev pub IsHolding : Role → Type 0
IsHolding (Holds s h) = Unit {0}
IsHolding _ = ⊥

-- the pass holds every turn of its shards, and has met their writers
abbrev pub BeginsToHold : (V : ℕ) → Role → Role → Type 0
BeginsToHold V (Tries s rs) (Holds s' h) = (s' ≡ s) × HasBegunToHold V s rs h
BeginsToHold V _ _ = ⊥

-- it holds already, or one of the tries did not win
abbrev pub RefusesToHold : Role → HoldError → Type 0
RefusesToHold role why.Holds = IsHolding role
RefusesToHold role why.Held = IsTrying role

-- the holder is a pass again, which has seen all that the holder did
abbrev pub HasReleased : (V : ℕ) → Role → Role → Type 0
HasReleased V (Holds s h) (Tries s' rs) = (s' ≡ s) × ArePassOf s rs × HaveMet h.writers rs × AllBegin (seens V h.readers) (histories V h) × (seens V rs ≡ histories V h)
HasReleased V _ _ = ⊥

-- a try for the turns did not win, and nothing was done. A holder needs none
abbrev pub IsHeldOff : Role → Role → Type 0
IsHeldOff role role' = IsTrying role × (role' ≡ role)
