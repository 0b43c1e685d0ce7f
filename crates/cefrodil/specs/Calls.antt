-- What the calls by handles give. The first thing is behind the handle before a call, the second after it; nothing is behind a closed
-- handle.
use Rattle.std.specs.Prelude.{ℕ, ◌≡◌, List}
use mathlib.Core.Option.{Option, none, some}
use Rattle.mc_door.specs.AnySides.{role_in, width_of}
use Rattle.mc_door.specs.Means.{GetOrTurnTells, GetTells}
use Rattle.mc_door.specs.Peeks.{PeekTells}
use Rattle.mc_door.specs.Roles.{Role}
use Rattle.mc_door.specs.Swaps.{SwapTells}
use Rattle.mc_door.specs.Tellings.{plain}
use Rattle.mc_door.specs.Writes.{WriteTells}
use Rattle.mc_door.specs.declared.any_side.AnySide.{AnySide}
use Rattle.mc_door.specs.declared.status.TheConstants.{CLOSED}
use Rattle.mc_door.specs.declared.outcome.Outcome.{Outcome}
use Rattle.mc_door.specs.declared.write.Swap.{Swap}
use Rattle.mc_door.specs.declared.write.Write.{Write}

-- before and after a call nothing is behind the handle, and this holds; or something is, and that holds of the two
abbrev pub Gives : Option AnySide → Option AnySide → Type 0 → (AnySide → AnySide → Type 0) → Type 0
Gives none none Closed Open = Closed
Gives (some h) (some h') Closed Open = Open h h'
Gives b b' Closed Open = ⊥

-- what is behind an open handle returns this, and a closed handle returns its own status. Then `Left` holds
abbrev pub TellsBy : Option AnySide → Option AnySide → Type 0 → (ℕ → Role → Role → Type 0 → Outcome → Type 0) → Outcome → Type 0
TellsBy b b' Left Tells told = Gives b b' ((told ≡ plain CLOSED) × Left) (λ h h'. (width_of h' ≡ width_of h) × Tells (width_of h) (role_in h) (role_in h') (h' ≡ h) told)

abbrev pub GetGives : Option AnySide → Option AnySide → ℕ → List ℕ → List ℕ → Outcome → Type 0
GetGives b b' key old new told = TellsBy b b' (new ≡ old) (λ V role role' Same told. GetTells V role role' Same key old new told) told

abbrev pub GetOrTurnGives : Option AnySide → Option AnySide → ℕ → List ℕ → List ℕ → Outcome → Type 0
GetOrTurnGives b b' key old new told = TellsBy b b' (new ≡ old) (λ V role role' Same told. GetOrTurnTells V role role' Same key old new told) told

abbrev pub PeekGives : Option AnySide → Option AnySide → ℕ → List ℕ → List ℕ → Outcome → Type 0
PeekGives b b' key old new told = TellsBy b b' (new ≡ old) (λ V role role' Same told. PeekTells V role role' Same key old new told) told

abbrev pub WriteGives : Option AnySide → Option AnySide → ℕ → Write → List ℕ → Outcome → Type 0
WriteGives b b' key call v told = TellsBy b b' (Unit {0}) (λ V role role' Same told. WriteTells V role role' Same key call v told) told

abbrev pub SwapGives : Option AnySide → Option AnySide → ℕ → Swap → List ℕ → List ℕ → List ℕ → Outcome → Type 0
SwapGives b b' key call v old new told = TellsBy b b' (new ≡ old) (λ V role role' Same told. SwapTells V role role' Same key call v old new told) told
