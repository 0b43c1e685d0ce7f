-- Readers of shards that no pass has had.
use Rattle.std.specs.Prelude.{ℕ, ◌≡◌, ◌<◌, ◌≤◌, All, List, length}
use Rattle.std.specs.List.{AllZip}
use Rattle.mc_shared.specs.Records.{Opening}
use Rattle.mc_shards.specs.Sharded.{Sharded}
use Rattle.mc_shards.specs.declared.spares.Spares.{Spares}
use Rattle.mc_shards.specs.declared.spares.SparesError.{SparesError}
use Rattle.mc_shards.specs.declared.spares.SparesError.TheVariants as error

-- how many passes can be made of them
abbrev pub count_of : {V : ℕ} → Spares V → ℕ
count_of spares = spares.count

-- there is a list for each of the tables, and it has this many readers of the table
abbrev pub AreListsOf : {V : ℕ} → ℕ → List Opening → Spares V → Type 0
AreListsOf many tables spares = AllZip (λ o list. (length list.items ≡ many) × All (λ r. r.of ≡ o) list.items) tables spares.lists.items

abbrev pub AreSparesOf : {V : ℕ} → Sharded → Spares V → Type 0
AreSparesOf s spares = AreListsOf spares.count s.tables spares

-- that many passes can't be made of so many spares, or they could and there is no memory
abbrev pub RefusesSpares : ℕ → ℕ → SparesError → Type 0
RefusesSpares there many error.Few = there < many
RefusesSpares there many error.NoMemory = many ≤ there
