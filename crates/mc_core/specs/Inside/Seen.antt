-- What only private contracts say beside `Seen`.
use Rattle.std.specs.Prelude.{ℕ, ◌<◌}
use Rattle.mc_theory.specs.declared.access.Access.{Access}
use Rattle.mc_theory.specs.declared.access.Access.TheVariants as access
use Rattle.mc_theory.specs.declared.act.Act.{Act}
use Rattle.mc_theory.specs.declared.act.Act.TheVariants as act

-- an act on a recency bit is one on the bit of an item, and there are `items` items
abbrev pub ReadsIn : ℕ → Act → Type 0
ReadsIn items (act.Hand i) = i < items
ReadsIn items (act.Mark i) = i < items
ReadsIn items _ = Unit {0}

-- so is a mark among accesses
abbrev pub MarksIn : ℕ → Access → Type 0
MarksIn items (access.Mark i) = i < items
MarksIn items _ = Unit {0}
