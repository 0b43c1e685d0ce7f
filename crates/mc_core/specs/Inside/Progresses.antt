-- The numbers in the progress of a deed.
use Rattle.std.specs.Prelude.{ℕ}
use Rattle.mc_core.specs.declared.progress.Progress.{Progress}
use Rattle.mc_core.specs.declared.progress.Progress.TheVariants.{Keyed, Renewing, Moved}

-- how many words were written after a key
abbrev pub count_at : Progress → ℕ
count_at (Keyed k i n) = n
count_at (Renewing k n) = n
count_at _ = 0

-- the slot of a moved key's new place
abbrev pub fresh_slot : Progress → ℕ
fresh_slot (Moved k p) = p.slot
fresh_slot _ = 0
