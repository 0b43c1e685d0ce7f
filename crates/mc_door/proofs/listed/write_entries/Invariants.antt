use Rattle.std.specs.Prelude.{◌≡◌, ◌+◌, ◌*◌, take}
use Rattle.mc_door.specs.Listing.{words_of}
use Rattle.mc_door.proofs.listed.write_entries.Given as goal

abbrev pub invariant-loop-index : goal.invariant-loop-index
invariant-loop-index g l = take (l.index * (1 + g.row.V)) l.words ≡ words_of (take l.index l.entries)
