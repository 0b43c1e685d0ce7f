use Rattle.std.specs.Prelude.{◌≡◌, ◌+◌, ◌*◌, map, take}
use Rattle.mc_door.specs.Listing.{words_of}
use Rattle.mc_door.specs.StampedListing.{row_of}
use Rattle.mc_door.proofs.stamped.write_stamped.Given as goal

abbrev pub invariant-loop-index : goal.invariant-loop-index
invariant-loop-index g l = take (l.index * (2 + g.row.V)) l.words ≡ words_of (map row_of (take l.index l.entries))
