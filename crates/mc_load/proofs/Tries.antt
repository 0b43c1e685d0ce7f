-- The tries of a writer, one after the other.
use Rattle.std.proofs.Common.{ℕ, ◌≡◌, ◌+◌, add-one, []}
use Rattle.mc_shards.specs.Sharded.{Sharded}
use Rattle.mc_load.specs.Turns.{HasTriedDrawn, IsTryOf, Tries, drawn_turn}
use Rattle.mc_load.specs.declared.asked.Load.{Load}

pub tried_none : (V : ℕ) (s : Sharded) (load : Load) (w : ℕ) (t : Tries V) → t.turns.held ≡ 0 → t.turns.answered ≡ 0 → t.journal ≡ [] → HasTriedDrawn V s load w 0 t
unfolding HasTriedDrawn
tried_none V s load w t held answered journal = (held, answered, journal)

-- a try more
pub tried_more : (V : ℕ) (s : Sharded) (load : Load) (w n : ℕ) (before after : Tries V) → HasTriedDrawn V s load w n before → IsTryOf V s (drawn_turn V load w n) before after → HasTriedDrawn V s load w (n + 1) after
unfolding HasTriedDrawn
tried_more V s load w n before after made one = rw add-one (before, made, one)
