use Rattle.std.proofs.Common.{◌≡◌, ℕ, List, None, length, string_bytes}
use Rattle.mc_replay.specs.Replay.{Replay, AccessesDo}
use Rattle.mc_replay.specs.Inside.Players.{shape_of_player, HasRoom, Fits, ReadsSoFar}
use Rattle.mc_replay.specs.declared.player.Player.{Player}
use Rattle.mc_replay.proofs.reading.accesses.Given as goal

-- this many accesses were made, whatever replay the player was
pub record SoFar (V : ℕ) (old now : Player V) (text : List ℕ) (r n : ℕ) : Type 0 where
  pub shape : shape_of_player now ≡ shape_of_player old
  pub readers : length now.world.readers ≡ length old.world.readers
  pub made : (most : ℕ) (s : Replay V) → HasRoom most → Fits V old most s → (m : Replay V) × AccessesDo (shape_of_player old) n s r text None m × ReadsSoFar V now most r n m

abbrev pub invariant-accesses : goal.invariant-accesses
invariant-accesses g l = SoFar g.row.V l.fn.player l.player (string_bytes l.text) l.fn.reader l.counter
