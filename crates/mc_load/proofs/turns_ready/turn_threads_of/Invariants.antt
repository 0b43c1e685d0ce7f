use Rattle.std.proofs.Common.{◌≡◌, ◌+◌, ◌-◌, length}
use Rattle.std.specs.Prelude.{All}
use Rattle.mc_shards.specs.Sharded.{Sharded}
use Rattle.mc_load.specs.Inside.Handles.{place_of}
use Rattle.mc_load.specs.declared.handle.Handle.{Handle}
use Rattle.mc_load.specs.Inside.Tries.{CanAllTry}
use Rattle.mc_load.proofs.turns_ready.turn_threads_of.Given as goal

abbrev pub invariant-loop-number : goal.invariant-loop-number
invariant-loop-number g l = record {
  many : length l.turn_threads.items ≡ l.number;
  left : length l.handles.items ≡ l.fn.load.readers + l.fn.writers - l.number;
  rest : (s : Sharded) → All (λ (h : Handle g.row.V). place_of h ≡ s) l.fn.handles.items → All (λ (h : Handle g.row.V). place_of h ≡ s) l.handles.items;
  ready : (s : Sharded) → All (λ (h : Handle g.row.V). place_of h ≡ s) l.fn.handles.items → CanAllTry g.row.V s l.fn.load l.turn_threads.items;
}
