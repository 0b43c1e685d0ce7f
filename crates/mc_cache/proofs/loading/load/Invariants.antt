use Rattle.std.proofs.Common.{◌≡◌, ◌≤◌, ◌++◌, List, length, take}
use Rattle.std.specs.Prelude.{vec_capacity, vec_len}
use Rattle.mc_words.specs.declared.history.Change.{Change}
use Rattle.mc_theory.specs.Lists.{Made, state_of}
use Rattle.mc_plan.specs.Loads.{LoadsBy}
use Rattle.mc_cache.proofs.loading.load.Given as goal

abbrev pub invariant-loop-index : goal.invariant-loop-index
invariant-loop-index g l = record {
  of : l.writer.of ≡ l.fn.writer.of;
  loaded : (made : List Made) × (changes : List (Change g.row.V)) × (l.writer.acts ≡ l.fn.writer.acts ++ made) × LoadsBy g.row.V l.fn.cache.layout.shape l.fn.writer.of.layout.policy (state_of g.row.V l.fn.cache.layout.shape l.fn.writer.acts) 0 (take l.index l.fn.entries) made changes l.left.items;
  few : vec_len l.left ≤ l.index;
  room : length l.fn.entries ≤ vec_capacity l.left;
}
