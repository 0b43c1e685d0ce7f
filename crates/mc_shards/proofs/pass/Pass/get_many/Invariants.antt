use Rattle.std.proofs.Common.{ℕ, ◌≡◌, ◌<◌, length, take}
use Rattle.std.specs.Prelude.{slice_index, slice_index_or}
use Rattle.mc_words.specs.declared.history.Reply.TheVariants.{Busy}
use Rattle.mc_shards.specs.Plain.{AllBegin, HasAnswered, history_of, seens}
use Rattle.mc_shards.specs.Sharded.{ArePassOf, HaveLookedAt}
use Rattle.mc_shards.proofs.pass.Pass.get_many.Given as goal

abbrev pub invariant-loop-n : goal.invariant-loop-n
invariant-loop-n g l = record {
  of : ArePassOf l.shards l.self;
  looked : HaveLookedAt g.row.V l.shards (take l.n l.keys) l.fn.self l.self (take l.n l.replies);
  many : length l.replies ≡ length l.keys;
  begins : AllBegin (seens g.row.V l.fn.self) (seens g.row.V l.self);
  answered : (i : ℕ) → i < l.n → HasAnswered g.row.V (history_of l.shards.shape.mix (seens g.row.V l.fn.self) (slice_index l.keys i)) (history_of l.shards.shape.mix (seens g.row.V l.self) (slice_index l.keys i)) (slice_index l.keys i) (slice_index_or l.replies i Busy);
}
