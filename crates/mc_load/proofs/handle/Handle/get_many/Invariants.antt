use Rattle.std.proofs.Common.{ℕ, ◌≡◌, ◌<◌, length, slice_index_or, take}
use Rattle.mc_words.specs.declared.history.Reply.{Reply}
use Rattle.mc_load.specs.Inside.Handles.{IsTold, cache_of, place_of, records_of}
use Rattle.mc_load.specs.Lookups.{HaveLookedIn}
use Rattle.mc_load.proofs.handle.Handle.get_many.Given as goal

abbrev pub invariant-loop-n : goal.invariant-loop-n
invariant-loop-n g l = record {
  many : length l.replies ≡ length l.fn.keys;
  cache : cache_of l.self ≡ cache_of l.fn.self;
  place : place_of l.self ≡ place_of l.fn.self;
  looked : HaveLookedIn g.row.V (place_of l.fn.self) (take l.n l.fn.keys) (records_of l.fn.self) (records_of l.self) (take l.n l.replies);
  told : (k d : ℕ) (e : Reply g.row.V) → k < l.n → IsTold g.row.V l.self (slice_index_or l.fn.keys k d) (slice_index_or l.replies k e);
  later : (k : ℕ) (reply : Reply g.row.V) → IsTold g.row.V l.fn.self k reply → IsTold g.row.V l.self k reply;
}
