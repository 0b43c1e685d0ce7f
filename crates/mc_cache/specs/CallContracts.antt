-- The contracts of the calls that change the map, one record a call: by the writer, in a turn, and from C.
use Rattle.std.specs.Prelude.{ℕ, List, Option}
use Rattle.std.specs.declared.convert.Infallible.{Infallible}
use Rattle.mc_plan.specs.WholeCalls.{PutCall, PutIfCall, RemoveCall}
use Rattle.mc_plan.specs.declared.answer.AbsentError.{AbsentError}
use Rattle.mc_plan.specs.declared.answer.Answer.TheVariants as answer
use Rattle.mc_plan.specs.declared.answer.EvictError.{EvictError}
use Rattle.mc_plan.specs.declared.answer.IfError.{IfError}
use Rattle.mc_plan.specs.declared.answer.Put.{Put}
use Rattle.mc_plan.specs.declared.answer.PutError.{PutError}
use Rattle.mc_plan.specs.declared.answer.Remove.{Remove}
use Rattle.mc_plan.specs.declared.answer.Spent.{Spent}
use Rattle.mc_writer.specs.Evictions.{HasTriedToEvict}
use Rattle.mc_writer.specs.WriterCalls.{HasCalled, HasPutIfAbsent}
use Rattle.mc_writer.specs.declared.entry.Entry.{Entry}
use Rattle.mc_writer.specs.declared.entry.Evict.{Evict}
use Rattle.mc_writer.specs.declared.entry.Replaced.{Replaced}
use Rattle.mc_writer.specs.declared.entry.Swapped.{Swapped}
use Rattle.mc_writer.specs.declared.entry.Take.{Take}
use Rattle.mc_cache.specs.Bounding.{AbsentBoundedFails, AbsentBoundedMeans, BoundedFails, BoundedMeans, HasPutAbsentBounded, HasPutAbsentWithin, HasPutBounded, HasPutWithin, PutAbsentWithinFails, PutAbsentWithinMeans, PutWithinFails, PutWithinMeans}
use Rattle.mc_cache.specs.Failing.{EvictFails, PutFails, PutIfAbsentFails, PutIfFails, RemovalFails, SwapFails, SwapIfFails, TakeFails, TakeIfFails}
use Rattle.mc_cache.specs.Plain.{PutIfAbsentMeans, PutIfMeans, PutMeans, RemovalMeans}
use Rattle.mc_cache.specs.Showing.{HasShown, ShowMeans}
use Rattle.mc_cache.specs.Taking.{EvictMeans, HasTakenIf, SwapIfAbsentMeans, SwapIfMeans, SwapMeans, TakeIfMeans, TakeMeans, absent_of, swap_answer, swap_if_answer, take_answer}
use Rattle.mc_cache.specs.TurnCalls.{Contract}
use Rattle.mc_cache.specs.declared.bounding.Bounded.{Bounded}
use Rattle.mc_cache.specs.declared.bounding.BoundedPut.{BoundedPut}
use Rattle.mc_cache.specs.declared.bounding.BoundedError.{BoundedError}

abbrev pub put_contract : (V : ℕ) → ℕ → List ℕ → Contract V Put PutError
put_contract V k v = record {
  called = λ sh told w w'. HasCalled V sh (PutCall k v) w w' (answer.Put told);
  means = λ h h' told. PutMeans V h h' k v told;
  fails = λ sh h made told. PutFails sh h made k told;
}

abbrev pub put_if_contract : (V : ℕ) → ℕ → ℕ → List ℕ → Contract V ℕ IfError
put_if_contract V k since v = record {
  called = λ sh told w w'. HasCalled V sh (PutIfCall k since v) w w' (answer.PutIf told);
  means = λ h h' told. PutIfMeans V h h' k since v told;
  fails = λ sh h made told. PutIfFails sh h made told;
}

abbrev pub put_if_absent_contract : (V : ℕ) → ℕ → List ℕ → Contract V Put AbsentError
put_if_absent_contract V k v = record {
  called = λ sh told w w'. HasPutIfAbsent V sh k v w w' told;
  means = λ h h' told. PutIfAbsentMeans V h h' k v told;
  fails = λ sh h made told. PutIfAbsentFails sh h made k told;
}

abbrev pub remove_contract : (V : ℕ) → ℕ → Contract V Remove Spent
remove_contract V k = record {
  called = λ sh told w w'. HasCalled V sh (RemoveCall k) w w' (answer.Remove told);
  means = λ h h' told. RemovalMeans V h h' k told;
  fails = λ sh h made told. RemovalFails sh h made told;
}

abbrev pub swap_contract : (V : ℕ) → ℕ → List ℕ → Contract V (Swapped V) PutError
swap_contract V k v = record {
  called = λ sh told w w'. HasCalled V sh (PutCall k v) w w' (swap_answer told);
  means = λ h h' told. SwapMeans V h h' k v told;
  fails = λ sh h made told. SwapFails sh h made k told;
}

abbrev pub swap_if_contract : (V : ℕ) → ℕ → ℕ → List ℕ → Contract V (Replaced V) IfError
swap_if_contract V k since v = record {
  called = λ sh told w w'. HasCalled V sh (PutIfCall k since v) w w' (swap_if_answer told);
  means = λ h h' told. SwapIfMeans V h h' k since v told;
  fails = λ sh h made told. SwapIfFails sh h made told;
}

abbrev pub swap_if_absent_contract : (V : ℕ) → ℕ → List ℕ → Contract V (Swapped V) AbsentError
swap_if_absent_contract V k v = record {
  called = λ sh told w w'. HasPutIfAbsent V sh k v w w' (absent_of told);
  means = λ h h' told. SwapIfAbsentMeans V h h' k v told;
  fails = λ sh h made told. PutIfAbsentFails sh h made k (absent_of told);
}

abbrev pub put_bounded_contract : (V : ℕ) → ℕ → ℕ → List ℕ → Contract V BoundedPut EvictError
put_bounded_contract V k most v = record {
  called = λ sh told w w'. HasPutWithin V sh k v most w w' told;
  means = λ h h' told. PutWithinMeans V h h' k v most told;
  fails = λ sh h made told. PutWithinFails V sh h made k told;
}

abbrev pub put_if_absent_bounded_contract : (V : ℕ) → ℕ → ℕ → List ℕ → Contract V BoundedPut BoundedError
put_if_absent_bounded_contract V k most v = record {
  called = λ sh told w w'. HasPutAbsentWithin V sh k v most w w' told;
  means = λ h h' told. PutAbsentWithinMeans V h h' k v most told;
  fails = λ sh h made told. PutAbsentWithinFails V sh h made k told;
}

abbrev pub swap_bounded_contract : (V : ℕ) → ℕ → ℕ → List ℕ → Contract V (Bounded V) EvictError
swap_bounded_contract V k most v = record {
  called = λ sh told w w'. HasPutBounded V sh k v most w w' told;
  means = λ h h' told. BoundedMeans V h h' k v most told;
  fails = λ sh h made told. BoundedFails sh h made k told;
}

abbrev pub swap_if_absent_bounded_contract : (V : ℕ) → ℕ → ℕ → List ℕ → Contract V (Bounded V) BoundedError
swap_if_absent_bounded_contract V k most v = record {
  called = λ sh told w w'. HasPutAbsentBounded V sh k v most w w' told;
  means = λ h h' told. AbsentBoundedMeans V h h' k v most told;
  fails = λ sh h made told. AbsentBoundedFails sh h made k told;
}

abbrev pub take_contract : (V : ℕ) → ℕ → Contract V (Take V) Spent
take_contract V k = record {
  called = λ sh told w w'. HasCalled V sh (RemoveCall k) w w' (take_answer told);
  means = λ h h' told. TakeMeans V h h' k told;
  fails = λ sh h made told. TakeFails sh h made told;
}

abbrev pub take_if_contract : (V : ℕ) → ℕ → ℕ → Contract V (Replaced V) IfError
take_if_contract V k since = record {
  called = λ sh told w w'. HasTakenIf V sh k w w' told;
  means = λ h h' told. TakeIfMeans V h h' k since told;
  fails = λ sh h made told. TakeIfFails sh h made told;
}

abbrev pub evict_contract : (V : ℕ) → Contract V (Evict V) EvictError
evict_contract V = record {
  called = λ sh told w w'. HasTriedToEvict V sh w w' told;
  means = λ h h' told. EvictMeans V h h' told;
  fails = λ sh h made told. EvictFails sh h made told;
}

-- it never fails
abbrev pub show_contract : (V : ℕ) → ℕ → Contract V (Option (Entry V)) Infallible
show_contract V i = record {
  called = λ sh told w w'. HasShown V sh i w w' told;
  means = λ h h' told. ShowMeans V h h' told;
  fails = λ sh h made told. Unit {0};
}
