-- What the writes mean that also return the entry which gives way, and the look at an item: a holder makes them, and a pass in a turn.
use Rattle.std.specs.Prelude.{ℕ, ◌≡◌, ◌≢◌, ◌⊎◌, List, length, Option, Some, None, Result, Ok, Err}
use Rattle.std.specs.declared.convert.Infallible.{Infallible}
use Rattle.mc_cache.specs.CallContracts.{evict_contract, show_contract, swap_bounded_contract, swap_contract, swap_if_absent_bounded_contract, swap_if_absent_contract, swap_if_contract, take_contract, take_if_contract}
use Rattle.mc_cache.specs.TurnCalls.{Contract}
use Rattle.mc_cache.specs.declared.bounding.Bounded.{Bounded}
use Rattle.mc_cache.specs.declared.bounding.Bounded.TheVariants as bounded
use Rattle.mc_cache.specs.declared.bounding.BoundedError.{BoundedError}
use Rattle.mc_cache.specs.declared.desk.DeskError.{DeskError}
use Rattle.mc_cache.specs.declared.desk.DeskError.TheVariants as desk
use Rattle.mc_writer.specs.declared.entry.Entry.{Entry}
use Rattle.mc_writer.specs.declared.entry.Evict.{Evict}
use Rattle.mc_writer.specs.declared.entry.Evict.TheVariants.{Evicted, Empty}
use Rattle.mc_writer.specs.declared.entry.Replaced.{Replaced}
use Rattle.mc_writer.specs.declared.entry.Swapped.{Swapped}
use Rattle.mc_writer.specs.declared.entry.Take.{Take}
use Rattle.mc_writer.specs.declared.entry.Take.TheVariants.{Taken, NotThere}
use Rattle.mc_plan.specs.declared.answer.AbsentError.{AbsentError}
use Rattle.mc_plan.specs.declared.answer.EvictError.{EvictError}
use Rattle.mc_plan.specs.declared.answer.IfError.{IfError}
use Rattle.mc_plan.specs.declared.answer.PutError.{PutError}
use Rattle.mc_plan.specs.declared.answer.Spent.{Spent}
use Rattle.mc_door.specs.Roles.{Role}
use Rattle.mc_door.specs.Tellings.{absent_bounded_told, bounded_told, evict_told, plain, shown_told, swap_if_absent_told, swap_if_told, swap_told, take_if_told, take_told, turn_told}
use Rattle.mc_door.specs.Tells.{HasTold}
use Rattle.mc_door.specs.Turns.{HasCalledBy}
use Rattle.mc_door.specs.declared.status.TheConstants.{WIDTH}
use Rattle.mc_door.specs.declared.outcome.Outcome.{Outcome}
use Rattle.mc_door.specs.declared.write.Swap.{Swap}
use Rattle.mc_door.specs.declared.write.Swap.TheVariants as call

-- how many words the value has; as many as those of the cache if there is none
abbrev pub swap_words : ℕ → Swap → List ℕ → ℕ
swap_words V call.Remove v = V
swap_words V (call.RemoveIf since) v = V
swap_words V call.Evict v = V
swap_words V (call.Show item) v = V
swap_words V _ v = length v

-- the entry that a call took out, if it took one out
abbrev pub old_of_swap : {V : ℕ} → Result (Swapped V) PutError → Option (Entry V)
old_of_swap (Ok swapped) = swapped.old
old_of_swap (Err why) = None

abbrev pub old_of_swap_if_absent : {V : ℕ} → Result (Swapped V) AbsentError → Option (Entry V)
old_of_swap_if_absent (Ok swapped) = swapped.old
old_of_swap_if_absent (Err why) = None

abbrev pub old_of_bounded : {V : ℕ} → Result (Bounded V) EvictError → Option (Entry V)
old_of_bounded (Ok (bounded.Swapped told)) = old_of_swap told
old_of_bounded (Ok (bounded.Evicted old put)) = Some old
old_of_bounded (Err why) = None

abbrev pub old_of_absent_bounded : {V : ℕ} → Result (Bounded V) BoundedError → Option (Entry V)
old_of_absent_bounded (Ok done) = old_of_bounded (Ok done)
old_of_absent_bounded (Err why) = None

abbrev pub old_of_swap_if : {V : ℕ} → Result (Replaced V) IfError → Option (Entry V)
old_of_swap_if (Ok replaced) = Some replaced.old
old_of_swap_if (Err why) = None

abbrev pub old_of_take : {V : ℕ} → Result (Take V) Spent → Option (Entry V)
old_of_take (Ok (Taken at old)) = Some old
old_of_take (Ok (NotThere at)) = None
old_of_take (Err why) = None

abbrev pub old_of_evict : {V : ℕ} → Result (Evict V) EvictError → Option (Entry V)
old_of_evict (Ok (Evicted at old)) = Some old
old_of_evict (Ok (Empty at)) = None
old_of_evict (Err why) = None

abbrev pub old_of_shown : {V : ℕ} → Result (Option (Entry V)) Infallible → Option (Entry V)
old_of_shown (Ok shown) = shown
old_of_shown (Err never) = None

-- the entry that a turn took out or showed, if it did
abbrev pub old_of_turn : {V : ℕ} {T E : Type 0} → (Result T E → Option (Entry V)) → Result T (DeskError E) → Option (Entry V)
old_of_turn old_of (Ok done) = old_of (Ok done)
old_of_turn old_of (Err desk.Held) = None
old_of_turn old_of (Err (desk.Call why)) = old_of (Err why)

-- its value is written; if there is none, the words stay
abbrev pub left_by : {V : ℕ} → Option (Entry V) → List ℕ → List ℕ
left_by (Some entry) words = entry.value
left_by None words = words

-- the contract of each of these calls, how its answer is told, and what it took out or showed
abbrev pub SwapIs : (V : ℕ) → ((T E : Type 0) → Contract V T E → (Result T E → Outcome) → (Result T E → Option (Entry V)) → Type 0) → ℕ → Swap → List ℕ → Type 0
SwapIs V Is key call.Put v = Is (Swapped V) PutError (swap_contract V key v) swap_told old_of_swap
SwapIs V Is key (call.PutIf since) v = Is (Replaced V) IfError (swap_if_contract V key since v) swap_if_told old_of_swap_if
SwapIs V Is key call.PutIfAbsent v = Is (Swapped V) AbsentError (swap_if_absent_contract V key v) swap_if_absent_told old_of_swap_if_absent
SwapIs V Is key (call.PutBounded most) v = Is (Bounded V) EvictError (swap_bounded_contract V key most v) bounded_told old_of_bounded
SwapIs V Is key (call.PutIfAbsentBounded most) v = Is (Bounded V) BoundedError (swap_if_absent_bounded_contract V key most v) absent_bounded_told old_of_absent_bounded
SwapIs V Is key call.Remove v = Is (Take V) Spent (take_contract V key) take_told old_of_take
SwapIs V Is key (call.RemoveIf since) v = Is (Replaced V) IfError (take_if_contract V key since) take_if_told old_of_swap_if
SwapIs V Is key call.Evict v = Is (Evict V) EvictError (evict_contract V) evict_told old_of_evict
SwapIs V Is key (call.Show item) v = Is (Option (Entry V)) Infallible (show_contract V item) shown_told old_of_shown

-- by a holder, or by a pass, which tries for the turn. The words of the old value are these before the call, and those after it
abbrev pub SwapMeans : (V : ℕ) → Role → Role → ℕ → Swap → List ℕ → List ℕ → List ℕ → Outcome → Type 0
SwapMeans V role role' key call v old new told =
    (swap_words V call v ≡ V)
    × SwapIs V (λ T E c tells old_of. HasTold (turn_told tells) (λ a. HasCalledBy role role' key c a × (new ≡ left_by (old_of_turn old_of a) old)) told) key call v

-- the call was made; or the value or the words for the old one have another width, and nothing was done
abbrev pub SwapTells : (V : ℕ) → Role → Role → Type 0 → ℕ → Swap → List ℕ → List ℕ → List ℕ → Outcome → Type 0
SwapTells V role role' Same key call v old new told =
    SwapMeans V role role' key call v old new told ⊎
    ((told ≡ plain WIDTH) × ((swap_words V call v ≢ V) ⊎ (length old ≢ V)) × Same × (new ≡ old))
