-- How each answer of a call is returned: a status, and the numbers of a reply.
use Rattle.std.specs.Prelude.{ℕ, Option, Some, None, Result, Ok, Err}
use Rattle.std.specs.declared.convert.Infallible.{Infallible}
use Rattle.mc_cache.specs.declared.bounding.Bounded.{Bounded}
use Rattle.mc_cache.specs.declared.bounding.Bounded.TheVariants as bounded
use Rattle.mc_cache.specs.declared.bounding.BoundedPut.{BoundedPut}
use Rattle.mc_cache.specs.declared.bounding.BoundedPut.TheVariants as bounded_put
use Rattle.mc_cache.specs.declared.bounding.BoundedError.{BoundedError}
use Rattle.mc_cache.specs.declared.bounding.BoundedError.TheVariants as bounded_error
use Rattle.mc_cache.specs.declared.desk.DeskError.{DeskError}
use Rattle.mc_cache.specs.declared.desk.DeskError.TheVariants as desk
use Rattle.mc_plan.specs.declared.answer.AbsentError.{AbsentError}
use Rattle.mc_plan.specs.declared.answer.AbsentError.TheVariants as absent
use Rattle.mc_plan.specs.declared.answer.EvictError.{EvictError}
use Rattle.mc_plan.specs.declared.answer.EvictError.TheVariants as evict_error
use Rattle.mc_plan.specs.declared.answer.IfError.{IfError}
use Rattle.mc_plan.specs.declared.answer.IfError.TheVariants as if_error
use Rattle.mc_plan.specs.declared.answer.Put.{Put}
use Rattle.mc_plan.specs.declared.answer.Put.TheVariants.{Stored, Renewed}
use Rattle.mc_plan.specs.declared.answer.PutError.{PutError}
use Rattle.mc_plan.specs.declared.answer.PutError.TheVariants as put_error
use Rattle.mc_plan.specs.declared.answer.Remove.{Remove}
use Rattle.mc_plan.specs.declared.answer.Remove.TheVariants as remove
use Rattle.mc_plan.specs.declared.answer.Spent.{Spent}
use Rattle.mc_plan.specs.declared.answer.Why.{Why}
use Rattle.mc_plan.specs.declared.answer.Why.TheVariants as left
use Rattle.mc_writer.specs.declared.entry.Entry.{Entry}
use Rattle.mc_writer.specs.declared.entry.Evict.{Evict}
use Rattle.mc_writer.specs.declared.entry.Evict.TheVariants.{Evicted, Empty}
use Rattle.mc_writer.specs.declared.entry.Replaced.{Replaced}
use Rattle.mc_writer.specs.declared.entry.Swapped.{Swapped}
use Rattle.mc_writer.specs.declared.entry.Take.{Take}
use Rattle.mc_writer.specs.declared.entry.Take.TheVariants.{Taken, NotThere}
use Rattle.mc_door.specs.declared.looked.Looked.{Looked}
use Rattle.mc_door.specs.declared.looked.Looked.TheVariants as looked
use Rattle.mc_door.specs.declared.outcome.RawReply.{RawReply}
use Rattle.mc_door.specs.declared.outcome.Outcome.{Outcome}
use Rattle.mc_door.specs.declared.status.TheConstants.{OK, ABSENT, BUSY, NO_PATH, ALL_RECENT, SPENT, CHANGED, HELD, PRESENT}
use Rattle.mc_door.specs.declared.outcome.TheConstants.{NOTHING, STORED, EVICTED, RENEWED}

-- a status alone
abbrev pub plain : ℕ → Outcome
plain status = record { status = status; reply = record { at = 0; since = 0; evicted = 0; moves = 0; put = NOTHING } }

-- a status and a moment
abbrev pub told_at : ℕ → ℕ → Outcome
told_at status at = record { status = status; reply = record { at = at; since = 0; evicted = 0; moves = 0; put = NOTHING } }

-- a status and the moment of the key's last put
abbrev pub told_since : ℕ → ℕ → Outcome
told_since status since = record { status = status; reply = record { at = 0; since = since; evicted = 0; moves = 0; put = NOTHING } }

abbrev pub lookup_told : Looked → Outcome
lookup_told (looked.Found at since) = record { status = OK; reply = record { at = at; since = since; evicted = 0; moves = 0; put = NOTHING } }
lookup_told (looked.Absent at) = told_at ABSENT at
lookup_told looked.Busy = plain BUSY

abbrev pub done_told : Put → Outcome
done_told (Stored at moves None) = record { status = OK; reply = record { at = at; since = 0; evicted = 0; moves = moves; put = STORED } }
done_told (Stored at moves (Some other)) = record { status = OK; reply = record { at = at; since = 0; evicted = other; moves = moves; put = EVICTED } }
done_told (Renewed at) = record { status = OK; reply = record { at = at; since = 0; evicted = 0; moves = 0; put = RENEWED } }

abbrev pub not_put_told : PutError → Outcome
not_put_told put_error.NoPath = plain NO_PATH
not_put_told put_error.AllRecent = plain ALL_RECENT
not_put_told put_error.Spent = plain SPENT

abbrev pub put_told : Result Put PutError → Outcome
put_told (Ok done) = done_told done
put_told (Err why) = not_put_told why

abbrev pub not_put_if_told : IfError → Outcome
not_put_if_told if_error.Spent = plain SPENT
not_put_if_told (if_error.NotThere at) = told_at ABSENT at
not_put_if_told (if_error.Changed stands) = told_since CHANGED stands

abbrev pub put_if_told : Result ℕ IfError → Outcome
put_if_told (Ok at) = done_told (Renewed at)
put_if_told (Err why) = not_put_if_told why

abbrev pub put_if_absent_told : Result Put AbsentError → Outcome
put_if_absent_told (Ok done) = done_told done
put_if_absent_told (Err (absent.Present since)) = told_since PRESENT since
put_if_absent_told (Err (absent.Put why)) = not_put_told why

abbrev pub removal_told : Result Remove Spent → Outcome
removal_told (Ok (remove.Removed at)) = told_at OK at
removal_told (Ok (remove.NotThere at)) = told_at ABSENT at
removal_told (Err spent) = plain SPENT

-- how an answer by a pass is returned: another thread may have the turn
abbrev pub turn_told : {T E : Type 0} → (Result T E → Outcome) → Result T (DeskError E) → Outcome
turn_told tells (Ok done) = tells (Ok done)
turn_told tells (Err desk.Held) = plain HELD
turn_told tells (Err (desk.Call why)) = tells (Err why)

-- `since` is the stamp of the entry that gave way, if one did
abbrev pub stamped : {V : ℕ} → Option (Entry V) → RawReply → RawReply
stamped None reply = reply
stamped (Some old) reply = record { at = reply.at; since = old.since; evicted = reply.evicted; moves = reply.moves; put = reply.put }

abbrev pub with_stamp : {V : ℕ} → Option (Entry V) → Outcome → Outcome
with_stamp old told = record { status = told.status; reply = stamped old told.reply }

abbrev pub swap_told : {V : ℕ} → Result (Swapped V) PutError → Outcome
swap_told (Ok swapped) = with_stamp swapped.old (done_told swapped.put)
swap_told (Err why) = not_put_told why

-- a put that evicts no other key: if every item is in use, none has given way
abbrev pub kept_told : Result Put Why → Outcome
kept_told (Ok done) = done_told done
kept_told (Err left.NoPath) = plain NO_PATH
kept_told (Err left.NoItem) = plain ALL_RECENT
kept_told (Err left.Spent) = plain SPENT

-- an entry had left before that: the reply names it, also if the put failed
abbrev pub after_eviction : {V : ℕ} → Entry V → Outcome → Outcome
after_eviction old told = record { status = told.status; reply = record { at = told.reply.at; since = old.since; evicted = old.key; moves = told.reply.moves; put = EVICTED } }

-- the same without the entry
abbrev pub after_leaving : ℕ → Outcome → Outcome
after_leaving other told = record { status = told.status; reply = record { at = told.reply.at; since = told.reply.since; evicted = other; moves = told.reply.moves; put = EVICTED } }

-- none gave way
abbrev pub not_evicted_told : EvictError → Outcome
not_evicted_told evict_error.AllRecent = plain ALL_RECENT
not_evicted_told evict_error.Spent = plain SPENT

abbrev pub bounded_told : {V : ℕ} → Result (Bounded V) EvictError → Outcome
bounded_told (Ok (bounded.Swapped told)) = swap_told told
bounded_told (Ok (bounded.Evicted old put)) = after_eviction old (kept_told put)
bounded_told (Err why) = not_evicted_told why

abbrev pub put_bounded_told : Result BoundedPut EvictError → Outcome
put_bounded_told (Ok (bounded_put.Put told)) = put_told told
put_bounded_told (Ok (bounded_put.Evicted other put)) = after_leaving other (kept_told put)
put_bounded_told (Err why) = not_evicted_told why

abbrev pub absent_put_bounded_told : Result BoundedPut BoundedError → Outcome
absent_put_bounded_told (Ok done) = put_bounded_told (Ok done)
absent_put_bounded_told (Err (bounded_error.Present since)) = told_since PRESENT since
absent_put_bounded_told (Err (bounded_error.Evict why)) = not_evicted_told why

abbrev pub absent_bounded_told : {V : ℕ} → Result (Bounded V) BoundedError → Outcome
absent_bounded_told (Ok done) = bounded_told (Ok done)
absent_bounded_told (Err (bounded_error.Present since)) = told_since PRESENT since
absent_bounded_told (Err (bounded_error.Evict why)) = not_evicted_told why

abbrev pub swap_if_absent_told : {V : ℕ} → Result (Swapped V) AbsentError → Outcome
swap_if_absent_told (Ok swapped) = swap_told (Ok swapped)
swap_if_absent_told (Err why) = put_if_absent_told (Err why)

abbrev pub swap_if_told : {V : ℕ} → Result (Replaced V) IfError → Outcome
swap_if_told (Ok replaced) = with_stamp (Some replaced.old) (done_told (Renewed replaced.at))
swap_if_told (Err why) = not_put_if_told why

abbrev pub take_if_told : {V : ℕ} → Result (Replaced V) IfError → Outcome
take_if_told (Ok replaced) = with_stamp (Some replaced.old) (told_at OK replaced.at)
take_if_told (Err why) = not_put_if_told why

abbrev pub take_told : {V : ℕ} → Result (Take V) Spent → Outcome
take_told (Ok (Taken at old)) = with_stamp (Some old) (told_at OK at)
take_told (Ok (NotThere at)) = told_at ABSENT at
take_told (Err spent) = plain SPENT

abbrev pub evict_told : {V : ℕ} → Result (Evict V) EvictError → Outcome
evict_told (Ok (Evicted at old)) = record { status = OK; reply = record { at = at; since = old.since; evicted = old.key; moves = 0; put = NOTHING } }
evict_told (Ok (Empty at)) = told_at ABSENT at
evict_told (Err why) = not_evicted_told why

-- the entry in an item, with its key
abbrev pub shown_told : {V : ℕ} → Result (Option (Entry V)) Infallible → Outcome
shown_told (Ok (Some entry)) = record { status = OK; reply = record { at = 0; since = entry.since; evicted = entry.key; moves = 0; put = NOTHING } }
shown_told (Ok None) = plain ABSENT
shown_told (Err never) = plain ABSENT
