-- What only private contracts say beside `Clerks`.
use Rattle.std.specs.Prelude.{ℕ, ◌≡◌, ◌+◌, ◌%◌, ◌<◌, List, [], length, Some, Result, Ok, Err}
use Rattle.mc_words.specs.declared.policy.Policy.TheVariants.{Clock}
use Rattle.mc_words.specs.Checks.{policy_of, shape_of}
use Rattle.mc_theory.specs.States.{State}
use Rattle.mc_theory.specs.declared.act.Act.{Act}
use Rattle.mc_plan.specs.declared.answer.Answer.TheVariants as answer
use Rattle.mc_plan.specs.declared.answer.Put.{Put}
use Rattle.mc_plan.specs.declared.answer.PutError.{PutError}
use Rattle.mc_plan.specs.declared.answer.Why.{Why}
use Rattle.mc_plan.specs.declared.books.Books.{Books}
use Rattle.mc_plan.specs.Calls.{why_of}
use Rattle.mc_plan.specs.declared.clerk.Clerk.{Clerk}
use Rattle.mc_plan.specs.declared.clerk.Stage.{Stage}
use Rattle.mc_plan.specs.declared.clerk.Stage.TheVariants.{Sweeping}
use Rattle.mc_plan.specs.declared.waiting.Start.{Start}
use Rattle.mc_plan.specs.declared.waiting.Start.TheVariants as start
use Rattle.mc_plan.specs.Making.{IsQuiet}
use Rattle.mc_search.specs.declared.room.Room.{Room}
use Rattle.mc_search.specs.Sweeps.{Swept, IsOver, IsSearchBy, victim_of}
use Rattle.mc_plan.specs.WholeCalls.{Call, PutCall, IsSweepOf}
use Rattle.mc_plan.specs.Books.{IsPlanned, Waits, IsSweeping}
use Rattle.mc_plan.specs.Clerks.{shape_of_clerk}

-- the answer of a put that swept for no item, as that of one that takes no other key's item
abbrev pub kept_told : Result Put PutError → Result Put Why
kept_told (Ok told) = Ok told
kept_told (Err refusal) = Err (why_of refusal)

-- how a put starts: it is planned, or it waits for an item
abbrev pub IsStarted : (V : ℕ) → Books → List Act → ℕ → List ℕ → State V → Start → Type 0
IsStarted V books plan k v s (start.Planned told) = (IsPlanned V books plan (PutCall k v) s s (answer.Put told)) × IsSweepOf V (shape_of books.checked) (policy_of books.checked) s [] (answer.Put told)
IsStarted V books plan k v s (start.Waits room) = (plan ≡ []) × Waits V books k v s room

-- the put of this key waited for an item, the search has found one, and the books know where CLOCK's hand is now
pub record IsReplacing (V : ℕ) (books : Books) (k : ℕ) (v : List ℕ) (room : Room) (call : Call) (s : State V) (rs : List Swept) (item : ℕ) : Type 0 where
  pub before : ℕ
  pub waits : Waits V (record books { hand = before }) k v s room
  pub called : call ≡ PutCall k v
  pub searched : IsSearchBy (policy_of books.checked) (shape_of books.checked).items s.hand rs
  pub found : victim_of rs ≡ Some item
  pub hand : policy_of books.checked ≡ Clock → books.hand ≡ (s.hand + length rs) % (shape_of books.checked).items
  pub inside : books.hand < (shape_of books.checked).items

-- the sweep of the call is over, and the rest of it is to be planned
abbrev pub IsAtEnd : (V : ℕ) → Stage V → Books → List Act → ℕ → Call → State V → List Swept → Type 0
IsAtEnd V (Sweeping waiting) books plan many call s rs = IsSweeping V books waiting call s rs × IsOver (shape_of books.checked).items rs × (many ≡ 0) × (plan ≡ [])
IsAtEnd V _ books plan many call s rs = ⊥

pub record HasEndedSweep (V : ℕ) (clerk : Clerk V) (call : Call) (s : State V) (rs : List Swept) : Type 0 where
  pub begun : IsQuiet V (shape_of_clerk clerk) s
  pub now : IsAtEnd V clerk.stage clerk.books clerk.plan.items clerk.made call s rs
