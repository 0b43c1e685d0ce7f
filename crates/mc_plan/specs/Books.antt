-- What the books of a writer say of the table, between two calls and in a call.
use Rattle.std.specs.Prelude.{ℕ, ◌≡◌, ◌+◌, ◌<◌, ◌≤◌, List}
use Rattle.mc_words.specs.Answers.{PutIsSpent}
use Rattle.mc_words.specs.declared.policy.Policy.TheVariants.{Clock}
use Rattle.mc_words.specs.Checks.{policy_of, shape_of}
use Rattle.mc_words.specs.History.{IsWord}
use Rattle.mc_words.specs.Places.{IsWidth, moment}
use Rattle.mc_words.specs.Standing.{NamesItem, IsAbsent, IsFree}
use Rattle.mc_theory.specs.Lists.{AreAllowed}
use Rattle.mc_theory.specs.States.{State}
use Rattle.mc_theory.specs.declared.act.Act.{Act}
use Rattle.mc_plan.specs.declared.answer.Answer.{Answer}
use Rattle.mc_plan.specs.declared.books.Books.{Books}
use Rattle.mc_search.specs.declared.pick.Pick.{Pick}
use Rattle.mc_search.specs.declared.room.Room.{Room}
use Rattle.mc_plan.specs.declared.waiting.Waiting.{Waiting}
use Rattle.mc_search.specs.Items.{IsConsistent, IsFreeIn, IsPicking, policy_in}
use Rattle.mc_plan.specs.Laws.{IsValue}
use Rattle.mc_plan.specs.Making.{IsQuiet, as_made, state_after_acts}
use Rattle.mc_search.specs.Paths.{IsLeastPath, path_of_room}
use Rattle.mc_search.specs.Sweeps.{Swept, HasSwept}
use Rattle.mc_plan.specs.WholeCalls.{Call, Marks, Means, PutCall, quiet_of}

-- the books are those of the state, which is quiet: the item of CLOCK's hand, the version changes, the free items
pub record AreBooksOf (V : ℕ) (books : Books) (s : State V) : Type 0 where
  pub width : IsWidth V
  pub quiet : IsQuiet V (shape_of books.checked) s
  pub hand : policy_of books.checked ≡ Clock → books.hand ≡ s.hand
  pub inside : books.hand < (shape_of books.checked).items
  pub stands : s.hand < (shape_of books.checked).items
  pub version_steps : books.version_steps ≡ s.version_steps
  pub limit : s.version_steps ≤ (shape_of books.checked).limit
  pub finder : books.far.value.finder ≡ shape_of books.checked
  pub kept : IsConsistent books.free
  pub policy : policy_in books.free ≡ policy_of books.checked
  pub items : books.free.list.items ≡ (shape_of books.checked).items
  pub free : (i : ℕ) → IsFreeIn books.free i → IsFree (shape_of books.checked) s.words i
  pub named : (i : ℕ) → i < (shape_of books.checked).items → (IsFreeIn books.free i → ⊥) → (q : ℕ) × NamesItem (shape_of books.checked) s.words q i

-- the call began in state s, and the plan is made in state m, after the sweep: it is the rest of the call with this answer, and the books are those of the state after it
pub record IsPlanned (V : ℕ) (books : Books) (plan : List Act) (call : Call) (s m : State V) (told : Answer) : Type 0 where
  pub allowed : AreAllowed (shape_of books.checked) m (as_made plan)
  pub means : Means (shape_of books.checked) call told s (state_after_acts V (shape_of books.checked) m plan)
  pub marks : Marks V (shape_of books.checked) (policy_of books.checked) (state_after_acts V (shape_of books.checked) m plan).words call told plan
  pub ends : AreBooksOf V books (state_after_acts V (shape_of books.checked) m plan)

-- the key is not there, the limit is far enough for its put with this value, and the put is to have this moment
pub record IsLackingKey (V : ℕ) (books : Books) (k : ℕ) (v : List ℕ) (s : State V) (at : ℕ) : Type 0 where
  pub known : AreBooksOf V books s
  pub key : IsWord k
  pub value : IsValue V v
  pub unspent : PutIsSpent (shape_of books.checked) (quiet_of s) → ⊥
  pub absent : IsAbsent V (shape_of books.checked) s.words k
  pub next : at ≡ moment s.words + 1

-- and it finds this room, by a least path
pub record HasRoom (V : ℕ) (books : Books) (k : ℕ) (v : List ℕ) (s : State V) (at : ℕ) (room : Room) : Type 0 where
  pub lacks : IsLackingKey V books k v s at
  pub least : IsLeastPath (shape_of books.checked) s.words k (path_of_room books.far.value.path room)

-- the put of such a key has this room, and no item is free
pub record Waits (V : ℕ) (books : Books) (k : ℕ) (v : List ℕ) (s : State V) (room : Room) : Type 0 where
  pub known : AreBooksOf V books s
  pub key : IsWord k
  pub value : IsValue V v
  pub unspent : PutIsSpent (shape_of books.checked) (quiet_of s) → ⊥
  pub absent : IsAbsent V (shape_of books.checked) s.words k
  pub least : IsLeastPath (shape_of books.checked) s.words k (path_of_room books.far.value.path room)
  pub none : (i : ℕ) → IsFreeIn books.free i → ⊥

-- CLOCK's hand looks for an item for a put that began in state s, and has read these bits
pub record IsSweeping (V : ℕ) (books : Books) (waiting : Waiting V) (call : Call) (s : State V) (rs : List Swept) : Type 0 where
  pub waits : Waits V books waiting.key waiting.value s waiting.room
  pub called : call ≡ PutCall waiting.key waiting.value
  pub clock : policy_of books.checked ≡ Clock
  pub has : HasSwept waiting.sweep (shape_of books.checked).items s.hand rs

-- the choice looks for an item for the put of this key, which began in state s, and has read these bits
pub record IsPickingFor (V : ℕ) (books : Books) (pick : Pick) (k : ℕ) (v : List ℕ) (room : Room) (s : State V) (rs : List Swept) : Type 0 where
  pub waits : Waits V books k v s room
  pub picking : IsPicking books.free pick rs
