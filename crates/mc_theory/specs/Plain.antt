-- What a lookup returns is true, in plain words: the clause `plain` of `run_new`. What it means is in the definitions below, and in
-- those of the map that a history makes (`map_value`, `value_of`, `IsTrueAnswer`); no other of this project is needed.
--
-- Events come one after the other: each is an act of the writer, or the beginning of a reader's lookup, or the next access of
-- one. The acts change a map: the writer opens a deed on a key, writes words, and at the moment of the deed the map changes. A
-- fill and a renewal put the value, which is the first of the words that were written; the stamp follows it. A removal and an eviction take
-- the key out, a move changes nothing. The list of these changes is the history of the events.
--
-- A lookup that has ended reports its reader, its key, its reply, and which events were its first access and its last. The reply
-- names a number of changes: no fewer than were made before the first access, and no more than were made when the last was. It is what the
-- map held of the key after that number of changes of the history. A lookup that gave up, `Busy`, says nothing of the map.
use Rattle.std.specs.Prelude.{ℕ, suc, ◌≡◌, ◌+◌, ◌≤◌, ◌<◌, List, [], ◌∷◌, ◌++◌, length, take, Option, Some, None, slice_get}
use Rattle.mc_words.specs.History.{IsTrueAnswer, value_of}
use Rattle.mc_words.specs.declared.history.Change.{Change}
use Rattle.mc_words.specs.declared.history.Change.TheVariants.{Put, Remove, Evict}
use Rattle.mc_words.specs.declared.history.Reply.{Reply}
use Rattle.mc_words.specs.declared.history.Reply.TheVariants.{Found, Absent, Busy}
use Rattle.mc_theory.specs.declared.act.Act.{Act}
use Rattle.mc_theory.specs.declared.act.Act.TheVariants.{Open, Item, Moment}
use Rattle.mc_theory.specs.declared.act.Deed.{Deed}
use Rattle.mc_theory.specs.declared.act.Deed.TheVariants as deed
use Rattle.mc_theory.specs.declared.event.Done.{Done}
use Rattle.mc_theory.specs.declared.event.Event.{Event}
use Rattle.mc_theory.specs.declared.event.Event.TheVariants.{Write, Begin, Read}
use Rattle.mc_theory.specs.declared.event.Unlawful.{Unlawful}

-- the events that were made: all, or those before the one that was refused
abbrev pub events_made : List Event → Option (ℕ × Unlawful) → List Event
events_made es None = es
events_made es (Some stop) = take stop.0 es

-- the writer's acts among these events
abbrev pub acts_in : List Event → List Act
acts_in [] = []
acts_in (Write a ∷ es) = a ∷ acts_in es
acts_in (Begin r k ∷ es) = acts_in es
acts_in (Read r ∷ es) = acts_in es

-- what a deed on a key changes in the map, when these words were written: the first V of them are the value
abbrev pub change_by : {V : ℕ} → Deed → ℕ → List ℕ → List (Change V)
change_by {V} deed.Fill k xs = Put k (value_of V xs) ∷ []
change_by {V} deed.Renew k xs = Put k (value_of V xs) ∷ []
change_by deed.Remove k xs = Remove k ∷ []
change_by deed.Evict k xs = Evict k ∷ []
change_by deed.Move k xs = []

-- what these acts change, from an open deed on, of which these words were written; word 0 of an item is the key, and is none of them
abbrev pub changes_by : {V : ℕ} → Deed → ℕ → List ℕ → List Act → List (Change V)
changes_by d k xs [] = []
changes_by d k xs (Open key deed ∷ acts) = changes_by deed key [] acts
changes_by d k xs (Item i (suc j) x ∷ acts) = changes_by d k (xs ++ x ∷ []) acts
changes_by d k xs (Moment ∷ acts) = change_by d k xs ++ changes_by d k xs acts
changes_by d k xs (_ ∷ acts) = changes_by d k xs acts

-- the history of these events: before the first deed there is nothing to change, as in a move
unfoldable pub history_of : (V : ℕ) → List Event → List (Change V)
history_of V es = changes_by deed.Move 0 [] (acts_in es)

-- the number of changes that the reply names is between these two
abbrev pub IsBetween : {V : ℕ} → ℕ → ℕ → Reply V → Type 0
IsBetween lo hi (Found v at since) = (lo ≤ at) × (at ≤ hi)
IsBetween lo hi (Absent at) = (lo ≤ at) × (at ≤ hi)
IsBetween lo hi Busy = Unit {0}

-- the reader began to look up the key, and from there to its last access it began nothing else; no access of its own comes before the first
pub record IsSpan {V : ℕ} (es : List Event) (told : Done V) : Type 0 where
  pub begin : ℕ
  pub begun : slice_get es begin ≡ Some (Begin told.reader told.key)
  pub first : slice_get es told.first ≡ Some (Read told.reader)
  pub last : slice_get es told.last ≡ Some (Read told.reader)
  pub after : begin < told.first
  pub order : told.first ≤ told.last
  pub unread : (n : ℕ) → begin < n → n < told.first → slice_get es n ≡ Some (Read told.reader) → ⊥
  pub alone : (n k : ℕ) → begin < n → n ≤ told.last → slice_get es n ≡ Some (Begin told.reader k) → ⊥

-- the lookup has its span in these events, and its reply is what the map held after a number of their changes that is in the span
pub record IsPlainlyTrue {V : ℕ} (es : List Event) (told : Done V) : Type 0 where
  pub span : IsSpan es told
  pub true : IsTrueAnswer (history_of V es) told.key told.reply
  pub between : IsBetween (length (history_of V (take told.first es))) (length (history_of V (take (told.last + 1) es))) told.reply
