-- What an eviction without a put makes of the writer's seat.
use Rattle.std.specs.Prelude.{ℕ, ◌≡◌, ◌+◌, ◌<◌, List, [], ◌∷◌, ◌++◌, length, Some, None, Result, Ok, Err}
use Rattle.mc_words.specs.History.{key_count}
use Rattle.mc_words.specs.Places.{slot_number}
use Rattle.mc_words.specs.Standing.{Stands}
use Rattle.mc_words.specs.declared.history.Change.TheVariants.{Evict}
use Rattle.mc_words.specs.declared.place.Place.{Place}
use Rattle.mc_words.specs.declared.shape.Shape.{Shape}
use Rattle.mc_theory.specs.Lists.{Made, AreAllowed, state_of}
use Rattle.mc_search.specs.Sweeps.{Swept, hand_acts, victim_of}
use Rattle.mc_plan.specs.Evicting.{IsSearchIn, IsWholeSearch}
use Rattle.mc_plan.specs.Making.{IsQuiet, as_made}
use Rattle.mc_plan.specs.Plans.{evict_acts}
use Rattle.mc_plan.specs.declared.answer.EvictError.{EvictError}
use Rattle.mc_plan.specs.declared.answer.EvictError.TheVariants.{AllRecent, Spent}
use Rattle.mc_shared.specs.Records.{WriterRecord, NotesGrow}
use Rattle.mc_writer.specs.GivenWay.{Holds}
use Rattle.mc_writer.specs.declared.entry.Entry.{Entry}
use Rattle.mc_writer.specs.declared.entry.Evict.{Evict as Evictions}
use Rattle.mc_writer.specs.declared.entry.Evict.TheVariants.{Evicted, Empty}

-- a search for the item that gives way, and then these acts: each is allowed after those before it, and they end quiet. The notes beside earlier acts are as they were
pub record HasSearchedAnd (V : ℕ) (sh : Shape) (before after : WriterRecord) (readings : List Swept) (others : List Made) : Type 0 where
  pub of : after.of ≡ before.of
  pub notes : NotesGrow before.notes after.notes
  pub acts : after.acts ≡ before.acts ++ (hand_acts readings ++ others)
  pub allowed : AreAllowed sh (state_of V sh before.acts) (hand_acts readings ++ others)
  pub quiet : IsQuiet V sh (state_of V sh after.acts)
  pub searches : IsSearchIn sh (state_of V sh before.acts).words readings

-- the entry of the key at the item whose bit was clear was taken out, and nothing else changed. This is its moment
pub record HasEvicted (V : ℕ) (sh : Shape) (before after : WriterRecord) (at : ℕ) (old : Entry V) : Type 0 where
  pub readings : List Swept
  pub item : ℕ
  pub place : Place
  pub found : victim_of readings ≡ Some item
  pub stands : Stands V sh (state_of V sh before.acts).words old.key (slot_number place) item
  pub made : HasSearchedAnd V sh before after readings (as_made (evict_acts old.key place))
  pub holds : Holds (state_of V sh before.acts).history old.key (Some old)
  pub history : (state_of V sh after.acts).history ≡ (state_of V sh before.acts).history ++ Evict old.key ∷ []
  pub version_steps : (state_of V sh after.acts).version_steps ≡ (state_of V sh before.acts).version_steps + 2
  pub moment : at ≡ length (state_of V sh after.acts).history

-- the map holds keys, and a whole search found no clear bit: nothing has changed but recency bits
pub record HasFoundRecent (V : ℕ) (sh : Shape) (before after : WriterRecord) : Type 0 where
  pub readings : List Swept
  pub some : 0 < key_count (state_of V sh before.acts).history
  pub none : victim_of readings ≡ None
  pub whole : IsWholeSearch before.of.layout.policy (key_count (state_of V sh before.acts).history) sh (state_of V sh before.acts).words readings
  pub made : HasSearchedAnd V sh before after readings []
  pub words : (state_of V sh after.acts).words ≡ (state_of V sh before.acts).words
  pub history : (state_of V sh after.acts).history ≡ (state_of V sh before.acts).history
  pub version_steps : (state_of V sh after.acts).version_steps ≡ (state_of V sh before.acts).version_steps

-- an eviction without a put: it takes one entry out, or none
abbrev pub HasTriedToEvict : (V : ℕ) → Shape → WriterRecord → WriterRecord → Result (Evictions V) EvictError → Type 0
HasTriedToEvict V sh before after (Ok (Evicted at old)) = HasEvicted V sh before after at old
HasTriedToEvict V sh before after (Ok (Empty at)) = (key_count (state_of V sh before.acts).history ≡ 0) × (at ≡ length (state_of V sh before.acts).history) × (after ≡ before)
HasTriedToEvict V sh before after (Err AllRecent) = HasFoundRecent V sh before after
HasTriedToEvict V sh before after (Err Spent) = (sh.limit < (state_of V sh before.acts).version_steps + 2) × (after ≡ before)
