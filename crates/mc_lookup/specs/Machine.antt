-- The reader's machine: what it reads next, and what is left of its lookup.
use Rattle.std.specs.Prelude.{ℕ, ◌≡◌, ◌+◌, ◌-◌, ◌*◌, ◌<◌, ◌⊎◌, ◌↔◌, nat_lt, if◌then◌else◌, List, [], ◌∷◌, ◌++◌, take, drop, Option, Some, None}
use Rattle.mc_words.specs.Checks.{shape_of}
use Rattle.mc_words.specs.History.{value_of}
use Rattle.mc_words.specs.Places.{payload}
use Rattle.mc_words.specs.declared.history.Reply.{Reply}
use Rattle.mc_words.specs.declared.place.Place.{Place}
use Rattle.mc_words.specs.declared.shape.Shape.{Shape}
use Rattle.mc_theory.specs.Lookups.{MarksHit, slots_for, IsLookup}
use Rattle.mc_theory.specs.Readings.{Reading}
use Rattle.mc_lookup.specs.Rest.{RemainderAtSlots, RemainderAtKey, RemainderAtValues, RemainderAtStamp, RemainderAtMoment, RemainderAtLast}
use Rattle.mc_theory.specs.declared.access.Access.{Access}
use Rattle.mc_theory.specs.declared.access.Access.TheVariants as access
use Rattle.mc_lookup.specs.declared.lookup.Lookup.{Lookup}
use Rattle.mc_lookup.specs.declared.stage.Stage.{Stage}
use Rattle.mc_lookup.specs.declared.stage.Stage.TheVariants.{First, Slot, Key, Value, Stamp, Moment, Last, Mark, Over}

abbrev pub shape_for : {V : ℕ} → Lookup V → Shape
shape_for l = shape_of l.checked

abbrev pub stage_of : {V : ℕ} → Lookup V → Stage
stage_of l = l.stage

-- slot j of the eight: four of the first bucket, then four of the second
abbrev pub place_in : ℕ → ℕ → ℕ → Place
place_in first second j = if nat_lt j 4 then record { bucket = first; slot = j } else record { bucket = second; slot = j - 4 }

abbrev pub lookup_place : {V : ℕ} → Lookup V → ℕ → Place
lookup_place l j = place_in l.parts.first l.parts.second j

abbrev pub next_at : {V : ℕ} → Lookup V → Stage → Option Access
next_at l First = Some (access.Version l.parts.stripe)
next_at l (Slot j) = Some (access.Slot (lookup_place l j))
next_at l (Key j i) = Some (access.Key i)
next_at l (Value i c) = Some (access.Value i (c + 1))
next_at l (Stamp i) = Some (access.Stamp i)
next_at l (Moment hit) = Some access.Moment
next_at l (Last hit at) = Some (access.Version l.parts.stripe)
next_at l (Mark i) = Some (access.Mark i)
next_at l Over = None

-- the access that the lookup makes next
abbrev pub next_access : {V : ℕ} → Lookup V → Option Access
next_access l = next_at l l.stage

abbrev pub reply_at : {V : ℕ} → Lookup V → Stage → Option (Reply V)
reply_at l Over = Some l.reply
reply_at l _ = None

-- the reply, once nothing is left to read
abbrev pub reply_now : {V : ℕ} → Lookup V → Option (Reply V)
reply_now l = reply_at l l.stage

-- the stage before slot j, of which there are eight
abbrev pub slots_from : ℕ → Stage
slots_from j = if nat_lt j 8 then Slot j else Moment None

-- the stage before another word of the value, of which there are V
abbrev pub values_from : ℕ → ℕ → ℕ → Stage
values_from V i c = if nat_lt c V then Value i c else Stamp i

-- the stage after a try that succeeds
abbrev pub stage_after_try : Option ℕ → Stage
stage_after_try None = Over
stage_after_try (Some i) = Mark i

-- the stage after a try that was spoiled
abbrev pub IsRestart : Stage → Type 0
IsRestart stage = (stage ≡ First) ⊎ (stage ≡ Over)

-- what the lookup keeps of the item's words after its key: the value, and then the stamp
abbrev pub held_by : {V : ℕ} → Lookup V → List ℕ
held_by l = l.value ++ l.since ∷ []

-- what was read of them: all, or none if the key wasn't found
abbrev pub held_for : Option ℕ → List ℕ → List ℕ
held_for None held = []
held_for (Some i) held = held

-- what is left at a stage: of this key, with t tries left, this first version and these words of the item
abbrev pub IsRemainderAt : (V : ℕ) → Shape → ℕ → ℕ → ℕ → List ℕ → Reply V → Stage → List Reading → Reply V → Type 0
IsRemainderAt V sh k t x held told First rs reply = IsLookup V sh k t rs reply
IsRemainderAt V sh k t x held told (Slot j) rs reply = RemainderAtSlots V sh k t x (drop j (slots_for sh k)) rs reply
IsRemainderAt V sh k t x held told (Key j i) rs reply = RemainderAtKey V sh k t x i (drop j (slots_for sh k)) rs reply
IsRemainderAt V sh k t x held told (Value i c) rs reply = RemainderAtValues V sh k t x i (take c held) rs reply
IsRemainderAt V sh k t x held told (Stamp i) rs reply = RemainderAtStamp V sh k t x i (value_of V held) rs reply
IsRemainderAt V sh k t x held told (Moment hit) rs reply = RemainderAtMoment V sh k t x hit (held_for hit held) rs reply
IsRemainderAt V sh k t x held told (Last hit at) rs reply = RemainderAtLast V sh k t x hit (held_for hit held) at rs reply
IsRemainderAt V sh k t x held told (Mark i) rs reply = MarksHit (Some i) rs × (reply ≡ told)
IsRemainderAt V sh k t x held told Over rs reply = (rs ≡ []) × (reply ≡ told)

-- these readings are left of the lookup, and this is what it then replies
unfoldable pub IsRemainder : {V : ℕ} → Lookup V → List Reading → Reply V → Type 0
IsRemainder {V} l rs reply = IsRemainderAt V (shape_for l) l.key l.tries l.version (held_by l) l.reply l.stage rs reply

-- how many accesses are left at most: of the running try, which may read all words of one item, without those of the tries after it and the mark
abbrev pub steps_of_try : ℕ → Stage → ℕ
steps_of_try V First = 0
steps_of_try V (Slot j) = 2 * (8 - j) + payload V + 2
steps_of_try V (Key j i) = 1 + 2 * (8 - j) + payload V + 2
steps_of_try V (Value i c) = payload V - c + 2
steps_of_try V (Stamp i) = 3
steps_of_try V (Moment hit) = 2
steps_of_try V (Last hit at) = 1
steps_of_try V (Mark i) = 0
steps_of_try V Over = 0

abbrev pub steps_at : ℕ → ℕ → Stage → ℕ
steps_at V t (Mark i) = 1
steps_at V t Over = 0
steps_at V t stage = steps_of_try V stage + t * (19 + payload V) + 1

-- how many accesses the lookup makes at most before it has its reply
abbrev pub steps_left : {V : ℕ} → Lookup V → ℕ
steps_left {V} l = steps_at V l.tries l.stage

-- a reading of this word, by this access, leads from one lookup to the other: what is left of the first is that reading and what is left of the second
pub record Consumes {V : ℕ} (old : Lookup V) (a : Access) (word : ℕ) (new : Lookup V) : Type 0 where
  pub shape : new.checked ≡ old.checked
  pub key : new.key ≡ old.key
  pub left : (f : ℕ) (rs : List Reading) (reply : Reply V) → IsRemainder new rs reply ↔ IsRemainder old (record { access = a; word = word; front = f } ∷ rs) reply
  pub fewer : steps_left new < steps_left old
