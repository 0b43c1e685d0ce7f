-- What a lookup reads and replies, as a shape of its whole list of readings.
use Rattle.std.specs.Prelude.{ℕ, zero, suc, ◌≡◌, ◌≢◌, ◌+◌, ◌%◌, ◌<◌, ◌⊎◌, List, [], ◌∷◌, ◌++◌, length, Option, Some, None}
use Rattle.mc_words.specs.History.{since_of, value_of}
use Rattle.mc_words.specs.Keys.{first_of, second_of, slot_word, stripe_of, tag_of}
use Rattle.mc_words.specs.declared.history.Reply.{Reply}
use Rattle.mc_words.specs.declared.history.Reply.TheVariants.{Found, Absent, Busy}
use Rattle.mc_words.specs.declared.place.Place.{Place}
use Rattle.mc_words.specs.declared.shape.Shape.{Shape}
use Rattle.mc_theory.specs.Readings.{Reading}
use Rattle.mc_theory.specs.declared.access.Access.TheVariants.{Version, Slot, Key, Value, Stamp, Moment, Mark}

-- the slots of a bucket
abbrev pub slots_of : ℕ → List Place
slots_of b = record { bucket = b; slot = 0 } ∷ record { bucket = b; slot = 1 } ∷ record { bucket = b; slot = 2 } ∷ record { bucket = b; slot = 3 } ∷ []

-- the slots of a key's two buckets
abbrev pub slots_for : Shape → ℕ → List Place
slots_for sh k = slots_of (first_of sh k) ++ slots_of (second_of sh k)

-- the word names the key's tag, and this item
abbrev pub TagMatches : Shape → ℕ → ℕ → ℕ → Type 0
TagMatches sh k x i = (i < sh.items) × (x ≡ slot_word (tag_of sh k) i)

-- the slots are read one after the other, each item of the key's tag at its key word, up to the key itself
abbrev pub Scans : Shape → ℕ → List Place → List Reading → Option ℕ → Type 0
Scans sh k [] rs hit = (rs ≡ []) × (hit ≡ None)
Scans sh k (p ∷ ps) rs hit =
    (r : Reading) × (more : List Reading) × (rs ≡ r ∷ more) × (r.access ≡ Slot p) × (
    (((i : ℕ) → TagMatches sh k r.word i → ⊥) × Scans sh k ps more hit) ⊎
    ((i : ℕ) × (s : Reading) × (rest : List Reading) × TagMatches sh k r.word i × (more ≡ s ∷ rest) × (s.access ≡ Key i) × (
    ((s.word ≡ k) × (rest ≡ []) × (hit ≡ Some i)) ⊎ ((s.word ≢ k) × Scans sh k ps rest hit))))

-- the value words of an item, from word j on
abbrev pub ReadsValues : ℕ → ℕ → List Reading → List ℕ → Type 0
ReadsValues i j [] [] = Unit {0}
ReadsValues i j (r ∷ rs) (x ∷ xs) = (r.access ≡ Value i j) × (r.word ≡ x) × ReadsValues i (j + 1) rs xs
ReadsValues i j _ _ = ⊥

-- a hit reads what the item holds: the V words of the value, and then the stamp
abbrev pub ReadsHit : ℕ → Option ℕ → List Reading → List ℕ → Type 0
ReadsHit V None rs held = (rs ≡ []) × (held ≡ [])
ReadsHit V (Some i) rs held =
    (values : List Reading) × (r : Reading) × (v : List ℕ) × (rs ≡ values ++ r ∷ []) × (held ≡ v ++ r.word ∷ []) ×
    (length v ≡ V) × ReadsValues i 1 values v × (r.access ≡ Stamp i)

-- a try whose first version was even
pub record Tries (V : ℕ) (sh : Shape) (k : ℕ) (rs : List Reading) (hit : Option ℕ) (held : List ℕ) (before after at : ℕ) : Type 0 where
  pub first : Reading
  pub scan : List Reading
  pub values : List Reading
  pub mid : Reading
  pub last : Reading
  pub parts : rs ≡ first ∷ (scan ++ (values ++ mid ∷ last ∷ []))
  pub first_is : first.access ≡ Version (stripe_of sh k)
  pub first_word : first.word ≡ before
  pub even : before % 2 ≡ 0
  pub scans : Scans sh k (slots_for sh k) scan hit
  pub reads : ReadsHit V hit values held
  pub mid_is : mid.access ≡ Moment
  pub mid_word : mid.word ≡ at
  pub last_is : last.access ≡ Version (stripe_of sh k)
  pub last_word : last.word ≡ after

abbrev pub IsSpoiled : ℕ → Shape → ℕ → List Reading → Type 0
IsSpoiled V sh k rs =
    ((r : Reading) × (rs ≡ r ∷ []) × (r.access ≡ Version (stripe_of sh k)) × (r.word % 2 ≡ 1)) ⊎
    ((hit : Option ℕ) × (held : List ℕ) × (before : ℕ) × (after : ℕ) × (at : ℕ) × (after ≢ before) × Tries V sh k rs hit held before after at)

-- a hit has one mark, of its item
abbrev pub MarksHit : Option ℕ → List Reading → Type 0
MarksHit None rs = rs ≡ []
MarksHit (Some i) rs = (r : Reading) × (rs ≡ r ∷ []) × (r.access ≡ Mark i)

abbrev pub reply_of : {V : ℕ} → Option ℕ → List ℕ → ℕ → Reply V
reply_of {V} None held at = Absent at
reply_of {V} (Some i) held at = Found (value_of V held) at (since_of V held)

-- the readings of a lookup that has this many tries left
abbrev pub IsLookup : (V : ℕ) → Shape → ℕ → ℕ → List Reading → Reply V → Type 0
IsLookup V sh k zero rs reply = (rs ≡ []) × (reply ≡ Busy)
IsLookup V sh k (suc t) rs reply =
    ((xs : List Reading) × (ys : List Reading) × (rs ≡ xs ++ ys) × IsSpoiled V sh k xs × IsLookup V sh k t ys reply) ⊎
    ((xs : List Reading) × (ys : List Reading) × (hit : Option ℕ) × (held : List ℕ) × (version : ℕ) × (at : ℕ) × (rs ≡ xs ++ ys) × Tries V sh k xs hit held version version at × MarksHit hit ys × (reply ≡ reply_of hit held at))
