-- What is left to read of a lookup, at each stage of its machine. A machine's contract names these.
use Rattle.std.specs.Prelude.{ℕ, suc, ◌≡◌, ◌≢◌, ◌⊎◌, List, [], ◌∷◌, ◌++◌, length, Option, Some, None}
use Rattle.mc_theory.specs.Lookups.{IsLookup, MarksHit, ReadsValues, Scans, reply_of}
use Rattle.mc_theory.specs.Readings.{Reading}
use Rattle.mc_words.specs.Keys.{stripe_of}
use Rattle.mc_words.specs.declared.history.Reply.{Reply}
use Rattle.mc_words.specs.declared.place.Place.{Place}
use Rattle.mc_words.specs.declared.shape.Shape.{Shape}
use Rattle.mc_theory.specs.declared.access.Access.TheVariants.{Version, Key, Stamp, Moment}

-- the version is to be read again; t tries are left beside this one, whose first version was x; a hit has read all that its item holds
abbrev pub RemainderAtLast : (V : ℕ) → Shape → ℕ → ℕ → ℕ → Option ℕ → List ℕ → ℕ → List Reading → Reply V → Type 0
RemainderAtLast V sh k t x hit held at rs reply =
    (last : Reading) × (rest : List Reading) × (rs ≡ last ∷ rest) × (last.access ≡ Version (stripe_of sh k)) × (
    ((last.word ≢ x) × IsLookup V sh k t rest reply) ⊎
    ((last.word ≡ x) × MarksHit hit rest × (reply ≡ reply_of hit held at)))

abbrev pub RemainderAtMoment : (V : ℕ) → Shape → ℕ → ℕ → ℕ → Option ℕ → List ℕ → List Reading → Reply V → Type 0
RemainderAtMoment V sh k t x hit held rs reply =
    (mid : Reading) × (rest : List Reading) × (rs ≡ mid ∷ rest) × (mid.access ≡ Moment) × RemainderAtLast V sh k t x hit held mid.word rest reply

-- the stamp of the item is to be read; these are the words of its value
abbrev pub RemainderAtStamp : (V : ℕ) → Shape → ℕ → ℕ → ℕ → ℕ → List ℕ → List Reading → Reply V → Type 0
RemainderAtStamp V sh k t x i v rs reply =
    (r : Reading) × (rest : List Reading) × (rs ≡ r ∷ rest) × (r.access ≡ Stamp i) × RemainderAtMoment V sh k t x (Some i) (v ++ r.word ∷ []) rest reply

-- these value words were read of the item
abbrev pub RemainderAtValues : (V : ℕ) → Shape → ℕ → ℕ → ℕ → ℕ → List ℕ → List Reading → Reply V → Type 0
RemainderAtValues V sh k t x i got rs reply =
    (xs : List Reading) × (more : List ℕ) × (rest : List Reading) × (rs ≡ xs ++ rest) × (length (got ++ more) ≡ V) ×
    ReadsValues i (suc (length got)) xs more × RemainderAtStamp V sh k t x i (got ++ more) rest reply

abbrev pub RemainderAtHit : (V : ℕ) → Shape → ℕ → ℕ → ℕ → Option ℕ → List Reading → Reply V → Type 0
RemainderAtHit V sh k t x None rs reply = RemainderAtMoment V sh k t x None [] rs reply
RemainderAtHit V sh k t x (Some i) rs reply = RemainderAtValues V sh k t x i [] rs reply

-- these slots are to be read
abbrev pub RemainderAtSlots : (V : ℕ) → Shape → ℕ → ℕ → ℕ → List Place → List Reading → Reply V → Type 0
RemainderAtSlots V sh k t x ps rs reply =
    (scan : List Reading) × (hit : Option ℕ) × (rest : List Reading) × (rs ≡ scan ++ rest) × Scans sh k ps scan hit × RemainderAtHit V sh k t x hit rest reply

-- the key word of an item that a slot names is to be read
abbrev pub RemainderAtKey : (V : ℕ) → Shape → ℕ → ℕ → ℕ → ℕ → List Place → List Reading → Reply V → Type 0
RemainderAtKey V sh k t x i ps rs reply =
    (s : Reading) × (rest : List Reading) × (rs ≡ s ∷ rest) × (s.access ≡ Key i) × (
    ((s.word ≡ k) × RemainderAtValues V sh k t x i [] rest reply) ⊎
    ((s.word ≢ k) × RemainderAtSlots V sh k t x ps rest reply))
