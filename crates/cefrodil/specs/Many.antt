-- Lookups of many keys in one call. Their values are stored one after the other.
use Rattle.std.specs.Prelude.{ℕ, ◌≡◌, ◌≢◌, ◌⊎◌, ◌*◌, List, [], ◌∷◌, drop, length, take}
use mathlib.Core.Option.{Option}
use Rattle.mc_door.specs.AnySides.{role_in, width_of}
use Rattle.mc_door.specs.Means.{GetMeans}
use Rattle.mc_door.specs.Roles.{Role}
use Rattle.mc_door.specs.declared.any_side.AnySide.{AnySide}
use Rattle.mc_door.specs.declared.looked.Looked.{Looked}
use Rattle.cefrodil.specs.Calls.{Gives}
use Rattle.mc_door.specs.Tellings.{lookup_told}
use Rattle.mc_door.specs.declared.outcome.Outcome.{Outcome}
use Rattle.cefrodil.specs.declared.many.RawAnswer.{RawAnswer}
use Rattle.mc_door.specs.declared.status.TheConstants.{OK, CLOSED, COUNT, WIDTH}

-- what is returned, as one answer of many
abbrev pub answer_of : Outcome → RawAnswer
answer_of told = record { at = told.reply.at; since = told.reply.since; status = told.status; unused = 0 }

-- a lookup by a side for values of V words: this was returned
pub record HasLooked (V : ℕ) (role role' : Role) (key : ℕ) (old new : List ℕ) (answer : RawAnswer) : Type 0 where
  pub told : Looked
  pub is : answer ≡ answer_of (lookup_told told)
  pub means : GetMeans V role role' key old new told

-- one lookup for each key, in their order, each with its answer, and nothing else. The first V words are those of the first key's value
abbrev pub HaveLooked : ℕ → Role → Role → List ℕ → List ℕ → List ℕ → List RawAnswer → Type 0
HaveLooked V role role' [] old new [] = (role' ≡ role) × (new ≡ old)
HaveLooked V role role' (key ∷ keys) old new (answer ∷ answers) =
    (mid : Role) × HasLooked V role mid key (take V old) (take V new) answer × HaveLooked V mid role' keys (drop V old) (drop V new) answers
HaveLooked V role role' [] old new (answer ∷ answers) = ⊥
HaveLooked V role role' (key ∷ keys) old new [] = ⊥

-- for these numbers of keys, words of values and answers, the first that applies: there are more or fewer answers than keys, the values
-- have another width
abbrev pub IsManyMisuse : AnySide → ℕ → ℕ → ℕ → ℕ → Type 0
IsManyMisuse h keys words answers status =
    ((status ≡ COUNT) × (answers ≢ keys)) ⊎
    ((status ≡ WIDTH) × (answers ≡ keys) × (words ≢ keys * width_of h))

-- each key was looked up, or nothing was done
abbrev pub MeansMany : AnySide → AnySide → List ℕ → List ℕ → List ℕ → List RawAnswer → List RawAnswer → ℕ → Type 0
MeansMany h h' keys old new answers answers' status =
    ((status ≡ OK) × (length old ≡ length keys * width_of h) × (width_of h' ≡ width_of h) × HaveLooked (width_of h) (role_in h) (role_in h') keys old new answers') ⊎
    (IsManyMisuse h (length keys) (length old) (length answers) status × (h' ≡ h) × (new ≡ old) × (answers' ≡ answers))

abbrev pub ManyGive : Option AnySide → Option AnySide → List ℕ → List ℕ → List ℕ → List RawAnswer → List RawAnswer → ℕ → Type 0
ManyGive b b' keys old new answers answers' status =
    Gives b b' ((status ≡ CLOSED) × (new ≡ old) × (answers' ≡ answers)) (λ h h'. MeansMany h h' keys old new answers answers' status)
