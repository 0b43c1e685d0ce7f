-- The laws of histories that callers need: what a change makes of the map, and how long an answer stays true.
use Rattle.std.specs.Prelude.{ℕ, ◌≡◌, ◌≢◌, ◌+◌, ◌⊎◌, List, [], ◌∷◌, ◌++◌, length, Some, None}
use Rattle.mc_words.specs.History.{map_value, IsTrueAnswer}
use Rattle.mc_words.specs.declared.history.Change.{Change}
use Rattle.mc_words.specs.declared.history.Change.TheVariants.{Put, Remove, Evict}
use Rattle.mc_words.specs.declared.history.Reply.{Reply}
use Rattle.mc_words.specs.declared.history.Reply.TheVariants.{Found, Busy}
use Rattle.mc_theory.specs.Plain.{IsBetween}
use Rattle.mc_cache.specs.Plain.{Begins, TellsNow}

abbrev pub key_of : {V : ℕ} → Change V → ℕ
key_of (Put k v) = k
key_of (Remove k) = k
key_of (Evict k) = k

-- at the opening the map is empty; a put sets its key to the value, with the moment of the put after it, a removal and an eviction take
-- their key out, and other keys stay as they are
pub record MapsFollow (V : ℕ) : Type 0 where
  pub empty : (k : ℕ) → map_value {V = V} [] k ≡ None
  pub put : (h : List (Change V)) (k : ℕ) (v : List ℕ) → map_value (h ++ Put k v ∷ []) k ≡ Some (v ++ (length h + 1) ∷ [])
  pub removed : (h : List (Change V)) (k : ℕ) → map_value (h ++ Remove k ∷ []) k ≡ None
  pub evicted : (h : List (Change V)) (k : ℕ) → map_value (h ++ Evict k ∷ []) k ≡ None
  pub others : (h : List (Change V)) (c : Change V) (k : ℕ) → k ≢ key_of c → map_value (h ++ c ∷ []) k ≡ map_value h k

-- an answer stays true as the history grows
abbrev pub AnswersStay : ℕ → Type 0
AnswersStay V = (h h' : List (Change V)) (k : ℕ) (reply : Reply V) → Begins h h' → IsTrueAnswer h k reply → IsTrueAnswer h' k reply

-- an answer at the end of the history is what the map holds
abbrev pub LastAnswersTellNow : ℕ → Type 0
LastAnswersTellNow V = (h : List (Change V)) (k : ℕ) (reply : Reply V) → IsTrueAnswer h k reply → IsBetween (length h) (length h) reply → (reply ≡ Busy) ⊎ TellsNow h k reply

-- and if the map holds a value, the answer has it, with its stamp
abbrev pub HeldIsFound : ℕ → Type 0
HeldIsFound V =
    (h : List (Change V)) (k : ℕ) (v : List ℕ) (since : ℕ) (reply : Reply V) → map_value h k ≡ Some (v ++ since ∷ []) → TellsNow h k reply → reply ≡ Found v (length h) since

-- two histories that begin each other are one
abbrev pub BeginnersAreSame : ℕ → Type 0
BeginnersAreSame V = (h h' : List (Change V)) → Begins h h' → Begins h' h → h' ≡ h

-- what callers need to know of histories
pub record HistoryLaws (V : ℕ) : Type 0 where
  pub maps : MapsFollow V
  pub stay : AnswersStay V
  pub last : LastAnswersTellNow V
  pub found : HeldIsFound V
  pub same : BeginnersAreSame V
