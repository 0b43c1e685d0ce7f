-- What a lookup means that marks nothing: by a holder, or by a pass in a turn.
use Rattle.std.specs.Prelude.{ℕ, ◌≡◌, List, MatchOption, Option, Some, None, length}
use Rattle.mc_cache.specs.Plain.{PeekMeans, TellsNow}
use Rattle.mc_cache.specs.Turns.{HasTriedToPeek}
use Rattle.mc_words.specs.declared.history.Reply.{Reply}
use Rattle.mc_shards.specs.Holding.{histories}
use Rattle.mc_shards.specs.Plain.{history_of}
use Rattle.mc_door.specs.AtShards.{IsAtShard}
use Rattle.mc_door.specs.Looks.{reply_of, LeavesUnlessFound}
use Rattle.mc_door.specs.Roles.{Role, Tries, Holds}
use Rattle.mc_door.specs.Tellings.{lookup_told, plain}
use Rattle.mc_door.specs.Tells.{HasTold, Tells}
use Rattle.mc_door.specs.declared.looked.Looked.{Looked}
use Rattle.mc_door.specs.declared.status.TheConstants.{HELD}
use Rattle.mc_door.specs.declared.outcome.Outcome.{Outcome}

-- the reply is what the map holds now. There is none if the try for the turn did not win
abbrev pub Peeks : (V : ℕ) → Role → Role → ℕ → Option (Reply V) → Type 0
Peeks V (Tries s rs) (Tries s' rs') key answer = (s' ≡ s) × IsAtShard V s key rs rs' (λ r r'. HasTriedToPeek V r r' answer) (λ h h'. PeekMeans V h h' key answer)
Peeks V (Holds s h) (Holds s' h') key answer = (s' ≡ s) × (h' ≡ h) × MatchOption answer ⊥ (λ reply. TellsNow (history_of s.shape.mix (histories V h) key) key reply)
Peeks V _ _ key answer = ⊥

-- the answer that was returned so; the value, if there is one, is in these words
abbrev pub answer_of : (V : ℕ) → List ℕ → Option Looked → Option (Reply V)
answer_of V words (Some looked) = Some (reply_of V words looked)
answer_of V words None = None

-- the words are written only if a value was found
abbrev pub LeavesWords : List ℕ → List ℕ → Option Looked → Type 0
LeavesWords old new (Some looked) = LeavesUnlessFound old new looked
LeavesWords old new None = new ≡ old

abbrev pub PeekWrites : (V : ℕ) → Role → Role → ℕ → List ℕ → List ℕ → Option Looked → Type 0
PeekWrites V role role' key old new told = (length old ≡ V) × Peeks V role role' key (answer_of V new told) × LeavesWords old new told

abbrev pub peek_told : Option Looked → Outcome
peek_told (Some looked) = lookup_told looked
peek_told None = plain HELD

abbrev pub PeekTells : (V : ℕ) → Role → Role → Type 0 → ℕ → List ℕ → List ℕ → Outcome → Type 0
PeekTells V role role' Same key old new told =
    Tells V (length old) (Same × (new ≡ old)) (HasTold peek_told (PeekWrites V role role' key old new) told) told
