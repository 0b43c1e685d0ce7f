-- What a lookup returns when its value is written beside its answer.
use Rattle.std.specs.Prelude.{ℕ, ◌≡◌, List}
use Rattle.mc_words.specs.declared.history.Reply.{Reply}
use Rattle.mc_words.specs.declared.history.Reply.TheVariants as reply
use Rattle.mc_door.specs.declared.looked.Looked.{Looked}
use Rattle.mc_door.specs.declared.looked.Looked.TheVariants as looked

-- the reply that was returned so; the value, if there is one, is in these words
abbrev pub reply_of : (V : ℕ) → List ℕ → Looked → Reply V
reply_of V words (looked.Found at since) = reply.Found words at since
reply_of V words (looked.Absent at) = reply.Absent at
reply_of V words looked.Busy = reply.Busy

-- the words are written only if a value was found
abbrev pub LeavesUnlessFound : List ℕ → List ℕ → Looked → Type 0
LeavesUnlessFound old new (looked.Found at since) = Unit {0}
LeavesUnlessFound old new (looked.Absent at) = new ≡ old
LeavesUnlessFound old new looked.Busy = new ≡ old
