-- Puts of many entries in one call: one put after the other, in the order of the entries.
use Rattle.std.specs.Prelude.{ℕ, ◌≡◌, List, [], ◌∷◌, Result}
use Rattle.mc_words.specs.declared.history.Change.{Change}
use Rattle.mc_words.specs.declared.shape.Shape.{Shape}
use Rattle.mc_plan.specs.WholeCalls.{PutCall}
use Rattle.mc_plan.specs.declared.answer.Answer.TheVariants as answer
use Rattle.mc_plan.specs.declared.answer.Put.{Put}
use Rattle.mc_plan.specs.declared.answer.PutError.{PutError}
use Rattle.mc_shared.specs.Records.{WriterRecord}
use Rattle.mc_writer.specs.WriterCalls.{HasCalled}
use Rattle.mc_cache.specs.Failing.{PutFails, version_changes}
use Rattle.mc_cache.specs.Plain.{PutMeans, history}

-- for each of the things a step was made, in their order, with these answers: each begins where the one before it ended
abbrev pub InOrder : {A B S : Type 0} → (A → S → S → B → Type 0) → List A → S → S → List B → Type 0
InOrder Step [] s s' [] = s' ≡ s
InOrder {S = S} Step (a ∷ more) s s' (b ∷ later) = (mid : S) × Step a s mid b × InOrder Step more mid s' later
InOrder Step _ s s' _ = ⊥

-- a put of the entry was made, with this answer
pub record HasPutEntry (V : ℕ) (sh : Shape) (entry : ℕ × List ℕ) (w w' : WriterRecord) (told : Result Put PutError) : Type 0 where
  pub called : HasCalled V sh (PutCall entry.0 entry.1) w w' (answer.Put told)
  pub fails : PutFails sh (history V w') (version_changes V w') entry.0 told

-- the entries were put in order
abbrev pub HavePut : (V : ℕ) → Shape → List (ℕ × List ℕ) → WriterRecord → WriterRecord → List (Result Put PutError) → Type 0
HavePut V sh entries w w' told = InOrder (HasPutEntry V sh) entries w w' told

-- and what that means
abbrev pub PutsMean : (V : ℕ) → List (Change V) → List (Change V) → List (ℕ × List ℕ) → List (Result Put PutError) → Type 0
PutsMean V h h' entries told = InOrder (λ entry b b' answer. PutMeans V b b' entry.0 entry.1 answer) entries h h' told
