-- What shards opened with entries hold.
use Rattle.std.specs.Prelude.{ℕ, ◌≡◌, ◌+◌, ◌==◌, List, [], ◌∷◌, ◌++◌, All, EachIndex, Result, length, map, reverse, slice_index_or}
use Rattle.std.specs.Map.{lookup}
use Rattle.mc_words.specs.History.{IsLegal, value_held}
use Rattle.mc_words.specs.Keys.{shard_of}
use Rattle.mc_words.specs.declared.history.Change.{Change}
use Rattle.mc_words.specs.declared.history.Change.TheVariants as change
use Rattle.mc_words.specs.declared.shape.Shape.{Shape}
use Rattle.mc_plan.specs.Loads.{left_by}
use Rattle.mc_plan.specs.WholeCalls.{KeptCall}
use Rattle.mc_plan.specs.declared.answer.Answer.TheVariants as answer
use Rattle.mc_plan.specs.declared.answer.Put.{Put}
use Rattle.mc_plan.specs.declared.answer.Why.{Why}
use Rattle.mc_shared.specs.Records.{Opening, ReaderRecord, WriterRecord, writer_record}
use Rattle.mc_writer.specs.WriterCalls.{HasCalled}
use Rattle.mc_cache.specs.Plain.{TakesOrNames}
use Rattle.mc_shards.specs.Own.{own_of}
use Rattle.mc_shards.specs.Plain.{history_of}
use Rattle.mc_shards.specs.Sharded.{ChangesAt}

-- a put of each of the entries
abbrev pub puts_of : {V : ℕ} → List (ℕ × List ℕ) → List (Change V)
puts_of es = map (λ e. change.Put e.0 e.1) es

-- of shards with these histories: some of the entries are kept, and the others are named by their indices. The history of each shard is
-- the puts of its own kept entries, in their order. So the one map holds of each key the value of the last kept entry that has this key
pub record HoldEntries (V : ℕ) (sh : Shape) (es : List (ℕ × List ℕ)) (hs : List (List (Change V))) (left : List (ℕ × Why)) : Type 0 where
  pub kept : List (ℕ × List ℕ)
  pub each : TakesOrNames {V = V} 0 es (puts_of kept) left
  pub shards : EachIndex hs (λ n. slice_index_or hs n [] ≡ puts_of (own_of sh.mix (length hs) n kept))
  pub values : (k : ℕ) → value_held (history_of sh.mix hs k) k ≡ lookup (λ q. k == q) (reverse kept)
  pub legal : All (IsLegal sh.items) hs

-- the writers of new tables
abbrev pub new_writers : List Opening → List WriterRecord
new_writers tables = map (λ o. writer_record o [] []) tables

-- from these writers on, one of each shard, each entry in order is one whole call: a put by the writer of the key's shard that evicts
-- nothing. An entry that is not put is left, with the first reason that applies. The first entry has the index n
abbrev pub ShardsLoad : (V : ℕ) → Shape → List WriterRecord → ℕ → List (ℕ × List ℕ) → List WriterRecord → List (ℕ × Why) → Type 0
ShardsLoad V sh ws n [] ws' left = (ws' ≡ ws) × (left ≡ [])
ShardsLoad V sh ws n (e ∷ es) ws' left =
    (told : Result Put Why) × (next : List WriterRecord) × (others : List (ℕ × Why)) × (left ≡ left_by n told ++ others) ×
    ChangesAt (shard_of sh.mix (length ws) e.0) ws next (λ w w'. HasCalled V sh (KeptCall e.0 e.1) w w' (answer.Kept told)) × ShardsLoad V sh next (n + 1) es ws' others

-- the readers of the pass have seen all that the writers did
abbrev pub HaveMet : List WriterRecord → List ReaderRecord → Type 0
HaveMet ws rs = map (λ r. r.front) rs ≡ map (λ w. w.acts) ws

-- new shards of these tables have loaded the entries, and each pass has seen all of it
abbrev pub HaveLoaded : (V : ℕ) → Shape → List (ℕ × List ℕ) → List Opening → List (List ReaderRecord) → List (ℕ × Why) → Type 0
HaveLoaded V sh es tables passes left = (ws : List WriterRecord) × ShardsLoad V sh (new_writers tables) 0 es ws left × All (HaveMet ws) passes
