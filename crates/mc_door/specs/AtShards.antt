-- A call by a pass of shards, or by a holder of their turns: it is made at the shard of its key.
use Rattle.std.specs.Prelude.{ℕ, ◌≡◌, List, Result, Ok, Err}
use Rattle.mc_words.specs.declared.history.Change.{Change}
use Rattle.mc_words.specs.declared.history.Reply.{Reply}
use Rattle.mc_shared.specs.Records.{ReaderRecord}
use Rattle.mc_writer.specs.WriterCalls.{HasGot}
use Rattle.mc_cache.specs.Plain.{TellsNow}
use Rattle.mc_cache.specs.TurnCalls.{Contract, HasMade}
use Rattle.mc_cache.specs.declared.desk.DeskError.{DeskError}
use Rattle.mc_cache.specs.declared.desk.DeskError.TheVariants as desk
use Rattle.mc_shards.specs.Holding.{Holding, IsHolderOf, histories}
use Rattle.mc_shards.specs.Plain.{history_of, seens}
use Rattle.mc_shards.specs.Sharded.{ArePassOf, ChangesAt, Sharded, shard_in}

-- only the pass's record of the key's shard changes, as this says, and so does what is seen of that shard
pub record IsAtShard (V : ℕ) (s : Sharded) (key : ℕ) (rs rs' : List ReaderRecord) (Goes : ReaderRecord → ReaderRecord → Type 0) (Means : List (Change V) → List (Change V) → Type 0) : Type 0 where
  pub of : ArePassOf s rs'
  pub goes : ChangesAt (shard_in s key) rs rs' Goes
  pub means : ChangesAt (shard_in s key) (seens V rs) (seens V rs') Means

-- a holder looks a key up: the reply is what the map holds now, and no history changes
pub record LooksHeld (V : ℕ) (s : Sharded) (h h' : Holding) (key : ℕ) (reply : Reply V) : Type 0 where
  pub of : IsHolderOf s h'
  pub readers : h'.readers ≡ h.readers
  pub got : ChangesAt (shard_in s key) h.writers h'.writers (λ w w'. HasGot V w.of.layout.shape key w w' reply)
  pub plain : TellsNow (history_of s.shape.mix (histories V h) key) key reply × (histories V h' ≡ histories V h)

-- a holder makes a call at the writer of the key's shard
pub record HasMadeHeld {V : ℕ} {T E : Type 0} (c : Contract V T E) (s : Sharded) (key : ℕ) (h h' : Holding) (told : Result T E) : Type 0 where
  pub of : IsHolderOf s h'
  pub readers : h'.readers ≡ h.readers
  pub made : ChangesAt (shard_in s key) h.writers h'.writers (λ w w'. HasMade c w.of told w w')

-- it is never held
abbrev pub HasMadeHolding : {V : ℕ} {T E : Type 0} → Contract V T E → Sharded → ℕ → Holding → Holding → Result T (DeskError E) → Type 0
HasMadeHolding c s key h h' (Ok done) = HasMadeHeld c s key h h' (Ok done)
HasMadeHolding c s key h h' (Err desk.Held) = ⊥
HasMadeHolding c s key h h' (Err (desk.Call why)) = HasMadeHeld c s key h h' (Err why)
