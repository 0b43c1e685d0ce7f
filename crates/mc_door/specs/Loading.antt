-- A cache that was opened with entries, given one after the other as words.
use Rattle.std.specs.Prelude.{ℕ, zero, suc, ◌≡◌, All, List, [], ◌∷◌, drop, take}
use Rattle.mc_plan.specs.declared.answer.Why.{Why}
use Rattle.mc_words.specs.declared.history.Change.{Change}
use Rattle.mc_shared.specs.Records.{ReaderRecord}
use Rattle.mc_shards.specs.Loadings.{HaveLoaded, HoldEntries}
use Rattle.mc_shards.specs.Plain.{seens}
use Rattle.mc_shards.specs.Sharded.{Sharded}

-- this many entries: each is its key, and then the words of its value
abbrev pub entries_in : ℕ → ℕ → List ℕ → List (ℕ × List ℕ)
entries_in V zero words = []
entries_in V (suc n) [] = []
entries_in V (suc n) (key ∷ words) = (key, take V words) ∷ entries_in V n (drop V words)

-- these passes of new shards have seen the puts of these entries, each in its key's shard, and nothing else. The entries that were left are
-- named, with the reason
pub record HaveSeenLoads (V : ℕ) (s : Sharded) (entries : List (ℕ × List ℕ)) (left : List (ℕ × Why)) (passes : List (List ReaderRecord)) : Type 0 where
  pub loaded : HaveLoaded V s.shape entries s.tables passes left
  pub histories : List (List (Change V))
  pub plain : HoldEntries V s.shape entries histories left
  pub seen : All (λ rs. seens V rs ≡ histories) passes
