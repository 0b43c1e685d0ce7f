-- The last moments of shards, as they are looked up.
use Rattle.std.proofs.Common.{ℕ, ◌≡◌, ◌<◌, List, length, get_or, set, inl, inr, subst, sym, ◌∙◌, arith}
use Rattle.std.proofs.lemmas.Bool.{cases_eq}
use Rattle.std.proofs.lemmas.List.{get_or-set_other, get_or-set_same, length-set}
use Rattle.mc_words.specs.Keys.{shard_of}
use Rattle.mc_words.specs.declared.mix.Mix.{Mix}
use Rattle.mc_shards.specs.Sharded.{Sharded, shard_in}
use Rattle.mc_load.specs.LastMoments.{IsLastOf, IsLookedUp}
use Rattle.mc_load.specs.Inside.Lasts.{AreLasts}

-- the shard of a key
pub its_shard : (V : ℕ) (s : Sharded) (mix : Mix) (shards : ℕ) (lasts : List ℕ) (k n : ℕ) → AreLasts V s mix shards lasts → n ≡ shard_of mix shards k → shard_in s k ≡ n
its_shard V s mix shards lasts k n all e =
    let same : shard_of s.shape.mix (length s.tables) k ≡ shard_of mix shards k = λ i. shard_of (all.mixed i) (all.many i) k in same ∙ sym e

-- nothing was looked up yet
pub lasts_none : (V : ℕ) (s : Sharded) (mix : Mix) (shards : ℕ) (lasts : List ℕ) → s.shape.mix ≡ mix → length s.tables ≡ shards → ((n : ℕ) → n < length lasts → get_or lasts n 0 ≡ 0) → AreLasts V s mix shards lasts
lasts_none V s mix shards lasts mixes many none = record { mixed = mixes; many = many; each = λ n low. inl (none n low) }

-- what was looked up of one shard is written
pub last_written : (V : ℕ) (s : Sharded) (lasts : List ℕ) (n x k : ℕ) → n < length lasts → IsLookedUp V s n x → IsLastOf V s k (get_or lasts k 0) → IsLastOf V s k (get_or (set lasts n x) k 0)
last_written V s lasts n x k low one was =
    elim (cases_eq k n) [
      | inl same ↦ inr (subst (λ (j : ℕ). IsLookedUp V s j (get_or (set lasts n x) j 0)) (sym same) (subst (IsLookedUp V s n) (sym (get_or-set_same lasts n x 0 low)) one))
      | inr apart ↦ subst (IsLastOf V s k) (sym (get_or-set_other lasts n k x 0 apart)) was
    ]

pub lasts_written : (V : ℕ) (s : Sharded) (mix : Mix) (shards : ℕ) (lasts : List ℕ) (n x : ℕ) → n < length lasts → IsLookedUp V s n x → AreLasts V s mix shards lasts → AreLasts V s mix shards (set lasts n x)
lasts_written V s mix shards lasts n x low one all = record {
  mixed = all.mixed;
  many = all.many;
  each = λ k under. last_written V s lasts n x k low one (all.each k (omega (arith, under, length-set {A = ℕ} lasts n x)));
}

-- and that of another stays known
pub known_written : (V : ℕ) (s : Sharded) (lasts : List ℕ) (n x k : ℕ) → n < length lasts → IsLookedUp V s n x → IsLookedUp V s k (get_or lasts k 0) → IsLookedUp V s k (get_or (set lasts n x) k 0)
known_written V s lasts n x k low one was =
    elim (cases_eq k n) [
      | inl same ↦ subst (λ (j : ℕ). IsLookedUp V s j (get_or (set lasts n x) j 0)) (sym same) (subst (IsLookedUp V s n) (sym (get_or-set_same lasts n x 0 low)) one)
      | inr apart ↦ subst (IsLookedUp V s k) (sym (get_or-set_other lasts n k x 0 apart)) was
    ]

-- so that of a key
pub known_here : (V : ℕ) (s : Sharded) (lasts : List ℕ) (k n : ℕ) → shard_in s k ≡ n → IsLookedUp V s n (get_or lasts n 0) → IsLookedUp V s (shard_in s k) (get_or lasts (shard_in s k) 0)
known_here V s lasts k n e one = subst (λ (j : ℕ). IsLookedUp V s j (get_or lasts j 0)) (sym e) one
