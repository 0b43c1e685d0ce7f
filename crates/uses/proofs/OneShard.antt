-- What a put in a shard gives the one map.
use Rattle.std.proofs.Common.{ℕ, ◌≡◌, ◌∙◌, List, [], ◌∷◌, Some, Ok, ap, length, subst, sym}
use Rattle.std.proofs.lemmas.List.{length-map}
use Rattle.std.proofs.lemmas.Option.{slice_get_within}
use Rattle.mc_words.specs.Keys.{shard_of}
use Rattle.mc_shared.specs.Records.{ReaderRecord}
use Rattle.mc_cache.specs.Change.{Change}
use Rattle.mc_cache.specs.Put.{Put}
use Rattle.mc_cache.specs.Plain.{moment_of, seen}
use Rattle.mc_shards.specs.OneMap.{OneMap}
use Rattle.mc_shards.specs.Plain.{PutMeans, TurnMeans, plain_of, seens}
use Rattle.mc_shards.specs.Sharded.{ArePassOf, ChangesAt, Sharded, shard_in}

-- as many histories as shards
pub as_long : (s : Sharded) (rs : List ReaderRecord) → ArePassOf s rs → length (seens 1 rs) ≡ length s.tables
as_long s rs are = length-map rs (seen 1) ∙ (sym (length-map rs (λ (r : ReaderRecord). r.of)) ∙ ap length are)

-- the shard of a key, by the histories
pub here : (s : Sharded) (hs hs' : List (List (Change 1))) (k : ℕ) (Goes : List (Change 1) → List (Change 1) → Type 0) → length hs ≡ length s.tables
    → ChangesAt (shard_in s k) hs hs' Goes → ChangesAt (shard_of s.shape.mix (length hs) k) hs hs' Goes
here s hs hs' k Goes long c = subst (λ (m : ℕ). ChangesAt (shard_of s.shape.mix m k) hs hs' Goes) (sym long) c

-- after a turn that put the key the one map holds the value
pub holds : (s : Sharded) (hs hs' : List (List (Change 1))) (k : ℕ) (told : Put) → OneMap 1 → length hs ≡ length s.tables
    → ChangesAt (shard_in s k) hs hs' (λ h h'. TurnMeans (λ a b t. PutMeans 1 a b k (70 ∷ []) t) h h' (Ok told)) → plain_of s.shape.mix hs' k ≡ Some (70 ∷ moment_of told ∷ [])
holds s hs hs' k told law long c =
    let mix = s.shape.mix in
    let at = here s hs hs' k (λ h h'. TurnMeans (λ a b t. PutMeans 1 a b k (70 ∷ []) t) h h' (Ok told)) long c in
    let within = slice_get_within hs (shard_of mix (length hs) k) at.before at.was in
    ap (λ (z : List (List (Change 1))). plain_of mix z k) at.is ∙ (law.local.own mix hs at.after k within ∙ at.goes.2.holds)
