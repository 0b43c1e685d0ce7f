-- What is always true of shards, and of the readers that a pass was given while they are opened.
use Rattle.std.specs.Prelude.{ℕ, ◌≡◌, [], All, List, length, map}
use Rattle.mc_words.specs.declared.policy.Policy.{Policy}
use Rattle.mc_words.specs.Shapes.{HasShards}
use Rattle.mc_words.specs.declared.shape.Shape.{Shape}
use Rattle.mc_shared.specs.Records.{Opening, ReaderRecord}
use Rattle.mc_shared.specs.Views.{layout_with}
use Rattle.mc_shards.specs.Lending.{Lock, table_of}
use Rattle.mc_shards.specs.Sharded.{Sharded}

abbrev pub sharded : Shape → List Opening → List Lock → Sharded
sharded sh tables locks = record { shape = sh; tables = tables; locks = locks }

-- their number is allowed, each table has the shape and all have one policy, and the n-th writer is that of the n-th table
pub record AreShards (V : ℕ) (sh : Shape) (tables : List Opening) (locks : List Lock) : Type 0 where
  pub many : HasShards (length tables)
  pub policy : Policy
  pub shapes : All (λ o. o.layout ≡ layout_with V policy sh) tables
  pub lenders : map table_of locks ≡ tables

-- one new reader of each of the tables
pub record AreDealt (tables : List Opening) (rs : List ReaderRecord) : Type 0 where
  pub of : map (λ r. r.of) rs ≡ tables
  pub fresh : All (λ r. r.front ≡ []) rs
