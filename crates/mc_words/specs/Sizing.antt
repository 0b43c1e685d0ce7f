-- The shape that is chosen for a number of items.
use Rattle.std.specs.Prelude.{ℕ, ◌≡◌, ◌*◌, ◌^◌, ◌<◌, ◌≤◌, min}
use Rattle.mc_words.specs.Shapes.{IsShape}
use Rattle.mc_words.specs.declared.mix.Mix.TheVariants.{Fmix}
use Rattle.mc_words.specs.declared.shape.Shape.{Shape}

-- this many items fill at most nine tenths of the slots, of which each bucket has four
abbrev pub LeavesRoom : ℕ → ℕ → Type 0
LeavesRoom items buckets = 10 * items ≤ 36 * buckets

-- there are items, and not too many for the greatest table
abbrev pub CanBeSized : ℕ → Type 0
CanBeSized items = (1 ≤ items) × LeavesRoom items (2 ^ 20)

-- the shape has these items and the least number of buckets that leaves room, a stripe a bucket but 8192 at most, and the usual bounds
pub record IsSizedFor (n : ℕ) (sh : Shape) : Type 0 where
  pub shape : IsShape sh
  pub items : sh.items ≡ n
  pub room : LeavesRoom n sh.buckets
  pub least : 2 < sh.buckets → 36 * sh.buckets < 2 * (10 * n)
  pub stripes : sh.stripes ≡ min sh.buckets 8192
  pub depth : sh.depth ≡ 5
  pub tries : sh.tries ≡ 8
  pub limit : sh.limit ≡ 2 ^ 62
  pub mix : sh.mix ≡ Fmix
