-- What is printed for a shape that is refused, without the line's end.
use Rattle.std.specs.Prelude.{ℕ, List, codes}
use Rattle.mc_words.specs.declared.shape.ShapeError.{ShapeError}
use Rattle.mc_words.specs.declared.shape.ShapeError.TheVariants as shape

abbrev pub shape_text : ShapeError → List ℕ
shape_text shape.Buckets = codes "buckets must be a power of two from 2 to 1048576"
shape_text shape.Items = codes "items must be from 1 to four times the buckets"
shape_text shape.Stripes = codes "stripes must be a power of two from 1 to 65536"
shape_text shape.Depth = codes "depth must be from 0 to 8"
shape_text shape.Tries = codes "tries must be from 1 to 64"
shape_text shape.Limit = codes "limit must be from 0 to 4611686018427387904"
