-- Keys are looked up one after the other.
use Rattle.std.specs.Prelude.{ℕ, ◌≡◌, ◌*◌, ◌++◌, List, drop, take}
use Rattle.mc_door.specs.Roles.{Role}
use Rattle.cefrodil.specs.Many.{HaveLooked}
use Rattle.cefrodil.specs.declared.many.RawAnswer.{RawAnswer}

-- this many keys have been looked up: with lookups of the others, from here on, all have
pub record AreLookedUpTo (words : ℕ) (first now : Role) (keys old values : List ℕ) (answers : List RawAnswer) (n : ℕ) : Type 0 where
  pub later : drop (n * words) values ≡ drop (n * words) old
  pub so_far : (h' : Role) (new : List ℕ) (more : List RawAnswer) → HaveLooked words now h' (drop n keys) (drop (n * words) old) new more
      → HaveLooked words first h' keys old (take (n * words) values ++ new) (take n answers ++ more)
