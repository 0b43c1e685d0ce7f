-- A table under its rule with a reader's seat, and that there is one.
use Rattle.std.proofs.Common.{◌≡◌, ◌≢◌, ℕ, ◌<◌, List, [], ◌∷◌, ◌++◌, length, get_or, set, refl, arith}
use Rattle.std.specs.Prelude.{replicate}
use Rattle.mc_words.specs.Places.{all_words}
use Rattle.mc_theory.proofs.Invariant.EachState.{zeros}
use Rattle.mc_shared.proofs.EachStep.{begins}
use Rattle.mc_shared.proofs.CutSeats.{splits_new}
use mathlib.Core.Option.{some}
use lib.ListN.{get_elem?}
use Rattle.atomic_table.specs.Table as table
use Rattle.atomic_table.specs.Table.{opening}
use Rattle.mc_theory.specs.Lists.{Made}
use Rattle.mc_theory.specs.Readings.{Reading}
use Rattle.mc_shared.specs.declared.layout.Layout.{Layout}
use Rattle.mc_shared.specs.Views.{Tally, tally_for, View, new_writer_view, writer_view, reader_view}
use Rattle.mc_shared.specs.TableRule.{Ruled}

module _ (l : Layout) (id slots : ℕ) (c : List (ℕ × Unit {0})) (number : ℕ) (front : List Made) (done : List Reading) where
  -- a table in which the writer's seat is another one, and this is what this seat knows
  pub record Stands (s : table.State (Unit {0}) View) (n : ℕ) : Type 0 where
    pub ruled : Ruled l s
    pub long : length s.homes ≡ slots
    pub mine : get_elem? s.views id ≡ some (reader_view l number front done)
    pub fits : get_or s.words n 0 < 18446744073709551616
    pub writer : ℕ
    pub other : writer ≢ id
    pub acts : List Made
    pub tally : Tally
    pub writes : get_elem? s.views writer ≡ some (writer_view l acts tally)

-- there is such a table: a new one, with a reader's seat
unfoldable pub new_words : Layout → List ℕ
new_words l = replicate (all_words l.width l.shape) 0

unfoldable pub new_table : Layout → table.State (Unit {0}) View
new_table l = record { words = new_words l; homes = []; views = set (new_writer_view l ∷ []) 0 (writer_view l [] (tally_for 1)) ++ reader_view l 0 [] [] ∷ [] }

pub stands_new : (l : Layout) (n : ℕ) → Stands l 1 0 [] 0 [] [] (new_table l) n
unfolding new_table new_words
stands_new l n = record {
  ruled = splits_new l 0 0 (opening (new_words l) [] (new_writer_view l)) (begins l (new_words l) refl) refl;
  long = refl;
  mine = refl;
  fits = omega (arith, zeros (all_words l.width l.shape) n);
  writer = 0;
  other = λ e. omega (arith, e);
  acts = [];
  tally = tally_for 1;
  writes = refl;
}
