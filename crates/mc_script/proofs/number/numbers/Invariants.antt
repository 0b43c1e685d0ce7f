use Rattle.std.proofs.Common.{◌≡◌, length}
use Rattle.mc_script.specs.Words.{words_of}
use Rattle.mc_script.proofs.NumberLists.{Counted}
use Rattle.mc_script.proofs.number.numbers.Given as goal

abbrev pub invariant-words : goal.invariant-words
invariant-words g l = record {
  counted : Counted (words_of l.fn.words) (words_of l.rest) l.i l.are_good l.found;
  size : length l.found ≡ g.row.N;
}
