use Rattle.std.proofs.Common.{◌≡◌, length}
use Rattle.mc_script.specs.Lines.{IsUnfinished}
use Rattle.mc_script.proofs.line.read_line.Given as goal

abbrev pub invariant-bytes : goal.invariant-bytes
invariant-bytes g l = record {
  count : length l.line.items ≡ l.counter;
  unfinished : IsUnfinished (g.R.Read.remaining l.initial.reader) (g.R.Read.remaining l.reader) l.line.items;
}
