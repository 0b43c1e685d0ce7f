use Rattle.std.proofs.Common.{◌≡◌, ◌≢◌, ◌≤◌, ◌∙◌, ◌++◌, ◌∷◌, [], length, length-append, true, false, Some, rules, arith}
use Rattle.mc_script.specs.Lines.{is_over}
use Rattle.mc_script.proofs.FirstLines.{fits}
use Rattle.mc_script.proofs.ReadLines.{unfinished_more, gives_too_long_end, gives_last, gives_ended, gives_over}
use Rattle.mc_script.proofs.line.read_line.Goals as goal

pub returns-then-len-gt-LONGEST-clause-gives : goal.returns-then-len-gt-LONGEST-clause-gives
returns-then-len-gt-LONGEST-clause-gives g c =
    let read = rw c.in-None.is at c.in_ok-next_byte.ensures in
    gives_too_long_end _ _ _ c.bytes.line.items c.bytes.invariant.unfinished read.0 read.1 (search rules)

pub returns-in-None-clause-gives : goal.returns-in-None-clause-gives
returns-in-None-clause-gives g c =
    let read = rw c.in-None.is at c.in_ok-next_byte.ensures in
    let short : length c.bytes.line.items ≤ 4096 = search rules in
    rw c.is_empty.ensures (gives_last _ _ _ c.bytes.line.items c.bytes.invariant.unfinished read.0 read.1 short)

pub returns-in-Some-eq10-clause-gives : goal.returns-in-Some-eq10-clause-gives
returns-in-Some-eq10-clause-gives g c =
    let feed : c.in_ok-next_byte.field-0 ≡ Some 10 = search rules in
    gives_ended _ _ _ c.bytes.line.items _ c.bytes.invariant.unfinished (rw feed at c.in_ok-next_byte.ensures) c.trim_return.ensures

pub returns-in-Some-eq10-clause-short : goal.returns-in-Some-eq10-clause-short
returns-in-Some-eq10-clause-short g c = λ _. rw c.trim_return.ensures (fits c.bytes.line.items c.bytes.invariant.unfinished.short)

pub returns-then-is_over-clause-gives : goal.returns-then-is_over-clause-gives
returns-then-is_over-clause-gives g c =
    let read = rw c.in-Some.is at c.in_ok-next_byte.ensures in
    let pushed : c.push.new.self.items ≡ c.bytes.line.items ++ c.in-Some.byte ∷ [] = c.push.ensures.items in
    let over : is_over c.push.new.self.items ≡ true = search rules in
    let other : c.in-Some.byte ≢ 10 = search rules in
    rw pushed (gives_over _ _ _ c.bytes.line.items c.in-Some.byte c.bytes.invariant.unfinished read other (rw pushed at over))

pub bytes-preserved : goal.bytes-preserved
bytes-preserved g c =
    let read = rw c.in-Some.is at c.in_ok-next_byte.ensures in
    let pushed : c.push.new.self.items ≡ c.bytes.line.items ++ c.in-Some.byte ∷ [] = c.push.ensures.items in
    let short : is_over c.push.new.self.items ≡ false = search rules in
    let other : c.in-Some.byte ≢ 10 = search rules in
    record {
      count = rw pushed (length-append c.bytes.line.items (c.in-Some.byte ∷ []) ∙ omega (arith, c.bytes.invariant.count));
      unfinished = rw pushed (unfinished_more _ _ _ c.bytes.line.items c.in-Some.byte c.bytes.invariant.unfinished read other (rw pushed at short));
    }
