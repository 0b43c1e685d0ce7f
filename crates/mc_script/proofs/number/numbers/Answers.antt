use Rattle.std.proofs.Common.{◌≡◌, ◌<◌, length, arith, sym, ◌∙◌, length-set, set}
use Rattle.mc_script.proofs.NumberLists.{counted_number, counted_other, too_few, too_many, not_all, all_numbers}
use Rattle.mc_script.proofs.LineWords.{none_found, some_found}
use Rattle.mc_script.proofs.number.numbers.Goals as goal
use Rattle.mc_script.proofs.number.numbers.Goals.{in-Some-number, in-None-number}

pub returns-in-None : goal.returns-in-None
returns-in-None g c = too_few c.words.invariant.counted c.in-None.ensures c.words-test.true

pub words-preserved : goal.words-preserved
words-preserved g c =
    let room : c.words.i < length c.words.found = omega (arith, c.words.invariant.size) in
    elim c.match-number.branch [
      | in-Some-number w ↦
          let counted = counted_number c.in-Some.word.now w.in-Some-number.value c.words.invariant.counted c.in-Some.ensures.0 w.in-Some-number.ensures room in
          let size : length (set c.words.found c.words.i w.in-Some-number.value) ≡ g.row.N = length-set c.words.found c.words.i w.in-Some-number.value ∙ c.words.invariant.size in
          rw (w.found-is, w.rest-is, w.are_good-is) (record { counted = counted; size = size })
      | in-None-number w ↦
          let counted = counted_other c.in-Some.word.now c.words.invariant.counted c.in-Some.ensures.0 w.in-None-number.ensures in
          rw (w.found-is, w.rest-is, w.are_good-is) (record { counted = counted; size = c.words.invariant.size })
    ]

pub returns-then-is_some : goal.returns-then-is_some
returns-then-is_some g c =
    let is : c.words.i ≡ g.row.N = omega arith in
    too_many c.words.invariant.counted is (some_found c.words.rest.now c.first_word-2.result c.first_word-2.ensures (sym c.is_some.ensures ∙ c.if-is_some.true))

pub returns-then-not-are_good : goal.returns-then-not-are_good
returns-then-not-are_good g c =
    let is : c.words.i ≡ g.row.N = omega arith in
    not_all c.words.invariant.counted is (none_found c.words.rest.now c.first_word-2.result c.first_word-2.ensures (sym c.is_some.ensures ∙ c.if-is_some.false)) c.if-not-are_good.true

pub returns : goal.returns
returns g c =
    let is : c.words.i ≡ g.row.N = omega arith in
    all_numbers c.words.invariant.counted is (none_found c.words.rest.now c.first_word-2.result c.first_word-2.ensures (sym c.is_some.ensures ∙ c.if-is_some.false)) c.if-not-are_good.false c.words.invariant.size
