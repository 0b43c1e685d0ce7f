use Rattle.std.proofs.Common.{◌≡◌, ◌<◌, ◌+◌, ◌*◌, ◌%◌, ◌^◌, arith}
use Rattle.std.specs.Prelude.{bit_and}
use Rattle.std.proofs.lemmas.Nat.{and_mask}
use Rattle.mc_words.specs.Keys.{slot_word}
use Rattle.mc_words.proofs.checked.Checked.slot_parts.Goals as goal
use Rattle.mc_words.proofs.checked.Checked.slot_parts.Goals.{else-tag-lt256-via-then-tag-lt256+else-item-from, else-tag-lt256-via-else-tag-lt256}

pub returns-in_err-rest : goal.returns-in_err-rest
unfolding slot_word
returns-in_err-rest c =
    let zero : c.args.w < 1 = omega (arith, c.in_err-rest.ensures) in
    rw c.from_residual.ensures (λ tag i names. let word : c.args.w ≡ tag * 2 ^ 32 + i + 1 = names.2 in omega arith)

pub returns-then-item-from : goal.returns-then-item-from
unfolding slot_word
returns-then-item-from c =
    let rest = c.in_ok-rest.ensures in
    let low : bit_and c.in_ok-rest.rest 4294967295 ≡ c.in_ok-rest.rest % 2 ^ 32 = and_mask c.in_ok-rest.rest 32 in
    let below = c.if-item-from.true in
    (c.if-tag-lt256.true, omega (arith, below, c.from.ensures), omega (arith, low, rest.0, rest.1))

pub returns-else-tag-lt256 : goal.returns-else-tag-lt256
unfolding slot_word
returns-else-tag-lt256 c = λ tag i names.
    let rest = c.in_ok-rest.ensures in
    let low : bit_and c.in_ok-rest.rest 4294967295 ≡ c.in_ok-rest.rest % 2 ^ 32 = and_mask c.in_ok-rest.rest 32 in
    let small = c.args.self.now.sound in
    let word : c.args.w ≡ tag * 2 ^ 32 + i + 1 = names.2 in
    let item : i < 2 ^ 32 = omega (arith, names.1, small.items.1, small.buckets.1) in
    let is_rest : c.in_ok-rest.rest ≡ tag * 2 ^ 32 + i = omega (arith, rest.0, rest.1) in
    elim c.else-tag-lt256.branch [
      | else-tag-lt256-via-then-tag-lt256+else-item-from w ↦ absurd (omega (arith, w.if-item-from.false, w.from.ensures, names.1, low, item, is_rest))
      | else-tag-lt256-via-else-tag-lt256 w ↦ absurd (omega (arith, w.if-tag-lt256.false, names.0, item, is_rest))
    ]
