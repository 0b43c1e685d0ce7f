use Rattle.std.proofs.Common.{◌≡◌, ap, ◌∙◌, take, drop, arith, length-take-le}
use Rattle.std.proofs.lemmas.List.{take_rest}
use Rattle.std.specs.List.{prefix_len}
use Rattle.mc_script.specs.Words.{is_inner}
use Rattle.mc_script.proofs.LineWords.{no_words, first_word_is}
use Rattle.mc_script.proofs.words.first_word.Goals as goal

pub returns-in_err-start : goal.returns-in_err-start
returns-in_err-start c = rw c.from_residual.ensures (no_words c.args.text.now c.word_start.result c.word_start.ensures c.in_err-start.was)

pub split_at-requires : goal.split_at-requires
split_at-requires c =
    let rest = take_rest c.args.text.now c.in_ok-start.start in
    let n : c.word_len.result ≡ prefix_len is_inner (drop c.in_ok-start.start c.args.text.now) = c.word_len.ensures ∙ ap (prefix_len is_inner) rest in
    rw rest (first_word_is c.args.text.now c.in_ok-start.start c.word_len.result c.in_ok-start.ensures n).2

pub returns : goal.returns
returns c =
    let rest = take_rest c.args.text.now c.in_ok-start.start in
    let n : c.word_len.result ≡ prefix_len is_inner (drop c.in_ok-start.start c.args.text.now) = c.word_len.ensures ∙ ap (prefix_len is_inner) rest in
    let first = first_word_is c.args.text.now c.in_ok-start.start c.word_len.result c.in_ok-start.ensures n in
    let head : c.split_at.result.0.now ≡ take c.word_len.result (drop c.in_ok-start.start c.args.text.now) = c.split_at.ensures.front ∙ ap (take c.word_len.result) rest in
    let tail : c.split_at.result.1.now ≡ drop c.word_len.result (drop c.in_ok-start.start c.args.text.now) = c.split_at.ensures.back ∙ ap (drop c.word_len.result) rest in
    let n = length-take-le c.word_len.result (drop c.in_ok-start.start c.args.text.now) first.2 in
    (rw (head, tail) first.0, rw head (omega (arith, n, first.1)))
