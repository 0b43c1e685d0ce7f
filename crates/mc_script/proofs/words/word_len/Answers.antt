use Rattle.std.proofs.Common.{ap, ◌∙◌, length}
use Rattle.std.specs.Option.{unwrap_or}
use Rattle.mc_script.specs.Words.{is_blank}
use Rattle.mc_script.proofs.LineWords.{unwrap-position}
use Rattle.mc_script.proofs.words.word_len.Goals as goal

pub returns : goal.returns
returns c = c.unwrap_or.ensures ∙ ap (λ o. unwrap_or o (length c.args.text.now)) c.word_end.ensures ∙ unwrap-position is_blank c.args.text.now
