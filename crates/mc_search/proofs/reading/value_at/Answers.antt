use Rattle.std.proofs.Common.{arith}
use Rattle.mc_words.proofs.Payload.{value_fits}
use Rattle.mc_search.proofs.reading.value_at.Goals as goal

pub word_at-requires-clause-word : goal.word_at-requires-clause-word
word_at-requires-clause-word g c = omega (arith, c.loop-j-test.true, value_fits g.row.V)

pub returns-clause-value : goal.returns-clause-value
returns-clause-value g c = (c.loop-j.invariant.many, λ j l. c.loop-j.invariant.read j (omega (arith, l, c.loop-j.invariant.many, c.loop-j-test.false)))
