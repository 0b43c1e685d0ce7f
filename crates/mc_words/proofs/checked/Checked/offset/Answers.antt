use Rattle.mc_words.specs.Keys.{offset_of}
use Rattle.mc_words.proofs.Keys.{and_power}
use Rattle.mc_words.proofs.checked.Checked.offset.Goals as goal

pub returns-clause-offset : goal.returns-clause-offset
unfolding offset_of
returns-clause-offset c =
    rw (c.from-2.ensures, c.from.ensures) (and_power _ c.args.self.now.shape.buckets c.args.self.now.sound.buckets.2)
