use Rattle.mc_words.specs.Keys.{first_of}
use Rattle.mc_words.proofs.Keys.{and_power}
use Rattle.mc_words.proofs.checked.Checked.first.Goals as goal

pub returns-clause-bucket : goal.returns-clause-bucket
unfolding first_of
returns-clause-bucket c =
    rw (c.from.ensures, c.mix.ensures) (and_power _ c.args.self.now.shape.buckets c.args.self.now.sound.buckets.2)
