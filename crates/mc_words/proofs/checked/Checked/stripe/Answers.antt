use Rattle.mc_words.specs.Keys.{stripe_of}
use Rattle.mc_words.proofs.Keys.{and_power}
use Rattle.mc_words.proofs.checked.Checked.stripe.Goals as goal

pub returns-clause-stripe : goal.returns-clause-stripe
unfolding stripe_of
returns-clause-stripe c =
    rw (c.from.ensures, c.mix.ensures) (and_power _ c.args.self.now.shape.stripes c.args.self.now.sound.stripes.2)
