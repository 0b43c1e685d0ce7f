use Rattle.mc_words.specs.Keys.{shard_of}
use Rattle.mc_words.proofs.Keys.{and_power}
use Rattle.mc_words.proofs.mix.Mix.shard.Goals as goal

pub returns-clause-shard : goal.returns-clause-shard
unfolding shard_of
returns-clause-shard c =
    rw (c.from.ensures, c.mix.ensures) (and_power _ c.args.shards c.requires.2)
