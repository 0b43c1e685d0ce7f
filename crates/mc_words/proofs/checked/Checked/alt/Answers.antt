use Rattle.std.proofs.Common.{◌≡◌, ap}
use Rattle.std.specs.Prelude.{bit_xor}
use Rattle.mc_words.specs.Keys.{alternate}
use Rattle.mc_words.proofs.Keys.{alternate-alternate, alternate-lt, alternate-ne}
use Rattle.mc_words.proofs.checked.Checked.alt.Goals as goal
use Rattle.mc_words.proofs.checked.Checked.alt.Goals.{After-offset}

is : (c : After-offset) → bit_xor c.args.b c.offset.result ≡ alternate c.args.self.now.shape c.args.b c.args.tag
unfolding alternate
is c = ap (bit_xor c.args.b) c.offset.ensures.offset

pub returns-clause-bucket : goal.returns-clause-bucket
returns-clause-bucket c = is c

pub returns-clause-range : goal.returns-clause-range
returns-clause-range c =
    rw (is c) (alternate-lt c.args.self.now.shape c.args.b c.args.tag c.args.self.now.sound c.requires)

pub returns-clause-other : goal.returns-clause-other
returns-clause-other c =
    rw (is c) (alternate-ne c.args.self.now.shape c.args.b c.args.tag c.args.self.now.sound)

pub returns-clause-back : goal.returns-clause-back
returns-clause-back c =
    rw (is c) (alternate-alternate c.args.self.now.shape c.args.b c.args.tag)
