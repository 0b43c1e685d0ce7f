use Rattle.mc_words.specs.Keys.{tag_of}
use Rattle.mc_lookup.specs.Machine.{shape_for}
use Rattle.mc_lookup.proofs.lookup.Lookup.met.Goals as goal

pub returns : goal.returns
returns g c = let l = c.args.self.now in c.tag_match.ensures (tag_of (shape_for l) l.key) l.base_is
