use Rattle.std.proofs.Common.{ap, ◌∙◌}
use Rattle.mc_shared.specs.Records.{Opening}
use Rattle.mc_shared.proofs.SeatViews.{all_of}
use Rattle.mc_shared.proofs.ruled_words.RuledWords.touch.Goals as goal

pub peek-requires : goal.peek-requires
peek-requires c = rw (c.self.invariant.words ∙ ap (λ (o : Opening). all_of o.layout) c.self.view_is) c.requires
