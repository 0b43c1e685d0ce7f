use Rattle.std.proofs.Common.{List, ℕ, ap, ◌∙◌, get_or}
use Rattle.std.specs.Slots.{slots_items}
use Rattle.mc_shared.proofs.SeatViews.{index_at}
use Rattle.mc_shared.proofs.words.Words.word.Goals as goal

pub returns : goal.returns
returns c = index_at (slots_items c.self.inside.closed.words) c.args.n c.word.result c.word.ensures ∙ ap (λ (xs : List ℕ). get_or xs c.args.n 0) c.self.view_is
