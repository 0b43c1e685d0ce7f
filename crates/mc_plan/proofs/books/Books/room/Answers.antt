use Rattle.std.proofs.Common.{◌∙◌, ap}
use Rattle.mc_plan.proofs.books.Books.room.Goals as goal

pub returns-in-Some-by_move-clause-room : goal.returns-in-Some-by_move-clause-room
returns-in-Some-by_move-clause-room g c k at v s lacks parts same =
    c.in-Some-by_move.ensures.room k at v s (c.in_default.ensures.room k at v s lacks parts same) parts (ap g.P.Peek.words c.near.ensures.kept ∙ same)
