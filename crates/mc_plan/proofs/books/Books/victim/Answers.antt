use Rattle.mc_plan.proofs.Calls.AfterSweep.{used_stands}
use Rattle.mc_plan.proofs.books.Books.victim.Goals as goal

pub named-requires : goal.named-requires
named-requires g c =
    let r = c.requires.books in
    record { books = r; in_items = (used_stands g.row.V (record c.args.self.now { hand = r.0 }) r.1 c.args.item r.2 c.requires.in_use).0 }

pub unreachable-requires : goal.unreachable-requires
unreachable-requires g c =
    let r = c.requires.books in
    let there = (used_stands g.row.V (record c.args.self.now { hand = r.0 }) r.1 c.args.item r.2 c.requires.in_use).1 in
    c.in_default.ensures.named r.0 r.1 r.2 r.3 there.0 there.1.names
