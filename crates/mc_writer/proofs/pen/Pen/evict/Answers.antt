use Rattle.std.proofs.Common.{◌<◌, ap, arith, refl, sym, subst}
use Rattle.mc_words.specs.Checks.{shape_of}
use Rattle.mc_words.specs.declared.checked.Checked.{Checked}
use Rattle.mc_writer.specs.declared.pen.Pen.{Pen}
use Rattle.mc_words.specs.History.{key_count}
use Rattle.mc_writer.specs.Evictions.{HasFoundRecent}
use Rattle.mc_writer.specs.Inside.Pens.{state_at}
use Rattle.mc_writer.proofs.Evicted.{found_recent, searched_steps}
use Rattle.mc_writer.proofs.WholeCalls.{known_there}
use Rattle.mc_writer.proofs.pen.Pen.evict.Goals as goal

pub evict_found-old-requires : goal.evict_found-old-requires
evict_found-old-requires g c =
    let V = g.row.V in
    let p = c.args.self.now in
    let q = c.decide_eviction.new.peek in
    let b = c.args.books.now in
    let known = known_there V p b c.requires.rested in
    let decided = c.in-Search.ensures.decided (state_at V p) known refl in
    let ended = c.in-Some.ensures.ended in
    let steps = searched_steps V c.search.new.books q c.search.new.self ended.readings ended.searched in
    let still = ap (λ (x : Pen V). (state_at V x).version_steps) c.decide_eviction.ensures.kept in
    let limit = ap (λ (x : Checked). (shape_of x).limit) c.search.ensures.shape in
    (omega arith, (omega (arith, known.width.most), ((q, ended.readings, ended.searched, sym ended.found), omega (arith, steps, still, limit, decided.0))))

pub returns-in-None-clause-tried : goal.returns-in-None-clause-tried
returns-in-None-clause-tried g c =
    let V = g.row.V in
    let p = c.args.self.now in
    let q = c.decide_eviction.new.peek in
    let kept = c.decide_eviction.ensures.kept in
    let decided = c.in-Search.ensures.decided (state_at V p) (known_there V p c.args.books.now c.requires.rested) refl in
    let ended = c.in-None.ensures.ended in
    let some = subst (λ (x : Pen V). 0 < key_count (state_at V x).history) (sym kept) decided.1 in
    subst (λ (x : Pen V). HasFoundRecent V x.cells.now.layout.shape x.seat.now c.search.new.self.seat.now) kept (found_recent V c.search.new.books q c.search.new.self ended.readings ended.searched some (sym ended.found) (ended.whole refl))
