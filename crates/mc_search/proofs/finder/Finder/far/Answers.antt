use Rattle.std.proofs.Common.{ℕ, ◌≡◌, ◌-◌, List, length, sym, subst, arith}
use Rattle.mc_words.specs.Chains.{NoChain}
use Rattle.mc_words.specs.Checks.{shape_of}
use Rattle.mc_words.specs.KeyParts.{HasParts}
use Rattle.mc_words.specs.declared.shape.Shape.{Shape}
use Rattle.mc_search.specs.declared.queue.Entry.{Entry}
use Rattle.mc_search.specs.declared.path.Path.{Path}
use Rattle.mc_search.specs.Paths.{IsLeastPath}
use Rattle.mc_search.specs.Inside.Search.{IsFound, IsQueue}
use Rattle.mc_search.proofs.Shortest.{first_full, least_traced, second_full}
use Rattle.mc_search.proofs.Trace.{IsTraceable, traceable}
use Rattle.mc_search.proofs.finder.Finder.far.Goals as goal
use Rattle.mc_search.proofs.finder.Finder.far.Goals.{After-self, In-Some, After-len}
use Rattle.mc_search.proofs.finder.Finder.far.Given.{Over}

-- the parts, by the finder's own shape
parts : (g : Over) (c : After-self g) (k : ℕ) → HasParts c.args.self.now k c.args.parts → HasParts (shape_of c.self.inside.checked) k c.args.parts
parts g c k = subst (λ (x : Shape). HasParts x k c.args.parts) (sym c.self.view_is)

-- the search ended at the last entry of the queue
found : (g : Over) (c : In-Some g) (k : ℕ) → HasParts c.args.self.now k c.args.parts
    → IsFound (shape_of c.self.inside.checked) (g.P.Peek.words c.args.peek.now) k c.search-found.new.queue.items (length c.search-found.new.queue.items - 1) c.in-Some.hole
found g c k has =
    let sh = shape_of c.self.inside.checked in
    let at = parts g (goal.at.In-Some g c).After-self k has in
    c.in-Some.ensures.found k (c.start.ensures.searching sh (g.P.Peek.words c.args.peek.now) k at.first at.second)

-- the way back from there
back : (g : Over) (c : After-len g) → IsTraceable c.deref.result.now (c.len.result - 1)
back g c =
    let sh = shape_of c.self.inside.checked in
    let q = c.search-found.new.queue.items in
    let is = c.search-found.new.queue.ok.0 in
    let last : length q - 1 ≡ c.len.result - 1 = omega (arith, c.len.ensures) in
    subst (λ (i : ℕ). IsTraceable c.deref.result.now i) last
    (subst (λ (v : List Entry). IsTraceable v (length q - 1)) (sym c.deref.ensures.value)
    (traceable sh (g.P.Peek.words c.args.peek.now) c.requires.crowded.0 q (length q - 1) c.in-Some.hole c.self.inside.checked.sound.depth (found g (goal.at.After-len g c).In-Some c.requires.crowded.0 c.requires.crowded.1.has)))

pub start-requires-clause-first : goal.start-requires-clause-first
start-requires-clause-first g c =
    let at = parts g (goal.at.start-requires-clause-first g c).After-self c.requires.crowded.0 c.requires.crowded.1.has in
    omega (arith, at.first_in_table, c.self.invariant.size)

pub start-requires-clause-second : goal.start-requires-clause-second
start-requires-clause-second g c =
    let at = parts g (goal.at.start-requires-clause-second g c).After-self c.requires.crowded.0 c.requires.crowded.1.has in
    omega (arith, at.second_in_table, c.self.invariant.size)

pub search-found-requires-clause-full : goal.search-found-requires-clause-full
search-found-requires-clause-full g c =
    let sh = shape_of c.self.inside.checked in
    let w = g.P.Peek.words c.args.peek.now in
    let k = c.requires.crowded.0 in
    let at = parts g (goal.at.search-found-requires-clause-full g c).After-self k c.requires.crowded.1.has in
    let none = subst (λ (x : Shape). NoChain x w k 0) (sym c.self.view_is) c.requires.crowded.1.full in
    c.start.ensures.full sh w (first_full sh w k c.args.parts.first at.first at.first_in_table none) (second_full sh w k c.args.parts.second at.second at.second_in_table none)

pub overflow_sub-len : goal.overflow_sub-len
overflow_sub-len g c =
    let is = c.search-found.new.queue.ok.0 in
    let some = (found g (goal.at.After-len g c).In-Some c.requires.crowded.0 c.requires.crowded.1.has).queued in
    omega (arith, c.len.ensures)

pub trace-requires-clause-queued : goal.trace-requires-clause-queued
trace-requires-clause-queued g c = (back g (goal.at.trace-requires-clause-queued g c).After-len).queued

pub trace-requires-clause-shallow : goal.trace-requires-clause-shallow
trace-requires-clause-shallow g c = (back g (goal.at.trace-requires-clause-shallow g c).After-len).shallow

pub trace-requires-clause-back : goal.trace-requires-clause-back
trace-requires-clause-back g c = (back g (goal.at.trace-requires-clause-back g c).After-len).back

pub returns-clause-found : goal.returns-clause-found
returns-clause-found g c k crowded _ =
    let sh = shape_of c.self.inside.checked in
    let words = g.P.Peek.words c.args.peek.now in
    let q = c.deref.result.now in
    let hole = c.in-Some.hole in
    let same = sym c.deref.ensures.value in
    let last : length c.search-found.new.queue.items - 1 ≡ c.len.result - 1 = omega (arith, c.len.ensures) in
    let ended = found g (goal.at.returns-clause-found g c).In-Some k crowded.has in
    let end = subst (λ (i : ℕ). IsFound sh words k q i hole) last (subst (λ (v : List Entry). IsFound sh words k v (length c.search-found.new.queue.items - 1) hole) same ended) in
    let queue = subst (λ (v : List Entry). IsQueue v c.search-found.new.seen.items) same c.search-found.ensures.queue in
    let path : Path = record { places = c.trace.new.places; hole = hole } in
    let chain = c.trace.ensures.chain sh words k c.search-found.new.seen.items hole queue c.search-found.ensures.size end in
    subst (λ (x : Shape). IsLeastPath x words k path) c.self.view_is (least_traced sh words k (c.len.result - 1) q path end chain c.trace.ensures.many)
