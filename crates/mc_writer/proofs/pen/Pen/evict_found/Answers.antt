use Rattle.std.proofs.Common.{ℕ, ◌∙◌, List, None, arith, refl, subst, sym}
use Rattle.mc_words.specs.KeyParts.{HasParts}
use Rattle.mc_words.specs.Places.{slot_number}
use Rattle.mc_words.specs.Standing.{Agrees, Stands}
use Rattle.mc_words.specs.declared.history.Change.{Change}
use Rattle.mc_plan.specs.Evicting.{IsEvicted}
use Rattle.mc_plan.specs.Plans.{evict_acts}
use Rattle.mc_writer.specs.Inside.Pens.{HasMade, IsDue, state_at}
use Rattle.mc_writer.specs.declared.pen.Pen.{Pen}
use Rattle.mc_writer.proofs.Evicted.{evicted_due, evicted_parts, evicted_rests, evicted_stands, found_cleared, found_used, has_evicted, searched_agrees}
use Rattle.mc_writer.proofs.pen.Pen.evict_found.Goals as goal
use Rattle.mc_writer.proofs.pen.Pen.evict_found.Goals.{After-evict_at-victim, After-take_out}
use Rattle.mc_writer.proofs.pen.Pen.evict_found.Given.{Over}

pub evict_at-victim-requires : goal.evict_at-victim-requires
evict_at-victim-requires g c =
    let r = c.requires.found in
    record { books = (state_at g.row.V c.args.self.now, r.2.known, refl); in_use = found_used g.row.V c.args.books.now r.0 c.args.self.now r.1 r.2 c.args.item r.3; unspent = c.requires.unspent }

-- what was decided
decided : (g : Over) (c : After-evict_at-victim g) → IsEvicted g.row.V c.evict_at-victim.new.self (state_at g.row.V c.args.self.now) c.args.item c.evict_at-victim.result
decided g c =
    let r = c.requires.found in
    c.evict_at-victim.ensures.evicted (state_at g.row.V c.args.self.now) r.2.known refl (found_cleared g.row.V c.args.books.now r.0 c.args.self.now r.1 r.2 c.args.item r.3)

pub entry_in-old-requires : goal.entry_in-old-requires
entry_in-old-requires g c =
    let V = g.row.V in
    let q = c.args.self.now in
    let r = c.requires.found in
    let ev = decided g (goal.at.entry_in-old-requires g c).After-evict_at-victim in
    let victim = c.evict_at-victim.result in
    let width = r.2.known.width in
    let agrees = searched_agrees V c.args.books.now r.0 q r.1 r.2 in
    let stands = evicted_stands V c.args.books.now r.0 q r.1 r.2 c.evict_at-victim.new.self c.args.item victim c.evict_at-victim.ensures.shape ev in
    let P : Pen V → Type 0 = λ x. ((h : List (Change V)) × Agrees V x.cells.now.layout.shape (state_at V x).words None h) × ((i : ℕ) × Stands V x.cells.now.layout.shape (state_at V x).words victim.key (slot_number victim.place) i) in
    let here = subst P (sym c.evict_at-victim.ensures.kept) (((state_at V r.0).history, agrees), (c.args.item, stands)) in
    (omega arith, (omega (arith, width.most), (width, (here.0, (ev.taken.place.in_bucket, here.1)))))

pub take_out-requires : goal.take_out-requires
take_out-requires g c =
    let V = g.row.V in
    let q = c.args.self.now in
    let r = c.requires.found in
    let ev = decided g (goal.at.take_out-requires g c).After-evict_at-victim in
    let victim = c.evict_at-victim.result in
    let b1 = c.evict_at-victim.new.self in
    let kept = c.evict_at-victim.ensures.shape in
    let P : Pen V → Type 0 = λ x. IsDue V (evict_acts victim.key victim.place) x × HasParts x.cells.now.layout.shape victim.key victim.parts in
    let same = c.entry_in-old.ensures.same ∙ c.evict_at-victim.ensures.kept in
    (omega arith, subst P (sym same) (evicted_due V c.args.books.now r.0 q r.1 r.2 b1 c.args.item victim kept ev, evicted_parts V c.args.books.now r.0 q r.1 r.2 b1 c.args.item victim kept ev))

-- the deed, from the pen on that the call was given
made : (g : Over) (c : After-take_out g) → HasMade g.row.V (evict_acts c.evict_at-victim.result.key c.evict_at-victim.result.place) c.args.self.now c.take_out.new.self
made g c = subst (λ (x : Pen g.row.V). HasMade g.row.V (evict_acts c.evict_at-victim.result.key c.evict_at-victim.result.place) x c.take_out.new.self) (c.entry_in-old.ensures.same ∙ c.evict_at-victim.ensures.kept) c.take_out.ensures.made

pub returns-clause-evicted : goal.returns-clause-evicted
returns-clause-evicted g c before rs at h found moment =
    let V = g.row.V in
    let q = c.args.self.now in
    let here = goal.at.returns-clause-evicted g c in
    let b = c.args.books.now in
    let ev = decided g here.After-evict_at-victim in
    let victim = c.evict_at-victim.result in
    let P : Pen V → Type 0 = λ x. Agrees V x.cells.now.layout.shape (state_at V x).words None (state_at V before).history in
    let agrees = subst P (sym c.evict_at-victim.ensures.kept) (searched_agrees V b before q rs h) in
    let holds = c.entry_in-old.ensures.holds (state_at V before).history agrees in
    has_evicted V b before q rs h c.evict_at-victim.new.self c.args.item victim c.evict_at-victim.ensures.shape ev c.take_out.new.self (made g here.After-take_out) at c.entry_in-old.result found holds moment

pub returns-clause-rested : goal.returns-clause-rested
returns-clause-rested g c =
    let here = goal.at.returns-clause-rested g c in
    let r = c.requires.found in
    evicted_rests g.row.V c.args.books.now r.0 c.args.self.now r.1 r.2 c.evict_at-victim.new.self c.args.item c.evict_at-victim.result c.evict_at-victim.ensures.shape (decided g here.After-evict_at-victim) c.take_out.new.self (made g here.After-take_out)
