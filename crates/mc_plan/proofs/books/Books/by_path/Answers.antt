use Rattle.std.proofs.Common.{◌∙◌, ap, refl}
use Rattle.mc_plan.specs.declared.far.Far.{Far}
use Rattle.mc_plan.proofs.Calls.AfterPlan.{crowded_in, least_in, no_path, none_in, refound}
use Rattle.mc_plan.proofs.books.Books.by_path.Goals as goal

pub far-requires-clause-crowded : goal.far-requires-clause-crowded
far-requires-clause-crowded g c =
    let r = c.requires.crowded in
    let known = r.4.lacks.known in
    let far = c.deref_mut-far.result.now in
    (r.0, crowded_in g.row.V c.args.self.now r.3 _ known r.6 far.finder (ap (λ (f : Far). f.finder) c.deref_mut-far.ensures.value ∙ known.finder) r.0 c.args.parts r.5 r.4.full)

pub returns-then-far-clause-room : goal.returns-then-far-clause-room
returns-then-far-clause-room g c k at v s crowded parts same =
    let V = g.row.V in
    let b = c.args.self.now in
    let known = crowded.lacks.known in
    let far = c.deref_mut-far.result.now in
    let is = ap (λ (f : Far). f.finder) c.deref_mut-far.ensures.value in
    let least = c.if-far.ensures.found k (crowded_in V b s _ known same far.finder (is ∙ known.finder) k c.args.parts parts crowded.full) refl in
    refound V b (record far { finder = c.far.new.self; path = c.far.new.path }) s k v at (c.far.ensures.finder ∙ is) crowded.lacks (least_in V b s _ known same far.finder (is ∙ known.finder) k c.far.new.path least)

pub returns-else-far-clause-room : goal.returns-else-far-clause-room
returns-else-far-clause-room g c k at v s crowded parts same =
    let V = g.row.V in
    let b = c.args.self.now in
    let known = crowded.lacks.known in
    let far = c.deref_mut-far.result.now in
    let is = ap (λ (f : Far). f.finder) c.deref_mut-far.ensures.value in
    let none = c.if-far.ensures.none k (crowded_in V b s _ known same far.finder (is ∙ known.finder) k c.args.parts parts crowded.full) refl in
    no_path V b (record far { finder = c.far.new.self; path = c.far.new.path }) s k at v crowded.lacks (c.far.ensures.finder ∙ is) (none_in V b s _ known same far.finder (is ∙ known.finder) k none)
