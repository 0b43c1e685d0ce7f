use Rattle.std.proofs.Common.{ℕ, List, Some, ◌∙◌, ap, sym, subst}
use Rattle.mc_words.specs.Checks.{shape_of}
use Rattle.mc_search.specs.Items.{IsFreeIn, TakesFree}
use Rattle.mc_search.specs.Paths.{path_of_room}
use Rattle.mc_plan.specs.Books.{Waits}
use Rattle.mc_plan.specs.Deciding.{IsInserted}
use Rattle.mc_plan.specs.Moves.{AreTaken, AreKeys}
use Rattle.mc_plan.specs.Plans.{moves_acts}
use Rattle.mc_plan.specs.declared.books.Books.{Books}
use Rattle.mc_plan.proofs.Calls.AfterPlan.{books_still, filled_in, with_far}
use Rattle.mc_plan.proofs.Calls.StoredKeys.{stored_by}
use Rattle.mc_plan.proofs.Puts.PathSteps.{chain_taken}
use Rattle.mc_plan.proofs.books.Books.insert.Goals as goal

pub returns-in_default-clause-inserted : goal.returns-in_default-clause-inserted
returns-in_default-clause-inserted g c v s has same =
    let V = g.row.V in
    let k = c.args.key in
    let b = c.args.self.now in
    let lacks = has.lacks in
    let free = c.take_least.new.self in
    let waits : Waits V (record b { free = free }) k v s c.args.room = record {
      known = books_still V b s free lacks.known c.take_least.ensures.kept c.take_least.ensures.policy c.take_least.ensures.items c.in_default.ensures.none c.in_default.ensures.same;
      key = lacks.key;
      value = lacks.value;
      unspent = lacks.unspent;
      absent = lacks.absent;
      least = has.least;
      none = c.in_default.ensures.same;
    } in
    waits

pub store-requires-clause-filled : goal.store-requires-clause-filled
store-requires-clause-filled g c =
    let r = c.requires.room in
    filled_in g.row.V c.args.self.now r.1 _ r.2.lacks.known r.3

pub store-requires-clause-taken : goal.store-requires-clause-taken
store-requires-clause-taken g c =
    let b = c.args.self.now in
    let r = c.requires.room in
    let path = path_of_room b.far.value.path c.args.room in
    subst (λ (x : List ℕ). AreTaken (shape_of b.checked) x path.places.items) (sym r.3) (chain_taken (shape_of b.checked) r.1.words c.args.key path.places.items path.hole r.2.least.chain)

pub returns-clause-inserted : goal.returns-clause-inserted
returns-clause-inserted g c v s has same =
    let V = g.row.V in
    let k = c.args.key in
    let b = c.args.self.now in
    let sh = shape_of b.checked in
    let path = path_of_room b.far.value.path c.args.room in
    let ps = path.places.items in
    let free = c.take_least.new.self in
    let stored = c.store.ensures in
    let storing = c.store.result in
    let here = sym stored.item in
    let keys = subst (λ (x : List ℕ). AreKeys V sh x ps) same stored.keys in
    let was = subst (λ (i : ℕ). IsFreeIn b.free i) here c.in-Some.ensures.free in
    let takes = subst (λ (i : ℕ). TakesFree b.free free i) here c.in-Some.ensures.takes in
    let moves = stored.moves ∙ ap (λ (x : List ℕ). moves_acts V sh x ps path.hole) same in
    let other : Books = with_far (record b { free = free }) (record b.far.value { moves = c.store.new.self.far.value.moves }) in
    let done = stored_by V b other k v c.args.at c.args.room s storing has keys stored.at was c.take_least.ensures.kept c.take_least.ensures.policy c.take_least.ensures.items takes moves stored.place stored.many in
    subst (λ (x : Books). IsInserted V x k v s c.args.room (Some storing)) (sym stored.books) done
