use Rattle.std.proofs.Common.{ℕ, List, ◌≡◌, ◌+◌, ◌*◌, ◌∙◌, ap, arith, length, sym, subst}
use Rattle.mc_words.specs.Checks.{shape_of}
use Rattle.mc_words.specs.Places.{moment}
use Rattle.mc_search.specs.Items.{IsUsedIn}
use Rattle.mc_search.specs.Paths.{path_of_room}
use Rattle.mc_search.specs.declared.items.FreeItems.{FreeItems}
use Rattle.mc_search.specs.Readable.{IsFilled}
use Rattle.mc_plan.specs.Deciding.{IsReplaced}
use Rattle.mc_plan.specs.Evicting.{IsVictim}
use Rattle.mc_plan.specs.Inside.Clerks.{IsReplacing}
use Rattle.mc_plan.specs.Moves.{AreKeys, AreTaken}
use Rattle.mc_plan.specs.Plans.{moves_acts}
use Rattle.mc_search.specs.Paths.{IsCut}
use Rattle.mc_plan.specs.declared.books.Books.{Books}
use Rattle.mc_plan.specs.declared.far.Far.{Far}
use Rattle.mc_plan.specs.declared.decision.Replacement.{Replacement}
use Rattle.mc_plan.proofs.Calls.AfterPlan.{filled_in, with_far}
use Rattle.mc_plan.proofs.Calls.AfterSweep.{victim_used}
use Rattle.mc_plan.proofs.Calls.StoredKeys.{handed_on, replaced_by}
use Rattle.mc_plan.proofs.Puts.PathSteps.{chain_taken, cut_taken}
use Rattle.mc_plan.proofs.books.Books.replace.Goals as goal

pub store-storing-requires-clause-filled : goal.store-storing-requires-clause-filled
store-storing-requires-clause-filled g c =
    let r = c.requires.books in
    let b : Books = record c.args.self.now { hand = r.4.before } in
    let now = ap g.P.Peek.words (c.victim-victim.ensures.kept ∙ c.moment-at.ensures.kept) in
    subst (λ (w : List ℕ). IsFilled (shape_of b.checked) w) (sym now) (filled_in g.row.V b r.2 _ r.4.waits.known r.5)

pub store-storing-requires-clause-taken : goal.store-storing-requires-clause-taken
store-storing-requires-clause-taken g c =
    let r = c.requires.books in
    let sh = shape_of c.args.self.now.checked in
    let path = path_of_room c.args.self.now.far.value.path c.args.room in
    let left = path_of_room c.cut_at-left.new.path c.cut_at-left.result in
    let now = ap g.P.Peek.words (c.victim-victim.ensures.kept ∙ c.moment-at.ensures.kept) in
    let was = chain_taken sh r.2.words c.args.key path.places.items path.hole r.4.waits.least.chain in
    let cut = subst (λ (f : Far). IsCut c.victim-victim.result.place (path_of_room f.path c.args.room).places.items (path_of_room f.path c.args.room).hole left.places.items left.hole) c.deref_mut.ensures.value c.cut_at-left.ensures in
    subst (λ (w : List ℕ). AreTaken sh w left.places.items) (sym (now ∙ r.5)) (cut_taken sh r.2.words c.victim-victim.result.place path.places.items path.hole left.places.items left.hole cut was)

pub returns-clause-replaced : goal.returns-clause-replaced
returns-clause-replaced g c v call s rs on same =
    let V = g.row.V in
    let b = c.args.self.now in
    let sh = shape_of b.checked in
    let k = c.args.key in
    let room = c.args.room in
    let left = path_of_room c.cut_at-left.new.path c.cut_at-left.result in
    let kept = left.places.items in
    let stored = c.store-storing.ensures in
    let storing = c.store-storing.result in
    let steps = c.store-storing.new.self.version_steps in
    let read = ap g.P.Peek.words (c.victim-victim.ensures.kept ∙ c.moment-at.ensures.kept) ∙ same in
    let far : Far = record c.deref_mut.result.now { path = c.cut_at-left.new.path; moves = c.store-storing.new.self.far.value.moves } in
    let is = ap (λ (f : Far). f.finder) c.deref_mut.ensures.value in
    let path = path_of_room b.far.value.path room in
    let cut : IsCut c.victim-victim.result.place path.places.items path.hole kept left.hole =
    subst (λ (f : Far). IsCut c.victim-victim.result.place (path_of_room f.path room).places.items (path_of_room f.path room).hole kept left.hole) c.deref_mut.ensures.value c.cut_at-left.ensures in
    let same_books : c.store-storing.new.self ≡ with_far (record b { version_steps = steps }) far = ap (λ (x : Books). record x { version_steps = steps }) stored.books in
    let changes : steps ≡ b.version_steps + (2 * length kept + 4) = omega (arith, ap (λ (x : Books). x.version_steps) stored.books) in
    let next : c.moment-at.result + 2 ≡ moment s.words + 2 = ap (λ (n : ℕ). n + 2) c.moment-at.ensures.value ∙ ap (λ (w : List ℕ). moment w + 2) same in
    let here = sym stored.item in
    let victim = subst (λ (i : ℕ). IsVictim V b s i c.victim-victim.result) here (c.victim-victim.ensures.victim on.before s on.waits.known (ap g.P.Peek.words c.moment-at.ensures.kept ∙ same)) in
    let keys = subst (λ (w : List ℕ). AreKeys V sh w kept) read stored.keys in
    let moves = stored.moves ∙ ap (λ (w : List ℕ). moves_acts V sh w kept left.hole) read in
    let r : Replacement = record { victim = c.victim-victim.result; storing = storing } in
    let done = replaced_by V b far is k v room call s rs r kept left.hole steps (subst (λ (i : ℕ). IsReplacing V b k v room call s rs i) here on) victim cut keys (stored.at ∙ next) changes moves stored.place stored.many in
    let was = subst (λ (x : Books). IsReplaced V x k v call s rs r) (sym same_books) done in
    handed_on V c.store-storing.new.self c.hand_on.new.self k v call s rs r was c.hand_on.ensures.kept c.hand_on.ensures.policy c.hand_on.ensures.list

pub hand_on-requires-clause-in_use : goal.hand_on-requires-clause-in_use
hand_on-requires-clause-in_use g c =
    let r = c.requires.books in
    let same : c.store-storing.new.self.free ≡ c.args.self.now.free = ap (λ (x : Books). x.free) c.store-storing.ensures.books in
    subst (λ (f : FreeItems). IsUsedIn f c.args.item) (sym same) (victim_used g.row.V c.args.self.now c.args.key r.0 c.args.room r.1 r.2 r.3 c.args.item r.4)

pub victim-victim-requires : goal.victim-victim-requires
victim-victim-requires g c =
    let r = c.requires.books in
    record {
      books = (r.4.before, r.2, r.4.waits.known, ap g.P.Peek.words c.moment-at.ensures.kept ∙ r.5);
      in_use = victim_used g.row.V c.args.self.now c.args.key r.0 c.args.room r.1 r.2 r.3 c.args.item r.4;
    }
