use Rattle.std.proofs.Common.{ℕ, List, ◌≡◌, ◌∙◌, ap, arith, sym, subst}
use Rattle.mc_words.specs.Checks.{shape_of}
use Rattle.mc_words.specs.Places.{item, slot_number}
use Rattle.mc_words.specs.Standing.{Stands}
use Rattle.mc_plan.proofs.Calls.AfterPlan.{placed_in}
use Rattle.mc_plan.proofs.books.Books.named.Goals as goal

pub place_of-requires-clause-placed : goal.place_of-requires-clause-placed
place_of-requires-clause-placed g c =
    let r = c.requires.books in
    placed_in g.row.V (record c.args.self.now { hand = r.0 }) r.1 _ r.2 (ap g.P.Peek.words c.key_at-key.ensures.kept ∙ r.3) c.key_at-key.result

pub returns-in_default-clause-named : goal.returns-in_default-clause-named
returns-in_default-clause-named g c hand s known same q names =
    let V = g.row.V in
    let sh = shape_of c.args.self.now.checked in
    let is : c.key_at-key.result ≡ item V sh s.words c.args.item 0 = c.key_at-key.ensures.value ∙ ap (λ (w : List ℕ). item V sh w c.args.item 0) same in
    let now = ap g.P.Peek.words c.key_at-key.ensures.kept ∙ same in
    c.in_default.ensures.none q (subst (λ (w : List ℕ). Stands V sh w c.key_at-key.result q c.args.item) (sym now) (record { names = names; key = sym is }))

pub returns-clause-named : goal.returns-clause-named
returns-clause-named g c hand s known same =
    let V = g.row.V in
    let sh = shape_of c.args.self.now.checked in
    let read = ap g.P.Peek.words c.key_at-key.ensures.kept ∙ same in
    record {
      word = omega (arith, c.key_at-key.type_inv);
      parts = c.parts-parts.ensures;
      place = c.in-Some.ensures.place;
      stands = subst (λ (w : List ℕ). Stands V sh w c.key_at-key.result (slot_number c.in-Some.place) c.args.item) read c.in-Some.ensures.found;
    }
