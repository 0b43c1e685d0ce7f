use Rattle.std.proofs.Common.{◌≡◌, ◌+◌, ◌-◌, ◌<◌, ◌∙◌, ◌++◌, [], List, ap, arith, drop, get_or, length}
use Rattle.mc_words.specs.Keys.{item_in}
use Rattle.mc_words.specs.declared.place.Place.{Place}
use Rattle.mc_words.specs.Places.{slot, item, slot_number}
use Rattle.mc_plan.specs.declared.decision.Move.{Move}
use Rattle.mc_plan.specs.Decisions.{acts_of_moves}
use Rattle.mc_plan.specs.Plans.{move_acts}
use Rattle.mc_plan.proofs.Puts.MoveLists.{moves_push}
use Rattle.mc_plan.proofs.Puts.PathSteps.{IsMadeFrom, occupied_at, named_at, path_from, made_more}
use Rattle.mc_plan.proofs.moves.path_moves.Goals as goal

pub slot_at-word-requires-clause-place : goal.slot_at-word-requires-clause-place
slot_at-word-requires-clause-place g c =
    let ps = c.args.path.now.places.items in
    let m = c.loop-n.n - 1 in
    let below : m < length ps = omega (arith, c.loop-n.invariant.within, c.loop-n-test.true) in
    let taken = occupied_at c.args.checked.now.shape (g.P.Peek.words c.args.peek.now) ps m (record { bucket = 0; slot = 0 }) c.requires.taken below in
    rw c.deref.ensures.0 taken.0

pub key_in-key-requires-clause-named : goal.key_in-key-requires-clause-named
key_in-key-requires-clause-named g c =
    let sh = c.args.checked.now.shape in
    let w = g.P.Peek.words c.args.peek.now in
    let ps = c.args.path.now.places.items in
    let m = c.loop-n.n - 1 in
    let below : m < length ps = omega (arith, c.loop-n.invariant.within, c.loop-n-test.true) in
    let taken = occupied_at sh w ps m (record { bucket = 0; slot = 0 }) c.requires.taken below in
    let named = named_at sh w (get_or ps m (record { bucket = 0; slot = 0 })) c.requires.filled taken in
    rw (c.slot_at-word.ensures.value, c.loop-n.invariant.same, c.deref.ensures.0) named

pub loop-n-preserved : goal.loop-n-preserved
loop-n-preserved g c =
    let sh = c.args.checked.now.shape in
    let w = g.P.Peek.words c.args.peek.now in
    let ps = c.args.path.now.places.items in
    let hole = c.args.path.now.hole in
    let n = c.loop-n.n in
    let m = n - 1 in
    let old = c.loop-n.invariant in
    let blank : Place = record { bucket = 0; slot = 0 } in
    let p = get_or ps m blank in
    let next : n ≡ m + 1 = omega (arith, c.loop-n-test.true) in
    let below : m < length ps = omega (arith, old.within, c.loop-n-test.true) in
    let at : get_or c.deref.result.now m blank ≡ p = ap (λ (xs : List Place). get_or xs m blank) c.deref.ensures.0 in
    let word : c.slot_at-word.result ≡ slot sh w (slot_number p) = rw (← old.same, ← at) c.slot_at-word.ensures.value in
    let key : c.key_in-key.result ≡ item g.row.V sh w (item_in (slot sh w (slot_number p))) 0 =
    rw (← word, ← old.same, ← (ap g.P.Peek.words c.slot_at-word.ensures.kept)) c.key_in-key.ensures.value in
    let move : Move = record { key = c.key_in-key.result; word = c.slot_at-word.result; from = get_or c.deref.result.now m blank; to = c.loop-n.to } in
    let pushed : acts_of_moves c.push.new.self.items ≡ acts_of_moves c.loop-n.moves.items ++ move_acts c.key_in-key.result c.slot_at-word.result p c.loop-n.to =
    ap acts_of_moves c.push.ensures.items ∙ moves_push c.loop-n.moves.items move ∙ ap (λ (q : Place). acts_of_moves c.loop-n.moves.items ++ move_acts c.key_in-key.result c.slot_at-word.result q c.loop-n.to) at in
    let before : IsMadeFrom g.row.V sh w [] (acts_of_moves c.loop-n.moves.items) (drop n ps) hole c.loop-n.to = record { items = old.items; end = old.to; keys = old.keys } in
    let after = made_more g.row.V sh w [] (acts_of_moves c.loop-n.moves.items) (acts_of_moves c.push.new.self.items) (drop n ps) hole c.loop-n.to p c.key_in-key.result c.slot_at-word.result before word key c.key_in-key.type_inv pushed in
    let made : IsMadeFrom g.row.V sh w [] (acts_of_moves c.push.new.self.items) (drop m ps) hole p = rw (path_from ps m n blank next below) after in
    record {
      within = omega (arith, old.within);
      same = ap g.P.Peek.words (c.key_in-key.ensures.kept ∙ c.slot_at-word.ensures.kept) ∙ old.same;
      kept = c.key_in-key.ensures.kept ∙ c.slot_at-word.ensures.kept ∙ old.kept;
      many = omega (arith, c.push.ensures.len, old.many, next);
      items = made.items;
      to = at ∙ made.end;
      keys = made.keys;
    }
