use Rattle.std.proofs.Common.{◌∙◌, ◌≡◌, Some, ap, arith, length, subst, sym}
use Rattle.std.specs.Prelude.{slice_get}
use Rattle.mc_shards.proofs.HeldTurns.{has_lock, taken_more, taken_none}
use Rattle.mc_shards.specs.Inside.Held.{HaveTaken, lock_of}
use Rattle.mc_shards.proofs.holding.take_all.Goals as goal

pub loop-n-init : goal.loop-n-init
loop-n-init g c = record {
  taken = taken_none g.row.V c.args.shards.now.locks c.args.turns.now.items c.requires.none;
  many = ap length c.requires.none;
  room = c.requires.room;
}

pub loop-n-preserved : goal.loop-n-preserved
loop-n-preserved g c =
    let was = c.loop-n.invariant in
    let V = g.row.V in
    let locks = c.args.shards.now.locks in
    let t = c.in-Some.turn in
    let lock : lock_of t ≡ c.lender.result.now = has_lock V t c.lender.result.now _ c.behind-shards.view_is c.in-Some.ensures.0 c.in-Some.ensures.1 in
    let at : slice_get locks (length c.loop-n.turns.items) ≡ Some (lock_of t) =
    subst (λ n. slice_get locks n ≡ Some (lock_of t)) (sym was.many) (c.lender.ensures.lock ∙ ap Some (sym lock)) in
    record {
      taken = subst (λ ts. HaveTaken V locks ts) (sym c.push_reserved.ensures.items) (taken_more V locks c.loop-n.turns.items t was.taken at c.in-Some.ensures.2);
      many = omega (arith, was.many, c.push_reserved.ensures.len);
      room = omega (arith, was.room, c.push_reserved.ensures.capacity);
    }
