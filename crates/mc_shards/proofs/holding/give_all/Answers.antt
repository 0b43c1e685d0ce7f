use Rattle.std.proofs.Common.{◌∙◌, ◌≡◌, ap, arith, length, sym}
use Rattle.std.specs.Prelude.{slice_get}
use Rattle.std.proofs.lemmas.List.{length-map}
use Rattle.std.proofs.lemmas.Option.{same_Some, slice_get_within}
use Rattle.mc_shards.proofs.HeldTurns.{taken_less}
use Rattle.mc_shards.specs.Inside.Held.{lock_of}
use Rattle.mc_shards.specs.Lending.{Lock, table_of}
use Rattle.mc_shards.proofs.holding.give_all.Goals as goal

pub lender-requires : goal.lender-requires
lender-requires g c =
    let V = g.row.V in
    let locks = c.args.shards.now.locks in
    let less = taken_less V locks c.loop-turn.turns.items c.pop.new.self.items c.in-Some.turn c.in-Some.ensures.items c.loop-turn.invariant.taken in
    (omega arith, (omega arith, omega (arith, slice_get_within locks (length c.pop.new.self.items) _ less.1, c.len.ensures, ap length c.known.ensures, length-map locks table_of)))

pub give-requires : goal.give-requires
give-requires g c =
    let V = g.row.V in
    let locks = c.args.shards.now.locks in
    let less = taken_less V locks c.loop-turn.turns.items c.pop.new.self.items c.in-Some.turn c.in-Some.ensures.items c.loop-turn.invariant.taken in
    let many : length c.pop.new.self.items ≡ c.len.result = omega (arith, c.len.ensures) in
    let lock : lock_of c.in-Some.turn ≡ c.lender.result.now = same_Some _ _ (sym less.1 ∙ (ap (slice_get locks) many ∙ c.lender.ensures.lock)) in
    (omega arith, (omega arith, (c.behind-shards.invariant, (ap (λ (l : Lock). l.id) (lock ∙ sym c.behind-shards.view_is), ap (λ (l : Lock). l.key) (lock ∙ sym c.behind-shards.view_is), less.2))))

pub loop-turn-preserved : goal.loop-turn-preserved
loop-turn-preserved g c = record {
  taken = (taken_less g.row.V c.args.shards.now.locks c.loop-turn.turns.items c.pop.new.self.items c.in-Some.turn c.in-Some.ensures.items c.loop-turn.invariant.taken).0;
  room = omega (arith, c.in-Some.ensures.capacity, c.loop-turn.invariant.room);
}
