use Rattle.std.proofs.Common.{◌≡◌, List, ap, arith, length, map, subst, sym}
use Rattle.std.proofs.lemmas.List.{length-map}
use Rattle.mc_shared.specs.Records.{ReaderRecord}
use Rattle.mc_cache.specs.Plain.{history}
use Rattle.mc_shards.proofs.HeldTurns.{begins_to_hold, taken_all}
use Rattle.mc_shards.specs.Inside.Held.{HaveWriters, writers_of}
use Rattle.mc_shards.specs.Lending.{table_of}
use Rattle.mc_shards.specs.Plain.{AllBegin, seens}
use Rattle.mc_shards.specs.Sharded.{ArePassOf}
use Rattle.mc_shards.specs.declared.lending.Turn.{Turn}
use Rattle.mc_shards.proofs.pass.Pass.hold.Goals as goal

pub meet-requires : goal.meet-requires
meet-requires g c =
    let s = c.args.shards.now in
    let turns = c.take_all.new.turns.items in
    let many : length turns ≡ length s.locks = omega (arith, c.if-not-take_all.ensures.all, ap length c.known.ensures, length-map s.locks table_of) in (
      omega arith,
      (
        omega arith,
        (
          omega arith,
          (
            subst (ArePassOf s) (sym c.into_parts-readers.ensures.readers) c.requires.of,
            (c.take_all.ensures.taken.writers, taken_all g.row.V s.locks turns c.take_all.ensures.taken many),
          ),
        ),
      ),
    )

pub invariant_of-result-2 : goal.invariant_of-result-2
invariant_of-result-2 g c = (
  subst (λ (ts : List (Turn g.row.V)). HaveWriters ts) (sym c.meet.ensures.turns.0) c.take_all.ensures.taken.writers,
  omega (arith, c.meet.ensures.turns.1, c.take_all.ensures.room),
)

pub returns : goal.returns
returns g c =
    let V = g.row.V in
    let s = c.args.shards.now in
    let turns = c.take_all.new.turns.items in
    let many : length turns ≡ length s.locks = omega (arith, c.if-not-take_all.ensures.all, ap length c.known.ensures, length-map s.locks table_of) in
    begins_to_hold V s c.args.self c.meet.new.readers.items turns c.meet.new.turns.items c.meet.ensures.turns.0 c.meet.ensures.readers c.take_all.ensures.taken.writers (taken_all V s.locks turns c.take_all.ensures.taken many)
    c.known.ensures c.meet.ensures.met (subst (λ (rs : List ReaderRecord). AllBegin (seens V rs) (map (history V) (writers_of turns))) c.into_parts-readers.ensures.readers c.meet.ensures.begins)
