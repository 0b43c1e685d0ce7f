use Rattle.std.proofs.Common.{◌∙◌, ◌+◌, ◌-◌, ◌++◌, ◌∷◌, [], ap, arith, length, List, map, refl, Some, sym}
use Rattle.std.proofs.lemmas.List.{map-append}
use Rattle.mc_shared.specs.Records.{Opening, ReaderRecord}
use Rattle.mc_shards.proofs.Spared.{all_long, all_popped, not_popped, popped, popped_more, zip_long}
use Rattle.mc_shards.proofs.spares.Spares.next.Goals as goal

pub loop-n-init : goal.loop-n-init
loop-n-init g c =
    let lists = all_long c.args.self.now.count c.args.shards.now.tables c.args.self.now.lists.items c.requires.of in
    record {
      of = lists.0;
      popped = lists.1;
      count = refl;
      many = ap length c.requires.room.0;
      room = c.requires.room.1;
      pass = ap (map (λ (r : ReaderRecord). r.of)) c.requires.room.0;
    }

pub index_mut-requires : goal.index_mut-requires
index_mut-requires g c =
    omega (arith, c.loop-n-test.true, c.count-n-end.ensures.count, zip_long c.args.shards.now.tables c.loop-n.self.lists.items c.loop-n.invariant.of, c.loop-n.self.lists.ok.0, c.loop-n.auto.n-end)

pub unreachable-requires : goal.unreachable-requires
unreachable-requires g c =
    let was = c.loop-n.invariant in
    let long = not_popped c.loop-n.n c.args.self.now.count c.loop-n.self.lists.items c.index_mut.result.now was.popped
    (omega (arith, c.loop-n-test.true, c.count-n-end.ensures.count, c.loop-n.auto.n-end, zip_long c.args.shards.now.tables c.loop-n.self.lists.items was.of)) (sym c.index_mut.ensures.value) in
    omega (arith, long, c.in_default.ensures.cases.0, c.index_mut.result.now.ok.0, c.requires.some)

pub loop-n-preserved : goal.loop-n-preserved
loop-n-preserved g c =
    let reader : ReaderRecord = c.in-Some.reader in
    let of : ReaderRecord → Opening = λ r. r.of in
    let was = c.loop-n.invariant in
    let taken = popped c.args.shards.now.tables c.loop-n.self.lists.items c.loop-n.n (c.loop-n.n + 1) c.index_mut.result.now c.pop.new.self (Some reader) was.of
    (omega (arith, c.loop-n-test.true, c.count-n-end.ensures.count, c.loop-n.auto.n-end)) (omega arith) (sym c.index_mut.ensures.value) c.in-Some.ensures.items in
    record {
      of = taken.0;
      popped = popped_more c.loop-n.n (c.loop-n.n + 1) c.args.self.now.count c.loop-n.self.lists.items c.index_mut.result.now c.pop.new.self reader was.popped
          (omega (arith, c.loop-n-test.true, c.count-n-end.ensures.count, c.loop-n.auto.n-end, zip_long c.args.shards.now.tables c.loop-n.self.lists.items was.of)) (omega arith) (sym c.index_mut.ensures.value) c.in-Some.ensures.items;
      count = was.count;
      many = omega (arith, was.many, c.push_reserved.ensures.len);
      room = omega (arith, was.room, c.push_reserved.ensures.capacity);
      pass = ap (map of) c.push_reserved.ensures.items ∙ (map-append of c.loop-n.room.items (reader ∷ []) ∙ (ap (λ (os : List Opening). os ++ reader.of ∷ []) was.pass ∙ sym taken.1));
    }

pub returns-clause-of : goal.returns-clause-of
returns-clause-of g c =
    let was = c.loop-n.invariant in
    all_popped c.loop-n.n c.args.self.now.count (c.loop-n.self.count - 1) c.args.shards.now.tables c.loop-n.self.lists.items was.of was.popped
    (omega (arith, c.loop-n-test.false, c.count-n-end.ensures.count, zip_long c.args.shards.now.tables c.loop-n.self.lists.items was.of)) (omega (arith, was.count, c.requires.some))
