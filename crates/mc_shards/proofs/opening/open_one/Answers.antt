use Rattle.std.proofs.Common.{arith}
use Rattle.mc_shards.proofs.Dealt.{as_many_new, fresh_new}
use Rattle.mc_shards.proofs.opening.open_one.Goals as goal

pub deal-requires : goal.deal-requires
deal-requires g c =
    let cache = c.in_ok-cache.cache in
    let readers = c.in_ok-cache.readers.items in (
      omega arith,
      (
        omega arith,
        (
          omega arith,
          (
            omega (arith, as_many_new cache c.args.all readers c.in_ok-cache.ensures.readers, c.requires.many),
            (fresh_new cache readers c.in_ok-cache.ensures.fresh, c.requires.given),
          ),
        ),
      ),
    )

pub returns-in-Ok-clause-rest : goal.returns-in-Ok-clause-rest
returns-in-Ok-clause-rest g c =
    let cache = c.in_ok-cache.cache in
    let readers = c.in_ok-cache.readers.items in
    omega (arith, c.in-Ok.ensures.rest, as_many_new cache c.args.all readers c.in_ok-cache.ensures.readers)
