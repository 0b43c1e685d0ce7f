use Rattle.std.proofs.Common.{◌≡◌, ◌+◌, ap, arith, length, refl, vec_len}
use Rattle.mc_words.proofs.Powers.{is_power-pow}
use Rattle.mc_words.specs.Shapes.{HasShards}
use Rattle.mc_shared.specs.declared.layout.Layout.{Layout}
use Rattle.mc_load.specs.ShardLoads.{CanTakeTurns}
use Rattle.mc_load.specs.Lookups.{one_shard}
use Rattle.mc_load.proofs.Refused.{refused_by_no_gate, seats_refused}
use Rattle.mc_load.proofs.Works.{new_length}
use Rattle.mc_load.proofs.turns_load.run_desk.Goals as goal

one : HasShards 1
one = (omega arith, omega arith, is_power-pow 0 (omega arith))

pub returns-in-Err : goal.returns-in-Err
returns-in-Err g c = refused_by_no_gate (g.G.Gate.may_refuse c.args.gate.now) c.args.load 1 c.args.writers c.in-Err.why (c.in-Err.ensures 1)

pub returns-in-Err-open_by : goal.returns-in-Err-open_by
returns-in-Err-open_by g c = (
  c.in_default.ensures.0,
  c.in_default.ensures.1,
  one,
  seats_refused c.args.load.shape c.args.load.readers c.args.writers c.seats_of-seats.result c.in-Err-open_by.why c.in_default.ensures.0 c.seats_of-seats.ensures.asked c.seats_of-seats.ensures.had c.in-Err-open_by.ensures.cache,
)

pub run_workers-requires-after_bounds : goal.run_workers-requires-after_bounds
run_workers-requires-after_bounds g c = λ κs lives.
    let o = c.in-Ok.opened.0 in
    let told = c.seats_of-seats.ensures.asked c.in-Ok.ensures.asked.1 in
    let many = told.1 in
    let most = c.in-Ok.ensures.asked.1.1 in
    let can : CanTakeTurns c.args.load 1 c.args.writers = record {
      some = c.in_default.ensures.0;
      keys = c.in_default.ensures.1;
      parts = one;
      shape = c.in-Ok.ensures.asked.0;
      seats = (told.0, omega (arith, many, most));
    } in
    let len : vec_len c.in-Ok-desk_handles.handles ≡ c.args.load.readers + c.args.writers = omega (arith, many, c.in-Ok-desk_handles.ensures.len, ap length c.in-Ok.ensures.readers, new_length o c.seats_of-seats.result, c.in-Ok.opened.2.ok.0) in
    (omega arith, (c.requires.width, (can, (len, (one_shard o, ap (λ (l : Layout). l.shape) c.in-Ok.ensures.cache, refl, c.in-Ok-desk_handles.ensures.of)))))

pub returns : goal.returns
returns g c =
    let told = c.seats_of-seats.ensures.asked c.in-Ok.ensures.asked.1 in
    let many = told.1 in
    let most = c.in-Ok.ensures.asked.1.1 in
    record {
      some = c.in_default.ensures.0;
      keys = c.in_default.ensures.1;
      parts = one;
      shape = c.in-Ok.ensures.asked.0;
      seats = (told.0, omega (arith, many, most));
    }
