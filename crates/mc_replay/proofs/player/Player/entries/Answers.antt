use Rattle.mc_replay.proofs.WriterCalls.{agrees_now}
use Rattle.mc_replay.specs.Inside.Players.{shape_of_player}
use Rattle.mc_theory.specs.Lists.{state_of}
use Rattle.std.proofs.Common.{arith, refl}
use Rattle.mc_words.specs.Checks.{shape_of}
use Rattle.mc_replay.proofs.LoadedWorlds.{few_in_order}
use Rattle.mc_replay.proofs.player.Player.entries.Goals as goal

pub returns-in-Ok-clause-few : goal.returns-in-Ok-clause-few
returns-in-Ok-clause-few g c =
    let few = few_in_order g.row.V (shape_of c.checked.result) _ 0 (shape_of c.checked.result).items c.in-Ok.entries.items c.in-Ok.ensures.order in
    omega (arith, few, c.checked.result.sound.items.1, c.checked.result.sound.buckets.1)

pub checked-requires : goal.checked-requires
checked-requires g c = omega (arith, c.requires.2.knows.books.width)

pub entries-requires-room-P-Peek : goal.entries-requires-room-P-Peek
entries-requires-room-P-Peek g c κs = omega (arith, c.requires.2.knows.books.width)

pub entries-requires : goal.entries-requires
entries-requires g c =
    let idle = c.requires.2 in (
      omega (arith, idle.knows.books.width),
      (
        idle.knows.books.width,
        ((state_of g.row.V (shape_of_player {V = g.row.V} c.args.self.now) c.requires.1.acts).history, agrees_now g.row.V c.args.self.now c.requires.0 c.requires.1 _ idle c.checked.ensures),
      ),
    )

pub returns-in-Ok-clause-refused : goal.returns-in-Ok-clause-refused
returns-in-Ok-clause-refused g c = tt

pub returns-in-Err-clause-entries : goal.returns-in-Err-clause-entries
returns-in-Err-clause-entries g c = tt

pub returns-in-Err-clause-few : goal.returns-in-Err-clause-few
returns-in-Err-clause-few g c = tt

pub returns-in-Err-clause-refused : goal.returns-in-Err-clause-refused
returns-in-Err-clause-refused g c = refl
