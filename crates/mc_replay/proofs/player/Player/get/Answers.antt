use Rattle.std.proofs.Common.{◌+◌, ◌<◌, [], refl, subst, arith}
use Rattle.mc_words.specs.declared.shape.Shape.{Shape}
use Rattle.mc_theory.specs.Lists.{state_of}
use Rattle.mc_replay.specs.Inside.Players.{shape_of_player, most_steps}
use Rattle.mc_replay.specs.declared.player.Player.{Player}
use Rattle.mc_replay.proofs.WriterCalls.{agrees_now, looks_found, looks_missed, idle_more, makes_none}
use Rattle.mc_replay.proofs.ReaderLines.{player_room}
use Rattle.mc_replay.proofs.player.Player.get.Goals as goal

pub mark-requires : goal.mark-requires
mark-requires g c =
    let first = c.requires in
    let stands = c.in-Some.ensures.item.1 in
    let in_items : c.in-Some.held.item < (shape_of_player {V = g.row.V} c.args.self.now).items = subst (λ (y : Shape). c.in-Some.held.item < y.items) c.checked-checked.ensures stands.names.in_items in
    (player_room _ _ (omega (arith, c.requires.2.knows.books.width)) (omega (arith, c.requires.2.knows.books.width)), (first.0, first.1, first.2, first.3, in_items))

pub returns-in-Some : goal.returns-in-Some
returns-in-Some g c = λ most w idle room.
    let old : Player g.row.V = c.args.self.now in
    let marked = c.mark.ensures most w idle room in
    let agrees = agrees_now g.row.V old most w _ idle c.checked-checked.ensures in
    let value = c.in-Some.ensures.found (state_of g.row.V (shape_of_player old) w.acts).history agrees in
    record {
      acts = _;
      after = marked.after;
      looks = looks_found g.row.V old most c.args.key c.in-Some.held.item c.moment-at.result c.in-Some.held.since c.in-Some.ensures.item.0 c.in-Some.held.value w _ idle c.checked-checked.ensures value c.moment-at.ensures.value c.in-Some.ensures.item.1;
      makes = marked.makes;
      shape = marked.shape;
      idle = idle_more g.row.V c.mark.new.self (most + 1) (most + most_steps) marked.after (omega arith) marked.idle;
    }

pub returns-in-None : goal.returns-in-None
returns-in-None g c = λ most w idle room.
    let old : Player g.row.V = c.args.self.now in
    let agrees = agrees_now g.row.V old most w _ idle c.checked-checked.ensures in
    let absent = c.in-None.ensures.none (state_of g.row.V (shape_of_player old) w.acts).history agrees in
    record {
      acts = [];
      after = w;
      looks = looks_missed g.row.V old most c.args.key c.moment-at.result w _ idle c.checked-checked.ensures absent c.moment-at.ensures.value;
      makes = makes_none g.row.V (shape_of_player old) w;
      shape = refl;
      idle = idle_more g.row.V old most (most + most_steps) w (omega arith) idle;
    }

pub checked-checked-requires : goal.checked-checked-requires
checked-checked-requires g c = omega (arith, c.requires.2.knows.books.width)

pub moment-at-requires-room-P-Peek : goal.moment-at-requires-room-P-Peek
moment-at-requires-room-P-Peek g c κs = omega (arith, c.requires.2.knows.books.width)

pub moment-at-requires : goal.moment-at-requires
moment-at-requires g c =
    let agrees = agrees_now g.row.V c.args.self.now c.requires.0 c.requires.1 _ c.requires.2 c.checked-checked.ensures in
    omega (arith, agrees.size)

pub read-requires-room-P-Peek : goal.read-requires-room-P-Peek
read-requires-room-P-Peek g c κs = omega (arith, c.requires.2.knows.books.width)

pub read-requires : goal.read-requires
read-requires g c = (
  omega (arith, c.requires.2.knows.books.width),
  (
    c.requires.2.knows.books.width,
    ((state_of g.row.V (shape_of_player c.args.self.now) c.requires.1.acts).history, agrees_now g.row.V c.args.self.now c.requires.0 c.requires.1 _ c.requires.2 c.checked-checked.ensures),
  ),
)
