use Rattle.std.proofs.Common.{◌≡◌, arith, refl, ap, sym, subst}
use Rattle.mc_theory.specs.Lists.{state_of}
use Rattle.mc_theory.specs.States.{State}
use Rattle.mc_plan.specs.WholeCalls.{PutCall, PutIfCall, RemoveCall, KeptCall}
use Rattle.mc_replay.specs.Inside.Players.{shape_of_player, call_of, IsInCall}
use Rattle.mc_replay.specs.Replay.{pending}
use Rattle.mc_replay.specs.declared.player.Call.{Call}
use Rattle.mc_replay.specs.declared.player.Player.{Player}
use Rattle.mc_replay.proofs.WriterCalls.{begun, begins_as, TellsAs}
use Rattle.mc_replay.proofs.player.Player.begin.Goals as goal
use Rattle.mc_replay.proofs.player.Player.begin.Goals.{in-Put, in-PutIf, in-Remove, in-PutKept}

pub returns : goal.returns
returns g c = λ most w idle.
    let old : Player g.row.V = c.args.self.now in
    let mid : Player g.row.V = c.match-call.self in
    let new : Player g.row.V = record { world = c.match-call.self.world; clerk = c.answer.new.self } in
    let s : State g.row.V = state_of g.row.V (shape_of_player old) w.acts in
    let words = ap (λ (y : State g.row.V). y.words) idle.at.world.state in
    let in_call : (shape_of_player mid ≡ shape_of_player old) × IsInCall g.row.V mid most (pending (call_of c.args.call) s) w = elim c.match-call.branch [
      | in-Put b ↦ (
          let put : Player g.row.V = record { world = old.world; clerk = b.put.new.self } in
          let on = b.put.ensures.on s idle.knows words in
          let begins = begun g.row.V old put most (PutCall b.in-Put.key b.in-Put.value) w idle refl b.put.ensures.shape on (omega (arith, b.put.ensures.left, b.put.new.self.books.checked.sound.items, b.put.new.self.books.checked.sound.buckets)) in
          subst (λ (m : Player g.row.V). (shape_of_player m ≡ shape_of_player old) × IsInCall g.row.V m most (pending (call_of c.args.call) s) w) (sym b.self-is) (refl, subst (λ (x : Call g.row.V). IsInCall g.row.V put most (pending (call_of x) s) w) (sym b.in-Put.is) begins)
          )
      | in-PutIf b ↦ (
          let put : Player g.row.V = record { world = old.world; clerk = b.put_if.new.self } in
          let on = b.put_if.ensures.on s idle.knows words in
          let begins = begun g.row.V old put most (PutIfCall b.in-PutIf.key b.in-PutIf.since b.in-PutIf.value) w idle refl b.put_if.ensures.shape on (omega (arith, b.put_if.ensures.left)) in
          subst (λ (m : Player g.row.V). (shape_of_player m ≡ shape_of_player old) × IsInCall g.row.V m most (pending (call_of c.args.call) s) w) (sym b.self-is) (refl, subst (λ (x : Call g.row.V). IsInCall g.row.V put most (pending (call_of x) s) w) (sym b.in-PutIf.is) begins)
          )
      | in-Remove b ↦ (
          let removed : Player g.row.V = record { world = old.world; clerk = b.remove.new.self } in
          let on = b.remove.ensures.on s idle.knows words in
          let begins = begun g.row.V old removed most (RemoveCall b.in-Remove.key) w idle refl b.remove.ensures.shape on (omega (arith, b.remove.ensures.left)) in
          subst (λ (m : Player g.row.V). (shape_of_player m ≡ shape_of_player old) × IsInCall g.row.V m most (pending (call_of c.args.call) s) w) (sym b.self-is) (refl, subst (λ (x : Call g.row.V). IsInCall g.row.V removed most (pending (call_of x) s) w) (sym b.in-Remove.is) begins)
          )
      | in-PutKept b ↦ (
          let put : Player g.row.V = record { world = old.world; clerk = b.put_kept.new.self } in
          let on = b.put_kept.ensures.on s idle.knows words in
          let begins = begun g.row.V old put most (KeptCall b.in-PutKept.key b.in-PutKept.value) w idle refl b.put_kept.ensures.shape on (omega (arith, b.put_kept.ensures.left)) in
          subst (λ (m : Player g.row.V). (shape_of_player m ≡ shape_of_player old) × IsInCall g.row.V m most (pending (call_of c.args.call) s) w) (sym b.self-is) (refl, subst (λ (x : Call g.row.V). IsInCall g.row.V put most (pending (call_of x) s) w) (sym b.in-PutKept.is) begins)
          )
    ] in
    let tells : TellsAs g.row.V mid new c.answer.result = record { world = refl; shape = c.answer.ensures.shape; ends = c.answer.ensures.some; some = c.answer.ensures.told; none = c.answer.ensures.none } in
    (in_call.0, begins_as g.row.V old mid new most (call_of c.args.call) w c.answer.result in_call.1 in_call.0 tells)

pub put-requires-room-P-Peek : goal.put-requires-room-P-Peek
put-requires-room-P-Peek g c κs = omega (arith, c.requires.2.knows.books.width)

pub put-requires : goal.put-requires
put-requires g c =
    let idle = c.requires.2 in
    (omega (arith, idle.knows.books.width), (omega (arith, idle.knows.books.width), (state_of g.row.V (shape_of_player {V = g.row.V} c.args.self.now) c.requires.1.acts, idle.knows, ap (λ (y : State g.row.V). y.words) idle.at.world.state)))

pub put_if-requires-room-P-Peek : goal.put_if-requires-room-P-Peek
put_if-requires-room-P-Peek g c κs = omega (arith, c.requires.2.knows.books.width)

pub put_if-requires : goal.put_if-requires
put_if-requires g c =
    let idle = c.requires.2 in
    (omega (arith, idle.knows.books.width), (omega (arith, idle.knows.books.width), (state_of g.row.V (shape_of_player {V = g.row.V} c.args.self.now) c.requires.1.acts, idle.knows, ap (λ (y : State g.row.V). y.words) idle.at.world.state)))

pub remove-requires-room-P-Peek : goal.remove-requires-room-P-Peek
remove-requires-room-P-Peek g c κs = omega (arith, c.requires.2.knows.books.width)

pub remove-requires : goal.remove-requires
remove-requires g c =
    let idle = c.requires.2 in
    (omega (arith, idle.knows.books.width), (state_of g.row.V (shape_of_player {V = g.row.V} c.args.self.now) c.requires.1.acts, idle.knows, ap (λ (y : State g.row.V). y.words) idle.at.world.state))

pub put_kept-requires-room-P-Peek : goal.put_kept-requires-room-P-Peek
put_kept-requires-room-P-Peek g c κs = omega (arith, c.requires.2.knows.books.width)

pub put_kept-requires : goal.put_kept-requires
put_kept-requires g c =
    let idle = c.requires.2 in
    (omega (arith, idle.knows.books.width), (omega (arith, idle.knows.books.width), (state_of g.row.V (shape_of_player {V = g.row.V} c.args.self.now) c.requires.1.acts, idle.knows, ap (λ (y : State g.row.V). y.words) idle.at.world.state)))

pub answer-requires : goal.answer-requires
answer-requires g c = omega (arith, c.requires.2.knows.books.width)
