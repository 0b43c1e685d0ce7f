use Rattle.std.proofs.Common.{◌≡◌, take, arith, rules, take-add, append-nil, length-drop}
use Rattle.std.proofs.KnownBytes.{Appends-kept, Appends-nil, Appends-trans}
use Rattle.mc_script.proofs.Unwritten.{slice-end}
use Rattle.mc_script.proofs.output.send.Goals as goal
use Rattle.mc_script.proofs.output.send.Goals.{in-Ok, in-Err+else-ne}

pub writes-init : goal.writes-init
writes-init g c = (omega arith, Appends-nil _)

pub returns-then-sent-bytes-clause-taken : goal.returns-then-sent-bytes-clause-taken
returns-then-sent-bytes-clause-taken g c = c.writes.invariant.1

pub returns-then-sent-bytes-clause-all : goal.returns-then-sent-bytes-clause-all
returns-then-sent-bytes-clause-all g c = λ _. omega (arith, c.writes.invariant.0, c.if-sent-bytes.true)

pub returns-in-Ok-eq0-clause-taken : goal.returns-in-Ok-eq0-clause-taken
returns-in-Ok-eq0-clause-taken g c =
    let zero : c.in-Ok-eq0.field-0 ≡ 0 = search rules in
    let none = rw zero at c.in-Ok-eq0.ensures.bytes in
    rw (append-nil (take c.writes.sent c.args.bytes.now)) at (Appends-trans _ _ _ _ _ c.writes.invariant.1 none)

pub returns-then-ne-clause-taken : goal.returns-then-ne-clause-taken
returns-then-ne-clause-taken g c = Appends-kept _ _ _ _ c.writes.invariant.1 c.in-Err.ensures.bytes

pub writes-preserved : goal.writes-preserved
writes-preserved g c =
    let inv = c.writes.invariant in
    let all = c.args.bytes.now in
    let sent = c.writes.sent in
    elim c.match-write.branch [
      | in-Ok w ↦
          let more = rw (slice-end all sent) at w.in-Ok.ensures.bytes in
          let bound = rw (slice-end all sent) at w.in-Ok.ensures.bound in
          rw (w.sent-is, take-add sent w.in-Ok.n all) (omega (arith, inv.0, bound, length-drop sent all), Appends-trans _ _ _ _ _ inv.1 more)
      | in-Err+else-ne w ↦ rw w.sent-is (inv.0, Appends-kept _ _ _ _ inv.1 w.in-Err.ensures.bytes)
    ]

pub returns-clause-taken : goal.returns-clause-taken
returns-clause-taken g c = c.writes.invariant.1
