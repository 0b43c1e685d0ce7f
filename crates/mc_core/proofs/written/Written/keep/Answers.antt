use Rattle.std.proofs.Common.{arith}
use Rattle.mc_words.proofs.Payload.{payload_is}
use Rattle.mc_core.proofs.WrittenWords.{kept_in_value, kept_as_stamp}
use Rattle.mc_core.proofs.written.Written.keep.Goals as goal

pub returns-then-place : goal.returns-then-place
returns-then-place g c =
    let v = c.args.self.now in
    kept_in_value v.value v.stamp c.args.count c.from-place.result c.args.word c.from-place.ensures (omega (arith, c.if-place.true, c.from-place.ensures, v.whole))

pub returns-else-place : goal.returns-else-place
returns-else-place g c =
    let v = c.args.self.now in
    kept_as_stamp v.value v.stamp c.args.count c.args.word (omega (arith, c.if-place.false, c.from-place.ensures, c.requires, v.whole, payload_is g.row.V))
