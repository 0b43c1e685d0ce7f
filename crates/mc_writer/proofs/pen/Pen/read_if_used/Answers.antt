use Rattle.std.proofs.Common.{Bool, Some, None, ap, cond, eq-eqb, refl, sym}
use Rattle.std.proofs.lemmas.Bool.{ne_eqb}
use Rattle.mc_words.specs.Places.{slot_number}
use Rattle.mc_writer.specs.Inside.Pens.{state_at}
use Rattle.mc_writer.proofs.Rounds.{read_after, read_none}
use Rattle.mc_writer.proofs.pen.Pen.read_if_used.Goals as goal

pub returns-in_default-clause-read : goal.returns-in_default-clause-read
returns-in_default-clause-read g c before rs more can =
    let b = c.args.books.now in
    let free = c.in_default.ensures.named b.hand (state_at g.row.V c.args.self.now) can.searched.known refl in
    read_none g.row.V b before c.args.self.now rs c.args.i more can c.named.new.peek c.named.ensures.kept free

pub returns-then-bit-eq0-clause-read : goal.returns-then-bit-eq0-clause-read
returns-then-bit-eq0-clause-read g c before rs more can =
    let b = c.args.books.now in
    let bit = c.turn_hand_unless_clear-bit.result in
    let victim = c.in-Some.ensures.named b.hand (state_at g.row.V c.args.self.now) can.searched.known refl in
    let told = sym (ap (λ (x : Bool). cond x (Some c.args.i) None) (eq-eqb bit 0 c.if-bit-eq0.true)) in
    read_after g.row.V b c.hand_past.new.self before c.args.self.now c.named.new.peek _ rs c.args.i more bit (slot_number c.in-Some.field-0.place) (Some c.args.i) can c.named.ensures.kept (record { cells = refl; seat = refl })
    c.turn_hand_unless_clear-bit.ensures.acted victim.stands.names c.hand_past.ensures told

pub returns-else-bit-eq0-clause-read : goal.returns-else-bit-eq0-clause-read
returns-else-bit-eq0-clause-read g c before rs more can =
    let b = c.args.books.now in
    let bit = c.turn_hand_unless_clear-bit.result in
    let victim = c.in-Some.ensures.named b.hand (state_at g.row.V c.args.self.now) can.searched.known refl in
    let told = sym (ap (λ (x : Bool). cond x (Some c.args.i) None) (ne_eqb bit 0 c.if-bit-eq0.false)) in
    read_after g.row.V b c.hand_past.new.self before c.args.self.now c.named.new.peek _ rs c.args.i more bit (slot_number c.in-Some.field-0.place) None can c.named.ensures.kept (record { cells = refl; seat = refl })
    c.turn_hand_unless_clear-bit.ensures.acted victim.stands.names c.hand_past.ensures told
