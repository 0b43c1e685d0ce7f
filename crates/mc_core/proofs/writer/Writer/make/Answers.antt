use Rattle.mc_core.proofs.writer.Writer.make.Goals as goal
use Rattle.std.proofs.Common.{rules, sym, subst, arith}
use Rattle.mc_words.proofs.Keys.{stripe_of-lt}
use Rattle.mc_words.specs.Keys.{stripe_of}
use Rattle.mc_core.specs.Inside.Writers.{shape_of_writer, IsMade}
use Rattle.mc_theory.specs.declared.act.Act.{Act}
use Rattle.mc_core.proofs.MadeActs.{on_ok}

pub open_deed-requires : goal.open_deed-requires
open_deed-requires g c =
    let w = c.args.self.now in
    let low = c.requires.counted.versions (stripe_of (shape_of_writer w) c.in-Open.key) (stripe_of-lt (shape_of_writer w) c.in-Open.key w.table.checked.sound) in
    (search rules, (c.requires.used, (omega (arith, low, c.requires.version_steps), omega (arith, c.requires.version_steps))))

pub returns-in-Moment-clause-ok : goal.returns-in-Moment-clause-ok
returns-in-Moment-clause-ok g c =
    on_ok c.count_moment.result _ _ (λ made. subst (λ (a : Act). IsMade c.args.self.now c.count_moment.new.self a c.args.bit) (sym c.in-Moment.is) (made c.args.bit)) c.count_moment.ensures.ok

pub returns-in-Open-clause-ok : goal.returns-in-Open-clause-ok
returns-in-Open-clause-ok g c = subst (λ (a : Act). IsMade c.args.self.now c.open_deed.new.self a c.args.bit) (sym c.in-Open.is) (c.open_deed.ensures c.args.bit)

pub returns-in-Slot-clause-ok : goal.returns-in-Slot-clause-ok
returns-in-Slot-clause-ok g c = subst (λ (a : Act). IsMade c.args.self.now c.write_slot.new.self a c.args.bit) (sym c.in-Slot.is) (c.write_slot.ensures c.args.bit)

pub returns-in-Item-clause-ok : goal.returns-in-Item-clause-ok
returns-in-Item-clause-ok g c = subst (λ (a : Act). IsMade c.args.self.now c.write_item.new.self a c.args.bit) (sym c.in-Item.is) (c.write_item.ensures c.args.bit)

pub returns-in-Close-clause-ok : goal.returns-in-Close-clause-ok
returns-in-Close-clause-ok g c = subst (λ (a : Act). IsMade c.args.self.now c.close_deed.new.self a c.args.bit) (sym c.in-Close.is) (c.close_deed.ensures c.args.bit)
