use Rattle.std.proofs.Common.{ℕ, refl, sym, ◌∙◌, ap, subst, rules, arith, Some}
use Rattle.std.specs.Prelude.{unwrap_or}
use Rattle.std.proofs.lemmas.List.{length-set}
use Rattle.std.proofs.lemmas.Option.{slice_get_within}
use Rattle.mc_lookup.specs.Machine.{next_access, Consumes}
use Rattle.mc_words.specs.declared.shape.Shape.{Shape}
use Rattle.mc_core.specs.Inside.Parts.{shape_of_parts}
use Rattle.mc_core.specs.Inside.Seen.{MarksIn}
use Rattle.mc_theory.specs.Writes.{IsAccess}
use Rattle.mc_theory.specs.declared.access.Access.{Access}
use Rattle.mc_core.proofs.PairedLists.{if_some}
use Rattle.mc_core.proofs.ReaderSteps.{access_ends, access_goes_on, marks_in, running_of, told_is}
use Rattle.mc_core.proofs.parts.Parts.access.Goals as goal

pub returns-in-Some : goal.returns-in-Some
returns-in-Some g c =
    let old = c.args.self.now in
    let running = c.args.running in
    let next = c.after.new.self in
    let takes = if_some (next_access running.lookup) c.next_access-access.result (λ (a : Access). Consumes {V = g.row.V} running.lookup a c.read-word.result next) c.next_access-access.ensures.next c.after.ensures in
    let first = c.unwrap_or-first.ensures in
    record {
      shape = refl;
      state = refl;
      room = omega arith;
      leads = λ seen s.
          access_ends old _ seen c.args.reader running c.next_access-access.result c.read-word.result next c.in-Some.reply _ _ s c.requires.running c.requires.events c.read-word.ensures takes
          (sym c.reply.ensures.reply ∙ c.in-Some.is) (told_is c.args.reader c.key-key.result next.key c.in-Some.reply c.unwrap_or-first.result (unwrap_or running.first old.events) old.events old.events c.key-key.ensures first refl)
          refl c.mark_read.ensures.bits refl refl refl;
    }

pub returns-in-None : goal.returns-in-None
returns-in-None g c =
    let old = c.args.self.now in
    let running = c.args.running in
    let next = c.after.new.self in
    let takes = if_some (next_access running.lookup) c.next_access-access.result (λ (a : Access). Consumes {V = g.row.V} running.lookup a c.read-word.result next) c.next_access-access.ensures.next c.after.ensures in
    let first = c.unwrap_or-first.ensures in
    record {
      shape = refl;
      state = refl;
      room = omega arith;
      leads = λ seen s.
          access_goes_on old _ seen c.args.reader running c.next_access-access.result c.read-word.result next _ _ s c.requires.running c.requires.events c.read-word.ensures takes
          (sym c.reply.ensures.reply ∙ c.in-None.is) refl (ap (λ n. Some n) first)
          refl c.mark_read.ensures.bits refl refl refl;
    }

pub next_access-access-requires : goal.next_access-access-requires
next_access-access-requires g c =
    let run = running_of c.args.self.now c.requires.stands.0 c.args.reader c.args.running c.requires.stands.1 c.requires.running in
    (search rules, run.2.more)

pub read-word-requires : goal.read-word-requires
read-word-requires g c =
    let run = running_of c.args.self.now c.requires.stands.0 c.args.reader c.args.running c.requires.stands.1 c.requires.running in
    (search rules, subst (λ (sh : Shape). IsAccess g.row.V sh c.next_access-access.result) run.2.shape c.next_access-access.ensures.range)

pub after-requires : goal.after-requires
after-requires g c =
    let run = running_of c.args.self.now c.requires.stands.0 c.args.reader c.args.running c.requires.stands.1 c.requires.running in
    (search rules, run.2.more)

pub mark_read-requires : goal.mark_read-requires
mark_read-requires g c =
    let old = c.args.self.now in
    let run = running_of old c.requires.stands.0 c.args.reader c.args.running c.requires.stands.1 c.requires.running in
    let range = subst (λ (sh : Shape). IsAccess g.row.V sh c.next_access-access.result) run.2.shape c.next_access-access.ensures.range in
    subst (λ (n : ℕ). MarksIn n c.next_access-access.result) (sym old.marked) (marks_in g.row.V (shape_of_parts old) c.next_access-access.result range)

pub reply-requires : goal.reply-requires
reply-requires g c = (omega (arith, c.args.self.now.writer.table.most_words), omega (arith, c.args.self.now.writer.table.most_words))

pub key-key-requires : goal.key-key-requires
key-key-requires g c = omega (arith, c.args.self.now.writer.table.most_words)

pub overflow_add-self : goal.overflow_add-self
overflow_add-self g c = omega (arith, c.requires.events)

pub index_mut-requires : goal.index_mut-requires
index_mut-requires g c =
    let old = c.args.self.now in
    omega (arith, slice_get_within old.readers.items c.args.reader (Some c.args.running) c.requires.running, old.readers.ok.0)

pub index_mut-requires-in-None : goal.index_mut-requires-in-None
index_mut-requires-in-None g c =
    let old = c.args.self.now in
    omega (arith, slice_get_within old.readers.items c.args.reader (Some c.args.running) c.requires.running, old.readers.ok.0)

pub invariant_of-self : goal.invariant_of-self
invariant_of-self g c =
    let old = c.args.self.now in
    record { marked = c.mark_read.ensures.many ∙ old.marked; countable = rw length-set old.countable }

pub invariant_of-self-in-None : goal.invariant_of-self-in-None
invariant_of-self-in-None g c =
    let old = c.args.self.now in
    record { marked = c.mark_read.ensures.many ∙ old.marked; countable = rw length-set old.countable }
