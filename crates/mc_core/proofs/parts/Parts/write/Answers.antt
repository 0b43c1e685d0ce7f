use Rattle.std.proofs.Common.{ℕ, rules, arith, sym, subst, refl, ap, ◌∙◌}
use Rattle.mc_words.specs.Checks.{shape_of}
use Rattle.mc_words.specs.declared.checked.Checked.{Checked}
use Rattle.mc_core.specs.Inside.Seen.{ReadsIn}
use Rattle.mc_core.specs.Inside.Tables.{shape_of_table}
use Rattle.mc_theory.specs.Acts.{IsAllowedByClock}
use Rattle.mc_theory.specs.States.{State}
use Rattle.mc_theory.specs.Traces.{HasVersionSteps, bit_of, given_of}
use Rattle.mc_core.specs.Inside.Writers.{shape_of_writer, words_of_writer, phase_at, IsMade}
use Rattle.mc_core.specs.declared.table.Table.{Table}
use Rattle.mc_core.proofs.ShownWorld.{holds_of, counted_of, hand_of, reads_in, ok_of, err_of, stand_after, memory_wanting}
use Rattle.mc_core.proofs.WorldSteps.{not_wanting}
use Rattle.mc_core.proofs.parts.Parts.write.Goals as goal

pub allows-requires : goal.allows-requires
allows-requires g c = let s = c.requires.1 in (search rules, (holds_of c.args.self.now c.requires.0 s, s.used))

pub is_within-requires : goal.is_within-requires
is_within-requires g c =
    let limit = c.args.self.now.writer.table.checked.sound.limit in
    (search rules, omega (arith, c.requires.1.within, limit))

pub bit_of-bit-requires : goal.bit_of-bit-requires
bit_of-bit-requires g c =
    let s = c.requires.1 in
    let world = c.args.self.now in
    let w = world.writer in
    subst (λ (n : ℕ). ReadsIn n c.args.act) (sym world.marked) (reads_in g.row.V (shape_of_writer w) (words_of_writer w) w.hand w.cleared (phase_at w.written w.progress) c.args.act ((c.if-not-allows.ensures {u = tt}).0 refl).0)

pub make-requires : goal.make-requires
make-requires g c =
    let s = c.requires.1 in
    let world = c.args.self.now in
    let limit = world.writer.table.checked.sound.limit in
    (search rules, (holds_of world c.requires.0 s, (s.used, (hand_of world c.requires.0 s, (counted_of world c.requires.0 s, (omega (arith, s.within, limit), ((c.if-not-allows.ensures {u = tt}).0 refl).0))))))

pub mark-requires : goal.mark-requires
mark-requires g c =
    let s = c.requires.1 in
    let world = c.args.self.now in
    let w = world.writer in
    subst (λ (n : ℕ). ReadsIn n c.args.act) (sym world.marked) (reads_in g.row.V (shape_of_writer w) (words_of_writer w) w.hand w.cleared (phase_at w.written w.progress) c.args.act ((c.if-not-allows.ensures {u = tt}).0 refl).0)

pub returns-clause-made : goal.returns-clause-made
returns-clause-made g c =
    let world = c.args.self.now in
    let w = world.writer in
    let a = c.args.act in
    let may = (c.if-not-allows.ensures {u = tt}).0 refl in
    let within = (c.if-not-is_within.ensures {u = tt}).0 refl in
    let first = ok_of c.make.result _ (sym c.is_err.ensures.value ∙ c.if-is_err.false) c.make.ensures.ok in
    let made = subst (λ (n : ℕ). IsMade {V = g.row.V} w c.make.new.self a n) c.bit_of-bit.ensures first in
    record {
      shape = ap (λ (y : Checked). shape_of y) made.shape;
      state = made.state;
      room = made.room;
      leads = λ seen s.
          let has = subst (λ (y : State g.row.V). HasVersionSteps (shape_of_writer w).limit y.version_steps a) s.shows.state within.1 in (
            _,
            (subst (λ (y : State g.row.V). IsAllowedByClock (shape_of_writer w) y a) s.shows.state may, (omega (arith, within.0, s.shows.events), has), refl),
            c.given_by.ensures ∙ ap (λ (n : ℕ). given_of {V = g.row.V} n a) (c.bit_of-bit.ensures ∙ ap (λ y. bit_of y a) s.shows.bits),
            stand_after world _ seen a s may.0 within.1 made c.mark.ensures.bits refl refl,
          );
    }

pub returns-then-not-allows-clause-refused : goal.returns-then-not-allows-clause-refused
returns-then-not-allows-clause-refused g c =
    let none = (c.if-not-allows.ensures {u = tt}).1 in
    record {
      kept = refl;
      full = λ is. not_wanting _ refl is;
      refused = λ seen s. λ may. let e = none (subst (λ (y : State g.row.V). IsAllowedByClock (shape_of_writer c.args.self.now.writer) y c.args.act) (sym s.shows.state) may) in cc (e);
      stays = λ seen s. s;
    }

pub returns-then-not-is_within-clause-refused : goal.returns-then-not-is_within-clause-refused
returns-then-not-is_within-clause-refused g c =
    let sh = shape_of_writer c.args.self.now.writer in
    let may = (c.if-not-allows.ensures {u = tt}).0 refl in
    let past = (c.if-not-is_within.ensures {u = tt}).1 in
    record {
      kept = refl;
      full = λ is. not_wanting _ refl is;
      refused = λ seen s. (
        subst (λ (y : State g.row.V). IsAllowedByClock sh y c.args.act) s.shows.state may,
        (λ within. let e = past (omega (arith, within.0, s.shows.events), subst (λ (y : State g.row.V). HasVersionSteps sh.limit y.version_steps c.args.act) (sym s.shows.state) within.1) in cc (e)),
      );
      stays = λ seen s. s;
    }

pub returns-then-is_err-clause-refused : goal.returns-then-is_err-clause-refused
returns-then-is_err-clause-refused g c =
    let world = c.args.self.now in
    let failed = sym c.is_err.ensures.value ∙ c.if-is_err.true in
    let err = err_of c.make.result _ failed c.make.ensures.err in
    let may = (c.if-not-allows.ensures {u = tt}).0 refl in
    let within = (c.if-not-is_within.ensures {u = tt}).0 refl in
    memory_wanting world _ c.args.act err.1 may within.0 err.0
    (λ i. record { shape = shape_of_table (err.0.table i); state = err.0.state i; bits = world.bits.items; readers = world.readers.items; events = world.events })
    (err_of c.make.result _ failed c.make.ensures.full)

pub returns-then-not-allows-clause-made : goal.returns-then-not-allows-clause-made
returns-then-not-allows-clause-made g c = tt

pub returns-then-not-is_within-clause-made : goal.returns-then-not-is_within-clause-made
returns-then-not-is_within-clause-made g c = tt

pub returns-then-is_err-clause-made : goal.returns-then-is_err-clause-made
returns-then-is_err-clause-made g c = tt

pub returns-clause-refused : goal.returns-clause-refused
returns-clause-refused g c = tt

pub given_by-requires : goal.given_by-requires
given_by-requires g c = omega (arith, c.args.self.now.writer.table.most_words)

pub overflow_add-self : goal.overflow_add-self
overflow_add-self g c = let within = (c.if-not-is_within.ensures {u = tt}).0 refl in omega (arith, within.0)

pub invariant_of-self : goal.invariant_of-self
invariant_of-self g c =
    let world = c.args.self.now in
    let err = err_of c.make.result _ (sym c.is_err.ensures.value ∙ c.if-is_err.true) c.make.ensures.err in
    record { marked = world.marked ∙ ap (λ (t : Table g.row.V). (shape_of_table t).items) (sym err.0.table); countable = world.countable }

pub invariant_of-self-2 : goal.invariant_of-self-2
invariant_of-self-2 g c =
    let world = c.args.self.now in
    let made = ok_of c.make.result _ (sym c.is_err.ensures.value ∙ c.if-is_err.false) c.make.ensures.ok in
    record { marked = c.mark.ensures.many ∙ world.marked ∙ ap (λ (y : Checked). (shape_of y).items) (sym made.shape); countable = world.countable }
