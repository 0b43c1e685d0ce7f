use Rattle.std.proofs.Common.{Option, Some, refl, sym, ◌∙◌, ap, arith}
use Rattle.std.proofs.lemmas.Option.{slice_get_past, slice_get_read}
use Rattle.mc_core.specs.Seen.{Both, IsOpenLookup}
use Rattle.mc_core.specs.Inside.Parts.{shape_of_parts}
use Rattle.mc_core.specs.declared.reader.Reader.{Reader}
use Rattle.mc_core.proofs.PairedLists.{both_none, none_past, some_of, none_of}
use Rattle.mc_core.proofs.ReaderSteps.{begins, idle_of, running_of}
use Rattle.mc_core.proofs.WorldSteps.{not_wanting}
use Rattle.mc_core.proofs.parts.Parts.begin.Goals as goal
use Rattle.mc_core.proofs.parts.Parts.begin.Goals.{After-is_some}

pub returns-then-at-len-clause-refused : goal.returns-then-at-len-clause-refused
returns-then-at-len-clause-refused g c =
    let old = c.args.self.now in
    let past = slice_get_past old.readers.items c.args.reader (omega (arith, c.len.ensures, old.readers.ok.0)) in
    record {
      kept = refl;
      full = λ is. not_wanting _ refl is;
      refused = λ seen s. none_past seen.readers c.args.reader (both_none (Both (IsOpenLookup g.row.V (shape_of_parts old))) _ _ (s.shows.readers c.args.reader) past);
      stays = λ seen s. s;
    }

pub returns-then-is_some-clause-refused : goal.returns-then-is_some-clause-refused
returns-then-is_some-clause-refused g c =
    let old = c.args.self.now in
    let is = some_of c.index.result.now (sym c.is_some.ensures ∙ c.if-is_some.true) in
    let at = slice_get_read old.readers.items c.len.result c.args.reader c.index.result.now (omega (arith, c.len.ensures, old.readers.ok.0)) (omega arith) c.index.ensures in
    record {
      kept = refl;
      full = λ is. not_wanting _ refl is;
      refused = λ seen s. let run = running_of old seen c.args.reader is.0 s (at ∙ ap (λ (o : Option (Reader g.row.V)). Some o) is.1) in (run.0, run.1);
      stays = λ seen s. s;
    }

pub returns-then-self-clause-refused : goal.returns-then-self-clause-refused
returns-then-self-clause-refused g c =
    let old = c.args.self.now in
    let is = none_of c.index.result.now (sym c.is_some.ensures ∙ c.if-is_some.false) in
    let at = slice_get_read old.readers.items c.len.result c.args.reader c.index.result.now (omega (arith, c.len.ensures, old.readers.ok.0)) (omega arith) c.index.ensures in
    record {
      kept = refl;
      full = λ is. not_wanting _ refl is;
      refused = λ seen s. ((idle_of old seen c.args.reader s (at ∙ ap (λ (o : Option (Reader g.row.V)). Some o) is), omega arith), λ below. omega (arith, below, s.shows.events));
      stays = λ seen s. s;
    }

pub returns-clause-made : goal.returns-clause-made
returns-clause-made g c =
    let old = c.args.self.now in
    let is = none_of c.index.result.now (sym c.is_some.ensures ∙ c.if-is_some.false) in
    let at = slice_get_read old.readers.items c.len.result c.args.reader c.index.result.now (omega (arith, c.len.ensures, old.readers.ok.0)) (omega arith) c.index.ensures in
    let new = c.begin-lookup in
    record {
      shape = refl;
      state = refl;
      room = omega arith;
      leads = λ seen s. begins old _ seen c.args.reader c.args.key _ s (idle_of old seen c.args.reader s (at ∙ ap (λ (o : Option (Reader g.row.V)). Some o) is)) (omega arith) (omega arith) new.ensures.shape new.ensures.key new.ensures.left new.ensures.running refl refl refl refl refl;
    }

pub returns-then-at-len-clause-made : goal.returns-then-at-len-clause-made
returns-then-at-len-clause-made g c = tt

pub returns-then-is_some-clause-made : goal.returns-then-is_some-clause-made
returns-then-is_some-clause-made g c = tt

pub returns-then-self-clause-made : goal.returns-then-self-clause-made
returns-then-self-clause-made g c = tt

pub returns-clause-refused : goal.returns-clause-refused
returns-clause-refused g c = tt

pub begin-lookup-requires : goal.begin-lookup-requires
begin-lookup-requires g c = (omega (arith, c.args.self.now.writer.table.most_words), record { some = c.args.self.now.writer.table.some_words; most = c.args.self.now.writer.table.most_words })
