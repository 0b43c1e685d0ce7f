use Rattle.std.proofs.Common.{rules, refl, ap, ◌∙◌, arith, Option, Some}
use Rattle.std.proofs.lemmas.Option.{slice_get_past, slice_get_read}
use Rattle.mc_core.specs.Seen.{Both, IsOpenLookup}
use Rattle.mc_core.specs.Inside.Parts.{shape_of_parts}
use Rattle.mc_core.specs.declared.reader.Reader.{Reader}
use Rattle.mc_core.proofs.PairedLists.{both_none, none_past}
use Rattle.mc_core.proofs.ReaderSteps.{idle_of, running_of}
use Rattle.mc_core.proofs.WorldSteps.{not_wanting}
use Rattle.mc_core.proofs.parts.Parts.read.Goals as goal

pub returns-then-at-len-clause-refused : goal.returns-then-at-len-clause-refused
returns-then-at-len-clause-refused g c =
    let old = c.args.self.now in
    let past = slice_get_past old.readers.items c.args.reader (omega (arith, c.len.ensures, old.readers.ok.0)) in
    record {
      kept = refl;
      full = λ is. not_wanting _ refl is;
      refused = λ seen s. none_past seen.readers c.args.reader (both_none (Both (IsOpenLookup g.row.V (shape_of_parts old))) _ _ (s.shows.readers c.args.reader) past);
      stays = λ seen s. s;
    }

pub returns-in_default-clause-refused : goal.returns-in_default-clause-refused
returns-in_default-clause-refused g c =
    let old = c.args.self.now in
    let at = slice_get_read old.readers.items c.len.result c.args.reader c.index.result.now (omega (arith, c.len.ensures, old.readers.ok.0)) (omega arith) c.index.ensures in
    record {
      kept = refl;
      full = λ is. not_wanting _ refl is;
      refused = λ seen s. idle_of old seen c.args.reader s (at ∙ ap (λ (o : Option (Reader g.row.V)). Some o) c.in_default.is);
      stays = λ seen s. s;
    }

pub returns-then-self-clause-refused : goal.returns-then-self-clause-refused
returns-then-self-clause-refused g c =
    let old = c.args.self.now in
    let at = slice_get_read old.readers.items c.len.result c.args.reader c.index.result.now (omega (arith, c.len.ensures, old.readers.ok.0)) (omega arith) c.index.ensures in
    record {
      kept = refl;
      full = λ is. not_wanting _ refl is;
      refused = λ seen s. let run = running_of old seen c.args.reader c.in-Some.running s (at ∙ ap (λ (o : Option (Reader g.row.V)). Some o) c.in-Some.is) in ((run.0, run.1), λ below. omega (arith, below, s.shows.events));
      stays = λ seen s. s;
    }

pub access-requires : goal.access-requires
access-requires g c =
    let old = c.args.self.now in
    let at = slice_get_read old.readers.items c.len.result c.args.reader c.index.result.now (omega (arith, c.len.ensures, old.readers.ok.0)) (omega arith) c.index.ensures in
    (search rules, (search rules, (search rules, (at ∙ ap (λ (o : Option (Reader g.row.V)). Some o) c.in-Some.is, (omega arith, c.requires)))))

pub returns-then-at-len-clause-made : goal.returns-then-at-len-clause-made
returns-then-at-len-clause-made g c = tt

pub returns-in_default-clause-made : goal.returns-in_default-clause-made
returns-in_default-clause-made g c = tt

pub returns-then-self-clause-made : goal.returns-then-self-clause-made
returns-then-self-clause-made g c = tt

pub returns-clause-made : goal.returns-clause-made
returns-clause-made g c = c.access.ensures

pub returns-clause-refused : goal.returns-clause-refused
returns-clause-refused g c = tt
