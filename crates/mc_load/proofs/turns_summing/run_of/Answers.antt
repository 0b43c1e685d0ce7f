use Rattle.std.proofs.Common.{rules, ℕ, List, ◌≡◌, ◌<◌, ◌*◌, ap, arith, get_or, length, vec_len, subst, sym, ◌∙◌}
use Rattle.std.specs.Prelude.{All, sum_by}
use Rattle.mc_check.specs.declared.record.Record.{Record}
use Rattle.std.proofs.lemmas.List.{get_or-map, length-map}
use Rattle.mc_load.specs.Loads.{is_absent, is_busy, is_found, total_of}
use Rattle.mc_load.proofs.Looked.{got_answers}
use Rattle.mc_load.proofs.Readers.{some_element}
use Rattle.mc_load.specs.Lookups.{HasGot}
use Rattle.mc_load.specs.ShardLoads.{HasAsked, IsRightIn}
use Rattle.mc_load.specs.Turns.{HasMadeTries, Tries}
use Rattle.mc_load.specs.Inside.Sums.{all_tries}
use Rattle.mc_load.specs.Inside.Workers.{answers_of}
use Rattle.mc_load.specs.Inside.Tries.{tries_of}
use Rattle.mc_load.specs.declared.reader_thread.ReaderThread.{ReaderThread}
use Rattle.mc_load.specs.declared.turn_thread.TurnThread.{TurnThread}
use Rattle.mc_load.proofs.turns_summing.run_of.Goals as goal

pub returns : goal.returns
returns g c =
    let V = g.row.V in
    let load = c.args.load in
    let s = c.requires.run.0 in
    let run = c.requires.run.1 in
    let ts = c.args.seated.turn_threads.items in
    let ls = c.last_moments-lasts.new.reader_threads.items in
    let writers : c.as_slice-turn_threads.result.now ≡ ts = c.as_slice-turn_threads.ensures.value in
    let readers : c.as_slice-reader_threads.result.now ≡ ls = c.as_slice-reader_threads.ensures.value in
    let many_writers : length c.as_slice-turn_threads.result.now ≡ vec_len c.args.seated.turn_threads = c.as_slice-turn_threads.ensures.len in
    let many_readers : length c.as_slice-reader_threads.result.now ≡ load.readers = c.as_slice-reader_threads.ensures.len ∙ (c.last_moments-lasts.ensures.len ∙ run.readers) in
    let tried : length (all_tries ts) ≡ length ts = length-map ts (λ (t : TurnThread V). tries_of t) in
    let read : length (answers_of ls) ≡ length ls = length-map ls (λ (l : ReaderThread V). l.records.items) in
    record {
      report = record {
        opened = s;
        shape = run.shape;
        tables = run.tables;
        tries = all_tries ts;
        many = omega (arith, tried, c.as_slice-turn_threads.ensures.len, ap length writers);
        made = λ w e low.
            let under : w < length ts = omega (arith, low, tried) in
            let d = some_element ts w under in
            subst (HasMadeTries V s load w) (sym (get_or-map (λ (t : TurnThread V). tries_of t) ts w d e under)) (run.made w d under);
        held = c.tries_of-changes.ensures.held ∙ ap (λ (z : List (TurnThread V)). sum_by (λ (t : Tries V). t.turns.held) (all_tries z)) writers;
        answered = c.tries_of-changes.ensures.answered ∙ ap (λ (z : List (TurnThread V)). sum_by (λ (t : Tries V). t.turns.answered) (all_tries z)) writers;
        changes = c.tries_of-changes.ensures.changes ∙ ap (λ (z : List (TurnThread V)). sum_by (λ (t : Tries V). length t.journal) (all_tries z)) writers;
        answers = answers_of ls;
        readers = omega (arith, read, c.last_moments-lasts.ensures.len, run.readers);
        looked = λ r e low.
            let under : r < length ls = omega (arith, low, read) in
            let d = some_element ls r under in
            subst (HasAsked load r) (sym (get_or-map (λ (l : ReaderThread V). l.records.items) ls r d e under)) (c.last_moments-lasts.ensures.noted r d under);
        got = subst (λ (z : List (List (Record V))). All (λ (records : List (Record V)). HasGot s records) z) (sym c.last_moments-lasts.ensures.answers) (got_answers s c.args.seated.reader_threads.items run.got);
        found = c.answers_of-answers.ensures.found ∙ ap (λ (z : List (ReaderThread V)). total_of is_found (answers_of z)) readers;
        absent = c.answers_of-answers.ensures.absent ∙ ap (λ (z : List (ReaderThread V)). total_of is_absent (answers_of z)) readers;
        busy = c.answers_of-answers.ensures.busy ∙ ap (λ (z : List (ReaderThread V)). total_of is_busy (answers_of z)) readers;
        right = λ none n low.
            let lasts = c.last_moments-lasts.result in
            let all = c.last_moments-lasts.ensures.lasts s run.shape run.tables run.places in
            let most = run.allowed.1 in (
              get_or lasts n 0,
              all.each n (omega (arith, low, most)),
              subst (λ (z : List (TurnThread V)). IsRightIn load.shape.mix c.args.shards (all_tries z) (answers_of ls) (get_or lasts n 0) n) writers
                  (subst (λ (z : List (ReaderThread V)). IsRightIn load.shape.mix c.args.shards (all_tries c.as_slice-turn_threads.result.now) (answers_of z) (get_or lasts n 0) n) readers (c.check_all-wrong.ensures.right none n low)),
            );
        lookups = c.answers_of-answers.ensures.lookups ∙ ap (λ (k : ℕ). k * load.lookups) many_readers;
        sum = c.answers_of-answers.ensures.sum;
        calls = c.tries_of-changes.ensures.sum ∙ ap (λ (k : ℕ). k * load.writes) many_writers;
        turns = search rules;
        few = c.tries_of-changes.ensures.few;
      };
      each = λ n d low. c.turns_of.ensures.sums n d (omega (arith, low, many_writers));
      those = λ n d e low.
          let under : n < length ts = omega (arith, low, c.as_slice-turn_threads.ensures.len, ap length writers) in
          let t = some_element ts n under in
          c.turns_of.ensures.each n d t (omega (arith, low, many_writers))
          ∙ (ap (λ (z : List (TurnThread V)). (get_or z n t).turns) writers ∙ ap (λ (z : Tries V). z.turns) (sym (get_or-map (λ (x : TurnThread V). tries_of x) ts n t e under)));
    }
