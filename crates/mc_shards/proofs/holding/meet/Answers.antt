use Rattle.std.proofs.Common.{◌∙◌, ◌≡◌, ◌<◌, List, Some, ap, arith, get_or, length, map, refl, sym}
use Rattle.std.specs.Prelude.{slice_get, slice_set}
use Rattle.std.proofs.lemmas.List.{length-map}
use Rattle.std.proofs.lemmas.Option.{get_or_from_slice_get, same_Some, slice_get_within}
use Rattle.std.proofs.Math.Nat.{le_refl}
use Rattle.mc_shared.specs.Records.{ReaderRecord, WriterRecord}
use Rattle.mc_cache.specs.Plain.{history, seen}
use Rattle.mc_shards.proofs.Dealt.{as_many, at_table, here, still_pass}
use Rattle.mc_shards.proofs.HeldTurns.{all_begun, begun_more, lends_fit, same_turns, tables_of_writers, turn_fits, turn_with, writer_at}
use Rattle.mc_shards.proofs.ListedShards.{get_set_above}
use Rattle.mc_shards.proofs.LoadedShards.{met_all, met_more}
use Rattle.mc_shards.specs.Inside.Held.{writers_of}
use Rattle.mc_shards.specs.Lending.{Lock, table_of}
use Rattle.mc_shards.specs.Plain.{seens}
use Rattle.mc_shards.specs.declared.lending.Turn.{Turn}
use Rattle.mc_shards.proofs.holding.meet.Goals as goal

pub writer-writer-requires : goal.writer-writer-requires
writer-writer-requires g c =
    let was = c.loop-n.invariant in
    let turns = c.args.turns.now.items in
    let t = c.index_mut-turn.result.now in
    let fits = turn_fits g.row.V c.args.shards.now.locks turns c.loop-n.n t c.lender.result.now c.requires.locks c.requires.writers c.lender.ensures.lock
    (c.index_mut-turn.ensures.value ∙ ap (λ ts. get_or ts c.loop-n.n t) was.items) in
    (omega arith, (omega arith, (ap (λ (l : Lock). l.id) (fits.1 ∙ sym c.behind-shards.view_is), fits.2)))

pub catch_up-moment-requires : goal.catch_up-moment-requires
catch_up-moment-requires g c =
    let was = c.loop-n.invariant in
    let s = c.args.shards.now in
    let turns = c.args.turns.now.items in
    let t = c.index_mut-turn.result.now in
    let fits = turn_fits g.row.V s.locks turns c.loop-n.n t c.lender.result.now c.requires.locks c.requires.writers c.lender.ensures.lock
    (c.index_mut-turn.ensures.value ∙ ap (λ ts. get_or ts c.loop-n.n t) was.items) in
    let rs = c.loop-n.readers.items in
    let r = c.index_mut.result.now in (
      omega arith,
      (
        omega arith,
        (
          omega arith,
          (
            at_table s rs c.loop-n.n c.cache.result.now r was.of c.cache.ensures.table (here s rs rs c.loop-n.n r refl was.of (omega (arith, c.loop-n-test.true, c.count-n-end.ensures.count)) c.index_mut.ensures.value),
            (lends_fit g.row.V t c.writer-writer.result.now fits.2 c.writer-writer.ensures.value).0 ∙ (ap table_of fits.1 ∙ same_Some _ _ (sym c.lender.ensures.table ∙ c.cache.ensures.table)),
          ),
        ),
      ),
    )

pub loop-n-preserved : goal.loop-n-preserved
loop-n-preserved g c =
    let was = c.loop-n.invariant in
    let V = g.row.V in
    let n = c.loop-n.n in
    let s = c.args.shards.now in
    let turns = c.args.turns.now.items in
    let ws = writers_of turns in
    let t = c.index_mut-turn.result.now in
    let w = c.writer-writer.result.now in
    let here_turn : t ≡ get_or turns n t = c.index_mut-turn.ensures.value ∙ ap (λ ts. get_or ts n t) was.items in
    let fits = turn_fits V s.locks turns n t c.lender.result.now c.requires.locks c.requires.writers c.lender.ensures.lock here_turn in
    let rs = c.loop-n.readers.items in
    let r = c.index_mut.result.now in
    let r' = c.catch_up-moment.new.self in
    let caught = c.catch_up-moment.ensures.reader in
    let within : n < length rs = omega (arith, c.loop-n-test.true, c.count-n-end.ensures.count, as_many s rs was.of) in
    let reader : slice_get rs n ≡ Some r = here s rs rs n r refl was.of (omega (arith, c.loop-n-test.true, c.count-n-end.ensures.count)) c.index_mut.ensures.value in
    let here_left : slice_get rs n ≡ slice_get c.args.readers.now.items n = was.left n (le_refl n) in
    let writer : slice_get ws n ≡ Some w = writer_at V turns n t w fits.0 c.writer-writer.ensures.value in
    record {
      items = ap (λ (ts : List (Turn V)). slice_set ts n (turn_with t c.catch_up-moment.new.writer)) was.items ∙ same_turns V turns n t w c.catch_up-moment.new.writer here_turn c.writer-writer.ensures.value c.catch_up-moment.ensures.writer;
      room = was.room;
      of = still_pass s rs n r r' was.of reader (ap (λ (x : ReaderRecord). x.of) caught);
      left = λ k more. get_set_above rs n k r' (omega (arith, more)) ∙ was.left k (omega (arith, more));
      met = met_more rs ws n r' w within (slice_get_within ws n w writer) (sym (get_or_from_slice_get ws n w w writer)) (ap (λ (x : ReaderRecord). x.front) caught) was.met;
      begun = begun_more V rs c.args.readers.now.items ws n r w reader here_left writer c.catch_up-moment.ensures.plain.0.begins was.begun;
    }

pub returns-clause-met : goal.returns-clause-met
returns-clause-met g c =
    let was = c.loop-n.invariant in
    let s = c.args.shards.now in
    let turns = c.args.turns.now.items in
    met_all s.tables c.loop-n.readers.items (writers_of turns) c.loop-n.n was.of (tables_of_writers g.row.V turns c.requires.writers ∙ (ap (map table_of) c.requires.locks ∙ c.known.ensures)) (omega (arith, c.loop-n-test.false, c.count-n-end.ensures.count)) was.met

pub returns-clause-begins : goal.returns-clause-begins
returns-clause-begins g c =
    let V = g.row.V in
    let was = c.loop-n.invariant in
    let s = c.args.shards.now in
    let first = c.args.readers.now.items in
    let ws = writers_of c.args.turns.now.items in
    let of : map (λ (w : WriterRecord). w.of) ws ≡ s.tables = tables_of_writers V c.args.turns.now.items c.requires.writers ∙ (ap (map table_of) c.requires.locks ∙ c.known.ensures) in
    let seen_many = length-map first (seen V) in
    let made_many = length-map ws (history V) in
    let tables = length-map ws (λ (w : WriterRecord). w.of) in
    all_begun (seens V first) (map (history V) ws) (omega (arith, seen_many, made_many, tables, ap length of, as_many s first c.requires.readers))
    (λ k less. was.begun k (omega (arith, less, seen_many, as_many s first c.requires.readers, c.loop-n-test.false, c.count-n-end.ensures.count)))
