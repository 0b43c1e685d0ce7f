use Rattle.std.proofs.Common.{rules, ℕ, List, ◌≡◌, ap, arith, length, refl, subst, sym, vec_len}
use Rattle.mc_load.specs.ShardLoads.{RunsTurns}
use Rattle.mc_load.specs.Inside.Refusals.{AreRefusedBy, AreTriesLetThrough, AreTriesRefusedBy}
use Rattle.mc_load.specs.Inside.Seats.{CanAudit}
use Rattle.mc_load.specs.Inside.Tries.{HaveAllTried}
use Rattle.mc_load.specs.Inside.Workers.{AreWhole, HaveEnded}
use Rattle.mc_load.specs.declared.reader_thread.ReaderThread.{ReaderThread}
use Rattle.mc_load.specs.declared.turn_thread.TurnThread.{TurnThread}
use Rattle.mc_load.proofs.Looked.{all_got, still_in}
use Rattle.mc_load.proofs.Readers.{all_noted}
use Rattle.mc_load.proofs.Refused.{all_made, all_tried, refused_lookup_told, refused_try_told}
use Rattle.mc_load.proofs.Works.{all_can_look, all_can_try, all_ended, all_have_tried, all_refused, all_tries_refused}
use denote.Param.Send.{sendable}
use Rattle.std.proofs.Crossing.{crosses}
use Rattle.mc_cache.proofs.Sent.{desk_sync}
use Rattle.mc_cache.proofs.cache.Cache.TheSendSync.{the_sync as cache_sync}
use Rattle.mc_cache.proofs.reader.Reader.TheSendSync.{the_send as reader_send}
use Rattle.mc_shards.proofs.Sent.{pass_send, shards_sync}
use Rattle.mc_load.proofs.turns_load.run_workers.Goals as goal

pub run_all-requires-send-A : goal.run_all-requires-send-A
run_all-requires-send-A g c κs within = search (sendable, crosses, desk_sync, shards_sync, cache_sync, reader_send, pass_send) depth 40

pub run_all-requires-send-B : goal.run_all-requires-send-B
run_all-requires-send-B g c κs within = search (sendable, crosses, desk_sync, shards_sync, cache_sync, reader_send, pass_send) depth 40

pub run_all-requires-clause-some : goal.run_all-requires-clause-some
run_all-requires-clause-some g c κs within =
    let seated = c.in-Ok.ensures c.requires.opened.0 c.requires.opened.3 in
    (omega (arith, seated.many, c.requires.asked.some.0), omega (arith, seated.readers, c.requires.asked.seats.0))

pub run_all-requires-clause-write : goal.run_all-requires-clause-write
run_all-requires-clause-write g c κs within =
    let s = c.requires.opened.0 in
    let seated = c.in-Ok.ensures s c.requires.opened.3 in
    all_can_try s c.args.load c.in-Ok.seated.turn_threads.items (omega (arith, seated.many, c.requires.asked.some.1, c.in-Ok.seated.turn_threads.ok.0)) seated.can

pub run_all-requires-clause-read : goal.run_all-requires-clause-read
run_all-requires-clause-read g c κs within =
    let seated = c.in-Ok.ensures c.requires.opened.0 c.requires.opened.3 in
    all_can_look c.args.load c.in-Ok.seated.reader_threads.items (omega (arith, seated.readers, c.requires.asked.seats.1, c.in-Ok.seated.reader_threads.ok.0)) seated.ready

pub returns-in-Some : goal.returns-in-Some
returns-in-Some g c =
    let V = g.row.V in
    let may : ℕ → ℕ → Type 0 = g.G.Gate.may_refuse c.args.gate.now in
    let load = c.args.load in
    let s = c.requires.opened.0 in
    let seated = c.in-Ok.ensures s c.requires.opened.3 in
    let before = c.in-Ok.seated.turn_threads.items in
    let after = c.run_all.new.writers.items in
    let ran = c.run_all.ensures.written in
    let same = ran.0 in
    let read = c.as_slice.ensures.value in
    let many : length c.as_slice.result.now ≡ c.args.writers = omega (arith, ap length read, same, seated.many, c.in-Ok.seated.turn_threads.ok.0) in
    refused_try_told s may load c.args.shards c.args.writers c.as_slice.result.now c.in-Some.refused c.requires.asked many
    (subst (λ (ts : List (TurnThread V)). HaveAllTried V s load ts) (sym read) (all_have_tried may s load before after seated.can ran))
    (subst (λ (ts : List (TurnThread V)). AreTriesRefusedBy may ts) (sym read) (all_tries_refused may load before after ran)) c.in-Some.ensures.some

pub refused_lookup-requires : goal.refused_lookup-requires
refused_lookup-requires g c =
    let seated = c.in-Ok.ensures c.requires.opened.0 c.requires.opened.3 in
    let same = c.run_all.ensures.read.0 in
    (omega arith, omega (arith, ap length c.as_slice-2.ensures.value, same, seated.readers, c.requires.asked.seats.1, c.in-Ok.seated.reader_threads.ok.0))

pub returns-in-Some-refused_lookup : goal.returns-in-Some-refused_lookup
returns-in-Some-refused_lookup g c =
    let V = g.row.V in
    let may : ℕ → ℕ → Type 0 = g.G.Gate.may_refuse c.args.gate.now in
    let load = c.args.load in
    let seated = c.in-Ok.ensures c.requires.opened.0 c.requires.opened.3 in
    let before = c.in-Ok.seated.reader_threads.items in
    let after = c.run_all.new.readers.items in
    let ran = c.run_all.ensures.read in
    let same = ran.0 in
    let read = c.as_slice-2.ensures.value in
    let many : length c.as_slice-2.result.now ≡ load.readers = omega (arith, ap length read, same, seated.readers, c.in-Ok.seated.reader_threads.ok.0) in
    refused_lookup_told may load c.args.shards c.args.writers c.as_slice-2.result.now c.in-Some-refused_lookup.refused c.requires.asked many
    (subst (λ (ls : List (ReaderThread V)). HaveEnded V load ls) (sym read) (all_ended may load before after seated.ready ran))
    (subst (λ (ls : List (ReaderThread V)). AreRefusedBy may ls) (sym read) (all_refused may load before after seated.ready ran)) c.in-Some-refused_lookup.ensures.some

pub run_of-requires : goal.run_of-requires
run_of-requires g c =
    let V = g.row.V in
    let may : ℕ → ℕ → Type 0 = g.G.Gate.may_refuse c.args.gate.now in
    let load = c.args.load in
    let s = c.requires.opened.0 in
    let seated = c.in-Ok.ensures s c.requires.opened.3 in
    let ts = c.run_all.new.writers.items in
    let ls = c.run_all.new.readers.items in
    let wrote = c.run_all.ensures.written in
    let read = c.run_all.ensures.read in
    let same = wrote.0 in
    let same_readers = read.0 in
    let few = c.requires.asked.seats.1 in
    let tried = all_have_tried may s load c.in-Ok.seated.turn_threads.items ts seated.can wrote in
    let through : AreTriesLetThrough ts (length ts) = subst (λ (z : List (TurnThread V)). AreTriesLetThrough z (length z)) c.as_slice.ensures.value (search rules) in
    let whole : AreWhole ls = subst (λ (z : List (ReaderThread V)). AreWhole z) c.as_slice-2.ensures.value (search rules) in
    let many : vec_len c.run_all.new.writers ≡ c.args.writers = omega (arith, same, seated.many, c.in-Ok.seated.turn_threads.ok.0, c.run_all.new.writers.ok.0) in
    let readers : vec_len c.run_all.new.readers ≡ load.readers = omega (arith, same_readers, seated.readers, c.in-Ok.seated.reader_threads.ok.0, c.run_all.new.readers.ok.0) in (
      omega arith,
      (
        c.requires.width,
        (
          s,
          record {
            allowed = c.requires.asked.parts;
            shape = c.requires.opened.1;
            tables = c.requires.opened.2;
            readers = readers;
            few = omega (arith, few);
            noted = all_noted load ls (all_ended may load c.in-Ok.seated.reader_threads.items ls seated.ready read) whole;
            places = still_in may load s c.in-Ok.seated.reader_threads.items ls seated.places read;
            got = all_got may load s c.in-Ok.seated.reader_threads.items ls seated.places read;
            many = refl;
            most = omega (arith, many, c.requires.asked.some.1);
            tried = all_tried s load ts tried through;
            made = all_made s load ts tried through;
            audit = subst (λ (w : ℕ). CanAudit V load w c.in-Ok.seated.audit) (sym many) seated.audit;
          },
        ),
      ),
    )

pub returns : goal.returns
returns g c =
    let seated = c.in-Ok.ensures c.requires.opened.0 c.requires.opened.3 in
    let same = c.run_all.ensures.written.0 in
    let many : vec_len c.run_all.new.writers ≡ c.args.writers = omega (arith, same, seated.many, c.in-Ok.seated.turn_threads.ok.0, c.run_all.new.writers.ok.0) in
    subst (λ (w : ℕ). RunsTurns g.row.V c.args.load c.args.shards w c.run_of.result) many c.run_of.ensures
