use Rattle.std.proofs.Common.{rules, ℕ, Option, ◌≡◌, ◌<◌, ◌∙◌, ap, length, set, subst, sym}
use Rattle.std.proofs.lemmas.List.{get_or-set_same}
use Rattle.std.specs.Prelude.{unwrap_or}
use Rattle.mc_words.specs.Keys.{shard_of}
use Rattle.mc_check.specs.Changes.{key_in}
use Rattle.mc_shards.specs.Sharded.{ArePassOf, Sharded, shard_in}
use Rattle.mc_load.specs.LastMoments.{IsLookedUp}
use Rattle.mc_load.specs.Inside.Handles.{place_of, records_of}
use Rattle.mc_load.specs.Inside.Lasts.{AreLasts}
use Rattle.mc_load.proofs.LastMoments.{its_shard, known_here, known_written, lasts_written}
use Rattle.mc_load.proofs.OneShard.{belongs}
use Rattle.mc_load.proofs.lasts.note_last.Given.{Over}
use Rattle.mc_load.proofs.lasts.note_last.Goals as goal

-- the key's shard was looked up
looked_up : (g : Over) (c : goal.After-unwrap_or g) → AreLasts g.row.V (place_of c.args.handle.now) c.args.mix c.args.shards c.args.lasts.now → IsLookedUp g.row.V (place_of c.args.handle.now) c.shard-shard.result c.unwrap_or.result
looked_up g c all =
    let V = g.row.V in
    let s = place_of c.args.handle.now in
    record {
      key = c.key_of-key.result;
      here = its_shard V s c.args.mix c.args.shards c.args.lasts.now c.key_of-key.result c.shard-shard.result all c.shard-shard.ensures.shard;
      before = records_of c.args.handle.now;
      after = records_of c.get-reply.new.self;
      of = subst (λ (p : Sharded). ArePassOf p (records_of c.get-reply.new.self)) c.get-reply.ensures.place (belongs c.get-reply.new.self);
      reply = c.get-reply.result;
      looked = c.get-reply.ensures.looked;
      told = c.unwrap_or.ensures ∙ ap (λ (o : Option ℕ). unwrap_or o 0) c.moment_of.ensures;
    }

within : (g : Over) (c : goal.After-unwrap_or g) → c.shard-shard.result < length c.args.lasts.now
within g c = search rules

-- and it's that of the change
its_own : (g : Over) (c : goal.After-unwrap_or g) → AreLasts g.row.V (place_of c.args.handle.now) c.args.mix c.args.shards c.args.lasts.now → shard_in (place_of c.args.handle.now) (key_in c.args.change.now.change) ≡ c.shard-shard.result
its_own g c all =
    its_shard g.row.V (place_of c.args.handle.now) c.args.mix c.args.shards c.args.lasts.now (key_in c.args.change.now.change) c.shard-shard.result all (c.shard-shard.ensures.shard ∙ ap (shard_of c.args.mix c.args.shards) c.key_of-key.ensures)

pub returns-clause-lasts : goal.returns-clause-lasts
returns-clause-lasts g c = λ all.
    lasts_written g.row.V (place_of c.args.handle.now) c.args.mix c.args.shards c.args.lasts.now c.shard-shard.result c.unwrap_or.result (within g c) (looked_up g c all) all

pub returns-clause-looked : goal.returns-clause-looked
returns-clause-looked g c = λ all.
    let s = place_of c.args.handle.now in
    let lasts = c.args.lasts.now in
    let n = c.shard-shard.result in
    let x = c.unwrap_or.result in
    known_here g.row.V s (set lasts n x) (key_in c.args.change.now.change) n (its_own g c all) (subst (IsLookedUp g.row.V s n) (sym (get_or-set_same lasts n x 0 (within g c))) (looked_up g c all))

pub returns-clause-kept : goal.returns-clause-kept
returns-clause-kept g c = λ all d known.
    let s = place_of c.args.handle.now in
    known_written g.row.V s c.args.lasts.now c.shard-shard.result c.unwrap_or.result (shard_in s (key_in d.change)) (within g c) (looked_up g c all) known
