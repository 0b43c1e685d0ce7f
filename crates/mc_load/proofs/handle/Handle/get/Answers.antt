use Rattle.std.proofs.Common.{inl, subst, sym}
use Rattle.mc_cache.specs.Turns.{HasLookedOrMet}
use Rattle.mc_load.specs.Inside.Handles.{IsTold, place_of, records_of}
use Rattle.mc_load.specs.Lookups.{HasLookedIn}
use Rattle.mc_load.specs.declared.handle.Handle.{Handle}
use Rattle.mc_load.proofs.Histories.{true_later}
use Rattle.mc_load.proofs.OneShard.{desk_changes, reader_changes}
use Rattle.mc_load.proofs.handle.Handle.get.Goals as goal

pub returns-in-Cache-clause-later : goal.returns-in-Cache-clause-later
returns-in-Cache-clause-later g c = λ k reply told.
    let held = c.in-Cache.held in
    true_later g.row.V held.cache.now.layout.shape held.reader.front c.get.new.self.front k reply c.get.ensures.looked.begins (subst (λ (h : Handle g.row.V). IsTold g.row.V h k reply) c.in-Cache.is told)

pub returns-in-Cache-clause-looked : goal.returns-in-Cache-clause-looked
returns-in-Cache-clause-looked g c =
    reader_changes c.args.self.now c.in-Cache.held c.args.key c.get.new.self (λ sh r r'. HasLookedOrMet g.row.V sh c.args.key r r' c.get.result) c.in-Cache.is (inl c.get.ensures.looked)

pub returns-in-Desk-clause-looked : goal.returns-in-Desk-clause-looked
returns-in-Desk-clause-looked g c =
    desk_changes c.args.self.now c.in-Desk.held c.args.key c.get_or_desk.new.self (λ sh r r'. HasLookedOrMet g.row.V sh c.args.key r r' c.get_or_desk.result) c.in-Desk.is c.get_or_desk.ensures.looked

pub returns-in-Shards-clause-looked : goal.returns-in-Shards-clause-looked
returns-in-Shards-clause-looked g c =
    subst (λ (h : Handle g.row.V). HasLookedIn g.row.V (place_of h) c.args.key (records_of h) c.get_or_desk-in-Shards.new.self c.get_or_desk-in-Shards.result) (sym c.in-Shards.is) c.get_or_desk-in-Shards.ensures.looked
