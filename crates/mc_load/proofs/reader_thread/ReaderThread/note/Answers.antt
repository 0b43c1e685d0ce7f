use Rattle.std.proofs.Common.{rules, List, [], ◌∷◌, ◌≡◌, ◌++◌, ◌∙◌, ap, subst, sym}
use Rattle.std.proofs.lemmas.List.{map-append}
use Rattle.std.proofs.lemmas.List.Elements.{All-push}
use Rattle.mc_check.specs.declared.record.Record.{Record}
use Rattle.mc_load.specs.Loads.{AreDrawn}
use Rattle.mc_load.specs.Inside.Handles.{AreAllTold, IsTold}
use Rattle.mc_load.specs.Lookups.{keys_in, replies_in}
use Rattle.mc_load.proofs.Histories.{drawn_more}
use Rattle.mc_load.proofs.reader_thread.ReaderThread.note.Goals as goal

pub returns-clause-told : goal.returns-clause-told
returns-clause-told g c all told =
    let V = g.row.V in
    let h = c.args.self.now.handle in
    let one : Record V = record { reader = c.args.self.now.number; key = c.args.key; reply = c.args.reply } in
    let pushed : c.push.new.self.items ≡ c.args.self.now.records.items ++ one ∷ [] = search rules in
    subst (AreAllTold V h) (sym pushed) (All-push (λ (r : Record V). IsTold V h r.key r.reply) c.args.self.now.records.items one all told)

pub returns-clause-drawn : goal.returns-clause-drawn
returns-clause-drawn g c load drawn key =
    let one : Record g.row.V = record { reader = c.args.self.now.number; key = c.args.key; reply = c.args.reply } in
    let who = c.args.self.now.number in
    let pushed : c.push.new.self.items ≡ c.args.self.now.records.items ++ one ∷ [] = search rules in
    subst (AreDrawn load who) (sym pushed) (drawn_more load who c.args.self.now.records.items one drawn key)

pub returns-clause-key : goal.returns-clause-key
returns-clause-key g c =
    let V = g.row.V in
    let one : Record V = record { reader = c.args.self.now.number; key = c.args.key; reply = c.args.reply } in
    let old = c.args.self.now.records.items in
    let pushed : c.push.new.self.items ≡ old ++ one ∷ [] = search rules in
    ap (λ (rs : List (Record V)). keys_in rs) pushed ∙ map-append (λ (r : Record V). r.key) old (one ∷ [])

pub returns-clause-reply : goal.returns-clause-reply
returns-clause-reply g c =
    let V = g.row.V in
    let one : Record V = record { reader = c.args.self.now.number; key = c.args.key; reply = c.args.reply } in
    let old = c.args.self.now.records.items in
    let pushed : c.push.new.self.items ≡ old ++ one ∷ [] = search rules in
    ap (λ (rs : List (Record V)). replies_in rs) pushed ∙ map-append (λ (r : Record V). r.reply) old (one ∷ [])
