use Rattle.std.proofs.Common.{◌≡◌, [], ◌∷◌, ◌++◌, Some, None, ap, subst, sym, ◌∙◌}
use Rattle.mc_words.specs.declared.history.Reply.{Reply}
use Rattle.mc_shared.specs.Records.{ReaderRecord}
use Rattle.mc_cache.specs.Plain.{TellsNow, history, seen}
use Rattle.mc_cache.proofs.PlainCalls.{held_now, met_still}
use Rattle.mc_cache.proofs.reader.Reader.get_beside.Goals as goal
use Rattle.mc_cache.proofs.reader.Reader.get_beside.Goals.{in-Some, in-None}

pub returns-clause-plain : goal.returns-clause-plain
returns-clause-plain g c =
    let V = g.row.V in
    let h = history V c.args.writer.now in
    let met = c.catch_up-at.ensures.plain.0 in
    let seat : c.writer.inside.seat ≡ c.args.writer.now = c.writer.view_is ∙ c.catch_up-at.ensures.writer in
    elim c.match-look.branch [
      | in-Some w ↦
          let self = w.self-is ∙ w.mark_unless_set.ensures in (
            met_still V (seen V c.args.self.now) h c.match-look.self c.catch_up-at.new.self met (ap (λ (r : ReaderRecord). r.of) self ∙ ap (λ (r : ReaderRecord). r.of) c.self.view_is)
                (ap (λ (r : ReaderRecord). r.front) self ∙ ap (λ (r : ReaderRecord). r.front) c.self.view_is),
            subst (λ (reply : Reply V). TellsNow h c.args.key reply) (sym w.result-is)
                (held_now V c.args.cache.now c.cache.inside.cells c.args.writer.now c.writer.inside.seat c.cache.view_is seat c.requires.of.1 c.args.key (Some (w.in-Some.held.value ++ w.in-Some.held.since ∷ [])) w.in-Some.ensures.found, c.catch_up-at.ensures.plain.1),
          )
      | in-None w ↦ (
        met_still V (seen V c.args.self.now) h c.match-look.self c.catch_up-at.new.self met (ap (λ (r : ReaderRecord). r.of) w.self-is) (ap (λ (r : ReaderRecord). r.front) w.self-is),
        subst (λ (reply : Reply V). TellsNow h c.args.key reply) (sym w.result-is)
            (held_now V c.args.cache.now c.cache.inside.cells c.args.writer.now c.writer.inside.seat c.cache.view_is seat c.requires.of.1 c.args.key None w.in-None.ensures.none, c.catch_up-at.ensures.plain.1),
      )
    ]
