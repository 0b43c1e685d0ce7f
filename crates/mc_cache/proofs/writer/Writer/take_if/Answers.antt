use Rattle.std.proofs.Common.{◌≡◌, ◌∙◌, ◌∷◌, [], ◌++◌, List, Some, Ok, ap, refl, subst}
use Rattle.mc_cache.specs.Plain.{history}
use Rattle.mc_cache.specs.Taking.{TakeMeans}
use Rattle.mc_words.specs.declared.history.Change.{Change}
use Rattle.mc_writer.specs.declared.entry.Take.{Take}
use Rattle.mc_writer.specs.declared.entry.Take.TheVariants.{Taken}
use Rattle.mc_cache.proofs.PlainCalls.{held_now, is_there, stamp_is}
use Rattle.mc_cache.proofs.writer.Writer.take_if.Goals as goal
use Rattle.mc_cache.proofs.writer.Writer.take_if.Goals.{in-Some+else-held-since, in_default}

pub returns-then-held-since-clause-plain : goal.returns-then-held-since-clause-plain
returns-then-held-since-clause-plain g c = (
  (
    record { key = c.args.key; value = c.in-Some.held.value; since = c.in-Some.held.since },
    (refl, held_now g.row.V c.args.cache.now c.cache.inside.cells c.args.self.now c.self.inside.seat c.cache.view_is c.self.view_is c.requires.of c.args.key (Some (c.in-Some.held.value ++ c.in-Some.held.since ∷ [])) c.in-Some.ensures.found),
    refl,
  ),
  c.if-held-since.true,
  ap (history g.row.V) (c.look.ensures.seat ∙ c.self.view_is),
)

pub returns-in-Ok-Taken-clause-plain : goal.returns-in-Ok-Taken-clause-plain
returns-in-Ok-Taken-clause-plain g c =
    let V = g.row.V in
    let before : history V c.look.new.seat ≡ history V c.args.self.now = ap (history V) (c.look.ensures.seat ∙ c.self.view_is) in
    let taken = subst (λ (h : List (Change V)). TakeMeans V h (history V c.take.new.self) c.args.key (Ok (Taken c.in-Ok-Taken.at c.in-Ok-Taken.old))) before (subst (λ (t : Take V). TakeMeans V (history V c.look.new.seat) (history V c.take.new.self) c.args.key (Ok t)) c.in-Ok-Taken.field-0-is c.in-Ok-Taken.ensures.plain) in (
      taken.0,
      taken.1,
      elim c.match-look.branch [
        | in-Some+else-held-since w ↦ stamp_is V c.args.cache.now c.cache.inside.cells c.args.self.now c.self.inside.seat c.cache.view_is c.self.view_is c.requires.of c.args.key w.in-Some.held.since w.in-Some.held.value c.in-Ok-Taken.old w.in-Some.ensures.found taken.1 ∙ w.if-held-since.false
        | in_default w ↦ absurd (is_there V c.args.cache.now c.cache.inside.cells c.args.self.now c.self.inside.seat c.cache.view_is c.self.view_is c.requires.of c.args.key c.in-Ok-Taken.old w.in_default.ensures.none taken.1)
      ],
    )

pub returns-in-Err-clause-plain : goal.returns-in-Err-clause-plain
returns-in-Err-clause-plain g c = (
  λ stays holds. elim c.match-look.branch [
    | in-Some+else-held-since w ↦ stamp_is g.row.V c.args.cache.now c.cache.inside.cells c.args.self.now c.self.inside.seat c.cache.view_is c.self.view_is c.requires.of c.args.key w.in-Some.held.since w.in-Some.held.value stays w.in-Some.ensures.found holds ∙ w.if-held-since.false
    | in_default w ↦ absurd (is_there g.row.V c.args.cache.now c.cache.inside.cells c.args.self.now c.self.inside.seat c.cache.view_is c.self.view_is c.requires.of c.args.key stays w.in_default.ensures.none holds)
  ],
  c.in-Err.ensures.plain ∙ ap (history g.row.V) (c.look.ensures.seat ∙ c.self.view_is),
)
