use Rattle.std.proofs.Common.{◌≡◌, ◌∙◌, ◌++◌, ◌∷◌, [], List, None, Option, Some, false, refl, subst, sym, true}
use Rattle.std.specs.Prelude.{IsSome, ℕ}
use Rattle.mc_cache.proofs.PlainCalls.{held_now}
use Rattle.mc_cache.proofs.writer.Writer.has.Goals as goal
use Rattle.mc_cache.proofs.writer.Writer.has.Goals.{in-Some, in-None}

apart : true ≡ false → ⊥
apart e = absurd (cc)

pub returns-clause-width : goal.returns-clause-width
returns-clause-width g c = c.self.invariant.0.known.width

pub returns-clause-there : goal.returns-clause-there
returns-clause-there g c is =
    elim c.match-look.branch [
      | in-Some w ↦
          let held = w.in-Some._held.value ++ w.in-Some._held.since ∷ [] in
          subst (λ (o : Option (List ℕ)). IsSome o) (sym (held_now g.row.V c.args.cache.now c.cache.inside.cells c.args.self.now c.self.inside.seat c.cache.view_is c.self.view_is c.requires.of c.args.key (Some held) w.in-Some.ensures.found)) refl
      | in-None w ↦ absurd (apart (sym is ∙ w.result-is))
    ]

pub returns-clause-absent : goal.returns-clause-absent
returns-clause-absent g c not =
    elim c.match-look.branch [
      | in-Some w ↦ absurd (not w.result-is)
      | in-None w ↦ held_now g.row.V c.args.cache.now c.cache.inside.cells c.args.self.now c.self.inside.seat c.cache.view_is c.self.view_is c.requires.of c.args.key None w.in-None.ensures.none
    ]
