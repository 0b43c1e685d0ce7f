use Rattle.std.proofs.Common.{ℕ, refl, rules, subst}
use Rattle.std.specs.List.{All}
use Rattle.mc_door.specs.NewPasses.{passes_on, shards_on}
use Rattle.cefrodil.specs.More.{AreMoreOf}
use Rattle.cefrodil.specs.Open.{kept}
use Rattle.cefrodil.specs.Openings.{IsPassAt}
use Rattle.cefrodil.proofs.Filling.{keeps}
use Rattle.cefrodil.proofs.more.open_more.Goals as goal

pub returns-clause-opened : goal.returns-clause-opened
returns-clause-opened c =
    let rest = c.in-Ok.rest in let handles = c.fill.new.handles in
    λ _. keeps (λ h. AreMoreOf h handles) (kept c.args.handle.now) c.held.result.now (search rules) (record {
      sharded = shards_on rest;
      records = passes_on rest;
      of = c.in-Ok.ensures.1.0;
      has_passes = subst (λ (w : ℕ). All (IsPassAt (shards_on rest) w (passes_on rest)) handles) c.in-Ok.ensures.0 (c.if-not-fill.ensures.filled refl);
    })
