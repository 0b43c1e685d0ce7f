use Rattle.std.proofs.Common.{◌≡◌, ◌∙◌, ap, subst}
use Rattle.mc_words.specs.declared.policy.Policy.TheVariants.{Clock}
use Rattle.mc_words.specs.declared.shape.Shape.{Shape}
use Rattle.mc_theory.specs.States.{opening}
use Rattle.mc_plan.specs.Loads.{Loads}
use Rattle.mc_shared.specs.Records.{Opening, WriterRecord}
use Rattle.mc_shared.specs.declared.layout.Layout.{Layout}
use Rattle.mc_cache.specs.Plain.{IsLegal, history}
use Rattle.mc_cache.proofs.LoadedEntries.{loaded_new, loads_plain}
use Rattle.mc_cache.proofs.PlainCalls.{new_sees_none}
use Rattle.mc_cache.proofs.loading.open_with.Goals as goal
use Rattle.mc_cache.proofs.loading.open_with.Goals.{After-load}
use Rattle.mc_cache.proofs.loading.open_with.Given.{Over}

loaded : (g : Over) (c : After-load g) → Loads g.row.V c.args.shape (opening g.row.V c.args.shape) 0 c.args.entries.now c.load.new.writer.acts (history g.row.V c.load.new.writer) c.load.new.left.items
loaded g c =
    let w = c.in_ok-cache.ensures.writer in
    loaded_new g.row.V Clock c.args.shape c.in_ok-cache.cache c.in_ok-cache.writer c.load.new.writer c.args.entries.now c.load.new.left.items c.in_ok-cache.ensures.cache (ap (λ (r : WriterRecord). r.of) w) (ap (λ (r : WriterRecord). r.acts) w) c.load.ensures.of c.load.ensures.loaded

pub returns-clause-loaded : goal.returns-clause-loaded
returns-clause-loaded g c = loaded g (goal.at.returns-clause-loaded g c).After-load

pub returns-clause-plain : goal.returns-clause-plain
returns-clause-plain g c =
    let V = g.row.V in
    let l = loaded g (goal.at.returns-clause-plain g c).After-load in
    let layout : c.load.new.writer.of ≡ c.in_ok-cache.cache = c.load.ensures.of ∙ ap (λ (r : WriterRecord). r.of) c.in_ok-cache.ensures.writer in
    let shape : c.load.new.writer.of.layout.shape ≡ c.args.shape = ap (λ (o : Opening). o.layout.shape) layout ∙ ap (λ (y : Layout). y.shape) c.in_ok-cache.ensures.cache in (
      loads_plain V Clock c.args.shape (opening V c.args.shape) 0 c.args.entries.now c.load.new.writer.acts (history V c.load.new.writer) c.load.new.left.items l,
      subst (λ (sh : Shape). IsLegal sh.items (history V c.load.new.writer)) shape c.known.ensures.plain,
      new_sees_none V c.in_ok-cache.cache c.in_ok-cache.readers.items c.in_ok-cache.ensures.fresh,
    )
