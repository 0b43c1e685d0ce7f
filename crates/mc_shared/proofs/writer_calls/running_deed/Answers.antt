use Rattle.std.proofs.Common.{◌≡◌, ℕ, ◌%◌, ◌<◌, ap, sym, ◌∙◌, subst, arith}
use mathlib.Core.Logic.{dite}
use native.Mathlib.Decide.{ℕ_discrete}
use Rattle.mc_words.specs.Places.{version}
use Rattle.mc_words.specs.declared.shape.Shape.{Shape}
use Rattle.mc_theory.specs.Lists.{state_of}
use Rattle.mc_shared.specs.Records.{Opening}
use Rattle.mc_shared.specs.declared.layout.Layout.{Layout}
use Rattle.mc_shared.proofs.RunningVersion.{odd_runs, none_odd, fetched}
use Rattle.mc_shared.proofs.writer_calls.running_deed.Goals as goal

pub returns-then-count-eq1-clause-running : goal.returns-then-count-eq1-clause-running
returns-then-count-eq1-clause-running g c =
    let o = c.args.cells.now in
    let layout = ap (λ (p : Opening). p.layout) (sym c.cells.view_is) ∙ c.cells.invariant.0 in
    let shape : c.shape-stripe-end.result ≡ o.layout.shape = c.shape-stripe-end.ensures ∙ ap (λ (l : Layout). l.shape) (sym layout) in
    let below = c.loop-stripe-test.true in
    let found = fetched g.row.V o.layout.shape c.args.writer.now c.loop-stripe.writer c.loop-stripe.stripe _ _ c.loop-stripe.invariant.0 c.version_place-place.ensures c.fetch-count.ensures.word in
    odd_runs g.row.V c.args.writer.now o c.requires.of (ap (λ (l : Layout). l.width) layout) c.known.ensures.run c.loop-stripe.stripe _
    (subst (λ (sh : Shape). c.loop-stripe.stripe < sh.stripes) shape below)
    c.version_place-place.ensures found c.if-count-eq1.true

pub loop-stripe-preserved : goal.loop-stripe-preserved
loop-stripe-preserved g c =
    let o = c.args.cells.now in
    let found = fetched g.row.V o.layout.shape c.args.writer.now c.loop-stripe.writer c.loop-stripe.stripe _ _ c.loop-stripe.invariant.0 c.version_place-place.ensures c.fetch-count.ensures.word in (
      c.fetch-count.ensures.writer ∙ c.loop-stripe.invariant.0,
      λ t below. dite (ℕ_discrete t c.loop-stripe.stripe)
          (λ same.
          let here = ap (λ (n : ℕ). version (state_of g.row.V o.layout.shape c.args.writer.now.acts).words n % 2) same in
          omega (arith, here, ap (λ (n : ℕ). n % 2) found, c.if-count-eq1.false))
          (λ other. c.loop-stripe.invariant.1 t (omega (arith, below, other))),
    )

pub returns-clause-running : goal.returns-clause-running
returns-clause-running g c =
    let o = c.args.cells.now in
    let layout = ap (λ (p : Opening). p.layout) (sym c.cells.view_is) ∙ c.cells.invariant.0 in
    let shape : c.shape-stripe-end.result ≡ o.layout.shape = c.shape-stripe-end.ensures ∙ ap (λ (l : Layout). l.shape) (sym layout) in
    none_odd g.row.V c.args.writer.now o c.requires.of (ap (λ (l : Layout). l.width) layout) c.known.ensures.run _
    (λ t below. c.loop-stripe.invariant.1 t (omega (arith, below, c.loop-stripe-test.false, ap (λ (sh : Shape). sh.stripes) shape)))
