use Rattle.std.proofs.Common.{ℕ, ◌≡◌, ◌+◌, [], ◌∷◌, ap, arith, length, subst, sym, ◌∙◌}
use Rattle.std.proofs.lemmas.List.{length-append}
use Rattle.mc_load.proofs.Each.{each_front, each_last, each_more}
use Rattle.mc_load.specs.Inside.Handles.{place_of}
use Rattle.mc_load.specs.Inside.Tries.{CanAllTry, CanTry}
use Rattle.mc_load.specs.declared.handle.Handle.{Handle}
use Rattle.mc_load.proofs.turns_ready.turn_threads_of.Goals as goal

pub loop-number-preserved : goal.loop-number-preserved
loop-number-preserved g c =
    let V = g.row.V in
    let load = c.args.load in
    let n = c.loop-number.number in
    let xs = c.loop-number.handles.items in
    let rest = c.pop.new.self.items in
    let t = c.in_ok-turn_thread_of.field-0 in
    let test = c.loop-number-test.true in
    let one : length xs ≡ length rest + 1 = ap length c.in-Some.ensures.items ∙ length-append rest (c.in-Some.handle ∷ []) in
    record {
      many = ap length c.in_ok-push.ensures.items ∙ (length-append c.loop-number.turn_threads.items (t ∷ []) ∙ ap (λ (k : ℕ). k + 1) c.loop-number.invariant.many);
      left = omega (arith, one, test, c.loop-number.invariant.left);
      rest = λ s all. each_front (λ k (h : Handle V). place_of h ≡ s) xs rest c.in-Some.handle c.in-Some.ensures.items (c.loop-number.invariant.rest s all);
      ready = λ s all.
          let of = each_last (λ k (h : Handle V). place_of h ≡ s) xs rest c.in-Some.handle c.in-Some.ensures.items (c.loop-number.invariant.rest s all) in
          let here : CanTry V s load n t = c.in_ok-turn_thread_of.ensures s of in
          subst (CanAllTry V s load) (sym c.in_ok-push.ensures.items)
          (each_more (CanTry V s load) c.loop-number.turn_threads.items t (c.loop-number.invariant.ready s all) (subst (λ (k : ℕ). CanTry V s load k t) (sym c.loop-number.invariant.many) here));
    }
