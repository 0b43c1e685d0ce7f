use Rattle.std.proofs.Common.{rules, ℕ, List, All, ◌≡◌, ◌+◌, [], ◌∷◌, Some, ap, arith, length, subst, sym, ◌∙◌}
use Rattle.std.proofs.lemmas.List.{length-append}
use Rattle.mc_load.proofs.Each.{each_front, each_last, each_more}
use Rattle.mc_load.specs.Inside.Handles.{cache_of, place_of}
use Rattle.mc_load.specs.Inside.Workers.{AreReadersIn, AreReadersOf, AreReady, IsReady}
use Rattle.mc_load.specs.declared.handle.Handle.{Handle}
use Rattle.mc_load.specs.declared.reader_thread.ReaderThread.{ReaderThread}
use Rattle.mc_load.proofs.ready.reader_threads_of.Goals as goal

pub loop-handle-preserved : goal.loop-handle-preserved
loop-handle-preserved g c =
    let V = g.row.V in
    let load = c.args.load in
    let was = c.loop-handle.invariant in
    let xs = c.loop-handle.handles.items in
    let rest = c.pop.new.self.items in
    let h = c.in-Some.handle in
    let ls = c.loop-handle.reader_threads.items in
    let l = c.in_ok-reader_thread_of.field-0 in
    let one : length xs ≡ length rest + 1 = ap length c.in-Some.ensures.items ∙ length-append rest (h ∷ []) in
    let more : length c.push.new.self.items ≡ length ls + 1 = ap length c.in_ok-push.ensures.items ∙ length-append ls (l ∷ []) in
    let place : c.len-number.result ≡ length ls = search rules in
    record {
      many = omega (arith, one, more, was.many);
      many_keys = subst (λ (xs : List (ReaderThread V)). All (λ (x : ReaderThread V). x.many ≡ c.args.many) xs) (sym c.in_ok-push.ensures.items) (each_more (λ k (x : ReaderThread V). x.many ≡ c.args.many) ls l was.many_keys c.in_ok-reader_thread_of.ensures.many);
      ready = subst (AreReady V load) (sym c.in_ok-push.ensures.items) (each_more (IsReady V load) ls l was.ready (subst (λ (k : ℕ). IsReady V load k l) place c.in_ok-reader_thread_of.ensures.ready));
      rest = λ o all. each_front (λ k (x : Handle V). cache_of x ≡ Some o) xs rest h c.in-Some.ensures.items (was.rest o all);
      of = λ o all.
          subst (AreReadersOf o) (sym c.in_ok-push.ensures.items)
          (each_more (λ k (x : ReaderThread V). cache_of x.handle ≡ Some o) ls l (was.of o all)
          (ap (λ (x : Handle V). cache_of x) c.in_ok-reader_thread_of.ensures.handle ∙ each_last (λ k (x : Handle V). cache_of x ≡ Some o) xs rest h c.in-Some.ensures.items (was.rest o all)));
      left = λ s all. each_front (λ k (x : Handle V). place_of x ≡ s) xs rest h c.in-Some.ensures.items (was.left s all);
      place = λ s all.
          subst (AreReadersIn s) (sym c.in_ok-push.ensures.items)
          (each_more (λ k (x : ReaderThread V). place_of x.handle ≡ s) ls l (was.place s all)
          (ap (λ (x : Handle V). place_of x) c.in_ok-reader_thread_of.ensures.handle ∙ each_last (λ k (x : Handle V). place_of x ≡ s) xs rest h c.in-Some.ensures.items (was.left s all)));
    }
