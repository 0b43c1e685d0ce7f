use Rattle.std.proofs.Common.{ℕ, ◌<◌, List, length, slice_index_or, subst, sym}
use Rattle.mc_shared.specs.Records.{ReaderRecord}
use Rattle.mc_load.proofs.Each.{each_front, each_last, each_more}
use Rattle.mc_shards.specs.Sharded.{ArePassOf}
use Rattle.thread_tests.specs.declared.shard_calls.Caller.{Caller}
use Rattle.thread_tests.proofs.shards.callers_of.Goals as goal

pub loop-pass-preserved : goal.loop-pass-preserved
loop-pass-preserved c =
    let s = c.args.shards.now in
    let xs = c.loop-pass.passes.items in
    let rest = c.pop.new.self.items in
    let made = c.in_ok-new.field-0 in
    let of = each_last (λ k (rs : List ReaderRecord). ArePassOf s rs) xs rest c.in-Some.pass c.in-Some.ensures.items c.loop-pass.invariant.passes in
    record {
      passes = each_front (λ k (rs : List ReaderRecord). ArePassOf s rs) xs rest c.in-Some.pass c.in-Some.ensures.items c.loop-pass.invariant.passes;
      callers = subst (λ (ks : List Caller). (k : ℕ) (d : Caller) → k < length ks → ArePassOf s (slice_index_or ks k d).pass) (sym c.in_ok-push.ensures.items)
          (each_more (λ k (x : Caller). ArePassOf s x.pass) c.loop-pass.callers.items made c.loop-pass.invariant.callers (subst (ArePassOf s) (sym c.in_ok-new.ensures) of));
    }
