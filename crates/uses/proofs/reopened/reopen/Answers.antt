use Rattle.std.proofs.Common.{subst}
use Rattle.mc_shards.specs.Loadings.{HoldEntries}
use Rattle.uses.proofs.SameEntries.{same_values}
use Rattle.uses.proofs.reopened.reopen.Goals as goal

pub returns-in-Ok-open_shards_with : goal.returns-in-Ok-open_shards_with
returns-in-Ok-open_shards_with c =
    let sh = c.args.shape in
    let es = c.in-Ok.entries.items in
    let left = c.in-Ok-open_shards_with.opened.left.items in
    let closed = c.in-Ok.ensures.entries in
    let opened = c.in-Ok-open_shards_with.ensures.plain in
    let held = subst (λ xs. HoldEntries 1 sh xs opened.0 left) c.as_slice.ensures.value opened.1 in
    record {
      reopened = record {
        old = closed.0;
        new = opened.0;
        begin = closed.1;
        seen = opened.2;
        same = λ none k. same_values 1 c.args.shards.shape.mix sh closed.0 opened.0 es closed.2 (subst (λ xs. HoldEntries 1 sh es opened.0 xs) none held) k;
      };
    }
