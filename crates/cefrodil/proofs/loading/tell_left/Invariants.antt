use Rattle.std.specs.Prelude.{ℕ, ◌≡◌, ◌+◌, EachIndex, drop, length, slice_index}
use Rattle.cefrodil.specs.Loading.{entry_status}
use Rattle.cefrodil.proofs.loading.tell_left.Given as goal

abbrev pub invariant-loop-told : goal.invariant-loop-told
invariant-loop-told l = (rest : ℕ) → l.told + rest ≡ length l.left → EachIndex l.statuses (λ i. slice_index l.statuses i ≡ entry_status (drop rest l.left) i)
