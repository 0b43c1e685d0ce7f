-- One step of the hand round the items.
use Rattle.std.proofs.Common.{◌≡◌, ◌≢◌, ◌+◌, ◌%◌, ◌<◌, ℕ, arith, subst, sym}
use Rattle.std.proofs.Math.Nat.{mod_self, mod-eq_of_lt}

-- after the last item comes item 0
pub turn_over : (i n : ℕ) → i + 1 ≡ n → 0 ≡ (i + 1) % n
turn_over i n e = sym (subst (λ (y : ℕ). y % n ≡ 0) (sym e) (mod_self n))

-- after any other comes the next
pub turn_on : (i n : ℕ) → i < n → i + 1 ≢ n → i + 1 ≡ (i + 1) % n
turn_on i n l ne = sym (mod-eq_of_lt (omega arith))
