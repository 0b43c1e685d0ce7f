-- Replies in the order of their moments.
use Rattle.std.specs.Prelude.{ℕ, ◌≡◌, ◌≤◌}
use Rattle.mc_cache.specs.Reply.{Reply}
use Rattle.mc_cache.specs.Reply.TheVariants.{Found, Absent, Busy}

-- the reply has this moment
abbrev pub IsAt : Reply 1 → ℕ → Type 0
IsAt (Found v at since) n = at ≡ n
IsAt (Absent at) n = at ≡ n
IsAt Busy n = ⊥

-- the first has no later moment than the second, if both have one
abbrev pub AreInOrder : Reply 1 → Reply 1 → Type 0
AreInOrder r s = (m n : ℕ) → IsAt r m → IsAt s n → m ≤ n
