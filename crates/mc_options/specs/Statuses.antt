-- The exit statuses of the programs; 0 is success.
use Rattle.std.specs.Prelude.{ℕ}

-- the request can't be met
abbrev pub refused : ℕ
refused = 2

-- the request failed: memory was short, or a read or a write failed
abbrev pub failed : ℕ
failed = 3
