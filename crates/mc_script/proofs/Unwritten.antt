-- What is left to be written.
use Rattle.std.proofs.Common.{◌≡◌, ℕ, ◌-◌, List, length, take, drop, arith, take_all, length-drop}

-- the rest of a list, taken as a slice up to its end
pub slice-end : (field : List ℕ) (s : ℕ) → take (length field - s) (drop s field) ≡ drop s field
slice-end field s =
    let len = length-drop s field in
    take_all (length field - s) (drop s field) (omega arith)
