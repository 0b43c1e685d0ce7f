-- The lines of a script's bytes, and what reading one of them gives.
use Rattle.std.specs.Prelude.{◌≡◌, ◌≢◌, ℕ, zero, suc, ◌<◌, ◌≤◌, ◌==◌, ◌&&◌, ◌||◌, not, Bool, true, false, All, List, [], ◌∷◌, length, slice_index, take, drop, nat_lt, Option, Some, None, Result, Ok, Err, if◌then◌else◌, ⊤}
use Rattle.std.specs.Io.BufRead.{first_line, drop_through}
use Rattle.std.specs.Io.KnownBytes.{Consumes}
use Rattle.mc_script.specs.declared.line.ReadFault.{ReadFault}
use Rattle.mc_script.specs.declared.line.ReadFault.TheVariants.{ReadFailed, TooLong}

-- The lines of some bytes: each ends at a line feed, at a carriage return and a line feed, or at the end. n is at least the number of bytes.
unfoldable pub lines_within : ℕ → List ℕ → List (List ℕ)
lines_within zero bytes = []
lines_within (suc n) [] = []
lines_within (suc n) (b ∷ bytes) = first_line (b ∷ bytes) ∷ lines_within n (drop_through 10 (b ∷ bytes))

abbrev pub lines_of : List ℕ → List (List ℕ)
lines_of bytes = lines_within (length bytes) bytes

-- the bytes after this many lines
unfoldable pub after_lines : ℕ → List ℕ → List ℕ
after_lines zero bytes = bytes
after_lines (suc n) bytes = after_lines n (drop_through 10 bytes)

-- more bytes than a line may have, whatever follows: a last carriage return may belong to the line's end
abbrev pub is_over : List ℕ → Bool
is_over bytes = nat_lt 4097 (length bytes) || ((length bytes == 4097) && not (slice_index bytes 4096 == 13))

-- how many bytes show that a line is too long: one too many or, if that one is a carriage return, the next one too
abbrev pub length_over : List ℕ → ℕ
length_over bytes = if slice_index bytes 4096 == 13 then 4098 else 4097

-- these bytes were taken: no line feed is among them, and they may still become a line
pub record IsUnfinished (old new : Option (List ℕ)) (line : List ℕ) : Type 0 where
  pub taken : Consumes old new line
  pub plain : All (λ b. b ≢ 10) line
  pub short : is_over line ≡ false

-- Reading a line gives the first line and takes its bytes, or finds the end. Of a line that is too long it takes the bytes that show it,
-- and if it fails a beginning that isn't too long; `line` then holds these bytes.
abbrev pub GivesLine : Option (List ℕ) → Option (List ℕ) → List ℕ → Result Bool ReadFault → Type 0
GivesLine None new line result = ⊤
GivesLine (Some bytes) new line (Ok true) = (0 < length bytes) × (line ≡ first_line bytes) × (length line ≤ 4096) × (new ≡ Some (drop_through 10 bytes))
GivesLine (Some bytes) new line (Ok false) = (bytes ≡ []) × (new ≡ Some [])
GivesLine (Some bytes) new line (Err TooLong) = (0 < length bytes) × (4096 < length (first_line bytes)) × (line ≡ take (length_over bytes) bytes) × (new ≡ Some (drop (length_over bytes) bytes))
GivesLine (Some bytes) new line (Err ReadFailed) = IsUnfinished (Some bytes) new line
