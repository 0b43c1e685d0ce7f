-- What one put of many returns.
use Rattle.std.proofs.Common.{ℕ, ◌≡◌, List, refl, inl, inr}
use Rattle.mc_door.specs.Batches.{put_answer}
use Rattle.mc_door.specs.Roles.{Role}
use Rattle.mc_door.specs.Writes.{WriteTells}
use Rattle.mc_door.specs.declared.outcome.Outcome.{Outcome}
use Rattle.mc_door.specs.declared.write.Write.TheVariants.{Put}
use Rattle.cefrodil.specs.Batches.{HasPutEntry}

-- what a put returns by a side that may be unchanged
pub put_one : (V : ℕ) (role role' : Role) (Same : Type 0) (entry : ℕ × List ℕ) (told : Outcome) → (Same → role' ≡ role) → WriteTells V role role' Same entry.0 Put entry.1 told
    → HasPutEntry V entry role role' (put_answer told)
put_one V role role' Same entry told stays (inl made) = record { told = told; is = refl; tells = inl made }
put_one V role role' Same entry told stays (inr width) = record { told = told; is = refl; tells = inr (width.0, width.1, stays width.2) }
