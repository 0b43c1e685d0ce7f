-- The readers of a new table.
use Rattle.std.proofs.Common.{ℕ, zero, suc, ◌≡◌, List, [], refl, sym, subst, arith}
use Rattle.std.specs.Prelude.{All}
use Rattle.std.proofs.lemmas.List.Elements.{All-push}
use Rattle.mc_shared.specs.Records.{Opening, ReaderRecord, IsNewReader, reader_record, new_readers}

-- each reader is new when the table is opened
none_done : (o : Opening) (n : ℕ) → All (IsNewReader o) (new_readers o n)
none_done o zero = λ i d below. absurd (omega arith)
none_done o (suc n) = All-push (IsNewReader o) (new_readers o n) (reader_record o n [] []) (none_done o n) (record { of = refl; front = refl; done = refl })

-- none of them has done anything
pub all_new : (o : Opening) (n : ℕ) (rs : List ReaderRecord) → rs ≡ new_readers o n → All (IsNewReader o) rs
all_new o n rs e = subst (All (IsNewReader o)) (sym e) (none_done o n)
