-- What the calls of readers add to their records: whole lookups and single marks, so that executions of these calls are traces.
use Rattle.std.specs.Prelude.{◌≡◌, ℕ, ◌^◌, ◌<◌, All, List, [], None}
use Rattle.mc_words.specs.declared.history.Reply.{Reply}
use Rattle.mc_words.specs.declared.shape.Shape.{Shape}
use Rattle.mc_theory.specs.Lists.{Made}
use Rattle.mc_theory.specs.Readings.{Reading}
use Rattle.mc_shared.specs.Records.{ReaderRecord}
use Rattle.mc_reader.specs.Records.{HasLooked, HaveLooked}
use Rattle.mc_cache.specs.Beside.{HasLookedBeside}
use Rattle.mc_cache.specs.Turns.{HasFallenBack}
use Rattle.mc_executions.specs.ExecutionTraces.{Parts, IsMadeOf}

-- the record is made of parts, and no lookup runs
abbrev pub IsWhole : (V : ℕ) → Shape → List Reading → Type 0
IsWhole V sh done = (p : Parts V) × (p.running ≡ None) × IsMadeOf V sh done p

-- A new reader's record is whole, and each call leaves a whole record whole: a lookup, lookups of many keys, a lookup beside the writer, and one
-- that falls back. Other calls leave the record as it was
pub record CallsKeepWhole (V : ℕ) : Type 0 where
  pub new : (sh : Shape) → IsWhole V sh []
  pub get : (sh : Shape) (k : ℕ) (before after : ReaderRecord) (reply : Reply V) → k < 2 ^ 64 → HasLooked V sh k before after reply → IsWhole V sh before.done → IsWhole V sh after.done
  pub get_many : (sh : Shape) (ks : List ℕ) (before after : ReaderRecord) (replies : List (Reply V)) → All (λ k. k < 2 ^ 64) ks → HaveLooked V sh ks before after replies → IsWhole V sh before.done → IsWhole V sh after.done
  pub get_beside : (sh : Shape) (k : ℕ) (acts : List Made) (before after : ReaderRecord) (reply : Reply V) → HasLookedBeside V sh k acts before after reply → IsWhole V sh before.done → IsWhole V sh after.done
  pub falls_back : (sh : Shape) (k : ℕ) (before after : ReaderRecord) (reply : Reply V) → k < 2 ^ 64 → HasFallenBack V sh k before after reply → IsWhole V sh before.done → IsWhole V sh after.done
