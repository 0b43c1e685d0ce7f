-- What the gate refused.
use Rattle.std.specs.Prelude.{ℕ, ◌≡◌, ◌+◌, ◌<◌, IfSome, List, None, Some, length, slice_index_or}
use Rattle.mc_load.specs.declared.error.LoadError.{LoadError}
use Rattle.mc_load.specs.declared.error.LoadError.TheVariants as error
use Rattle.mc_load.specs.declared.reader_thread.ReaderThread.{ReaderThread}
use Rattle.mc_load.specs.declared.turn_thread.TurnThread.{TurnThread}

-- the gate may refuse each call that it refused a reader
abbrev pub AreRefusedBy : {V : ℕ} → (ℕ → ℕ → Type 0) → List (ReaderThread V) → Type 0
AreRefusedBy {V} may ls = (n : ℕ) (d : ReaderThread V) → n < length ls → IfSome (slice_index_or ls n d).refused (λ call. may (n + 1) call)

-- reader n is the first reader that the gate refused a call, and this is the call
pub record IsFirstRefused {V : ℕ} (ls : List (ReaderThread V)) (n call : ℕ) : Type 0 where
  pub below : n < length ls
  pub reader : ReaderThread V
  pub is : reader ≡ slice_index_or ls n reader
  pub refused : reader.refused ≡ Some call
  pub first : (k : ℕ) (d : ReaderThread V) → k < n → (slice_index_or ls k d).refused ≡ None

-- the refusal of the first reader that the gate refused a call
abbrev pub IsFirstRefusal : {V : ℕ} → List (ReaderThread V) → LoadError → Type 0
IsFirstRefusal ls (error.Gate who call) = (n : ℕ) × (who ≡ n + 1) × IsFirstRefused ls n call
IsFirstRefusal ls error.Writers = ⊥
IsFirstRefusal ls error.Shards = ⊥
IsFirstRefusal ls error.Keys = ⊥
IsFirstRefusal ls error.NoMemory = ⊥
IsFirstRefusal ls (error.Open why) = ⊥

-- the gate may refuse each call that it refused one of the writers that take turns
abbrev pub AreTriesRefusedBy : {V : ℕ} → (ℕ → ℕ → Type 0) → List (TurnThread V) → Type 0
AreTriesRefusedBy {V} may ts = (n : ℕ) (d : TurnThread V) → n < length ts → IfSome (slice_index_or ts n d).refused (λ call. may (slice_index_or ts n d).who call)

-- it refused none of the writers a call
abbrev pub AreTriesLetThrough : {V : ℕ} → List (TurnThread V) → ℕ → Type 0
AreTriesLetThrough {V} ts many = (n : ℕ) (d : TurnThread V) → n < many → (slice_index_or ts n d).refused ≡ None

-- this call of writer n was refused
pub record IsRefusedTry {V : ℕ} (ts : List (TurnThread V)) (n who call : ℕ) : Type 0 where
  pub below : n < length ts
  pub writer : TurnThread V
  pub is : writer ≡ slice_index_or ts n writer
  pub named : who ≡ writer.who
  pub refused : writer.refused ≡ Some call

abbrev pub IsTryRefusal : {V : ℕ} → List (TurnThread V) → LoadError → Type 0
IsTryRefusal ts (error.Gate who call) = (n : ℕ) × IsRefusedTry ts n who call
IsTryRefusal ts error.Writers = ⊥
IsTryRefusal ts error.Shards = ⊥
IsTryRefusal ts error.Keys = ⊥
IsTryRefusal ts error.NoMemory = ⊥
IsTryRefusal ts (error.Open why) = ⊥
